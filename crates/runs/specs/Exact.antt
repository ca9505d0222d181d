-- Demand 3, exact sums: one statement about the whole run.
use Rattle.std.specs.Prelude.{ℕ, Bool, true, false, ◌↔◌, ◌≡◌, get_or}
use mathlib.Core.List.{List, Memᴰ}
use Rattle.integers.specs.Bits.{signed_of}
use Rattle.accumulator.specs.Store.{HalfUnit}
use Rattle.operations.specs.declared.operation.Operation.{Operation}
use Rattle.state.specs.declared.settings.Settings.{Settings}
use Rattle.state.specs.declared.state.State.{State}
use Rattle.effects.specs.declared.access.Place.{Place}
use Rattle.effects.specs.declared.access.Place.TheVariants.{Nowhere, Register, Memory}
use Rattle.machine.specs.Control.{control_of, clears}
use Rattle.runs.specs.Run.{Result}
use Rattle.runs.specs.Run.Stop.{left}
use Rattle.runs.specs.Engine.{Engine, engine_run}
use Rattle.runs.specs.Ledger.{Entry, Ledger}
use Rattle.runs.specs.Holds.{holds}

-- some operation of a program clears a saturation flag, reached or not
abbrev pub holds_clear : List Operation → Bool
holds_clear p = holds (λ o. clears (control_of o)) p

-- both saturation flags are clear
pub record FlagsClear (s : State) : Type 0 where
  pub sa : s.sa ≡ false
  pub sb : s.sb ≡ false

-- what stands in the register or memory word stored to
unfoldable pub word_in : Engine → Place → ℕ
word_in x Nowhere = 0
word_in x (Register r) = get_or x.state.core.w r 0
word_in x (Memory i) = get_or x.memory i.0 0

-- the engine's stored word at a step: what stands there after its run from the same start, with the steps up to and including that one as budget
abbrev pub stored_at : List Operation → Settings → State → List ℕ → Entry → ℕ
stored_at p settings s memory e = word_in (engine_run p settings e.step s memory).machine e.place

-- engine and ledger end alike in everything the ledger has
pub record Alike (x : Result Engine) (y : Result Ledger) : Type 0 where
  pub core : x.machine.state.core ≡ y.machine.core
  pub memory : x.machine.memory ≡ y.machine.memory
  pub steps : x.steps ≡ y.steps
  pub stop : x.stop ≡ y.stop

-- no exact result of the ledger left the limits in force at its step
abbrev pub NeverLeft : Result Ledger → Type 0
NeverLeft y = y.stop ≡ left → ⊥

-- the exact sums of program p with these settings from state s and this memory: x is how the engine's run ends, y how the ledger's ends under the same
-- budget
pub record ExactSums (p : List Operation) (settings : Settings) (s : State) (memory : List ℕ) (x : Result Engine) (y : Result Ledger) : Type 0 where
  -- both flags are clear at the end exactly when no exact result left the limits
  pub flags : FlagsClear x.machine.state ↔ NeverLeft y
  -- then engine and ledger end alike
  pub alike : NeverLeft y → Alike x y
  -- the word of each store on the ledger's list is the engine's stored word at its step, read as signed
  pub words : (e : Entry) → Memᴰ e y.machine.stores → signed_of 16 (stored_at p settings s memory e) ≡ e.word
  -- for each rounded store that needed no limiting, 65,536 × that word differs from the exact scaled value by at most 32,768
  pub half :
      (e : Entry) → Memᴰ e y.machine.stores → e.rounded ≡ true → e.limiting ≡ false →
      HalfUnit (stored_at p settings s memory e) e.value
