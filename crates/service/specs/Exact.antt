-- Exact sums over a whole service: one statement about every bag.
use Rattle.std.specs.Prelude.{ℕ, true, false, ◌↔◌, ◌≡◌, length}
use mathlib.Core.List.{List, [], ◌∷◌, Memᴰ}
use Rattle.integers.specs.Bits.{signed_of}
use Rattle.accumulator.specs.Store.{HalfUnit}
use Rattle.accumulator.specs.declared.mode.Target.{Target}
use Rattle.operations.specs.declared.operation.Operation.{Operation}
use Rattle.program.specs.File.{program_of}
use Rattle.state.specs.State.{accumulator_at}
use Rattle.state.specs.declared.settings.Settings.{Settings}
use Rattle.state.specs.declared.state.State.{State}
use Rattle.machine.specs.Single.{call_refusal}
use Rattle.runs.specs.Engine.{Engine}
use Rattle.runs.specs.Ledger.{Entry, Ledger}
use Rattle.runs.specs.Run.{Result}
use Rattle.runs.specs.Exact.{holds_clear, FlagsClear, NeverLeft, Alike, stored_at}
use Rattle.state.specs.Typed.{AreWords}
use Rattle.service.specs.Service.{Bag, Served, engine_service, engine_after, call_service, ledger_service}

-- what the controller makes of a memory of so many words of 16 bits is one again
pub record Sound (size : ℕ) (b : Bag) : Type 0 where
  pub long : (memory : List ℕ) → length memory ≡ size → length (b.fills memory) ≡ size
  pub words : (memory : List ℕ) → length memory ≡ size → AreWords memory → AreWords (b.fills memory)

-- P holds of each
abbrev pub Every : {X : Type 0} → (X → Type 0) → List X → Type 0
Every P [] = Unit {0}
Every P (x ∷ xs) = P x × Every P xs

-- P holds of each pair, and there are as many of the one as of the other
abbrev pub Pairs : {X Y : Type 0} → (X → Y → Type 0) → List X → List Y → Type 0
Pairs P [] [] = Unit {0}
Pairs P [] (y ∷ ys) = ⊥
Pairs P (x ∷ xs) [] = ⊥
Pairs P (x ∷ xs) (y ∷ ys) = P x y × Pairs P xs ys

-- P holds of each pair, as far as the second list goes
abbrev pub AsFar : {X Y : Type 0} → (X → Y → Type 0) → List X → List Y → Type 0
AsFar P xs [] = Unit {0}
AsFar P [] (y ∷ ys) = ⊥
AsFar P (x ∷ xs) (y ∷ ys) = P x y × AsFar P xs ys

-- no bag's ledger run left the limits
abbrev pub NoneLeft : List (Result Ledger) → Type 0
NoneLeft = Every NeverLeft

-- a bag's runs end alike: core, memory, steps, ending
abbrev pub AlikeIn : Served → Result Ledger → Type 0
AlikeIn u v = Alike u.result v

-- the engine's stored word at the step of an entry of this bag
abbrev pub stored_in : List Operation → Settings → Served → Entry → ℕ
stored_in p settings u e = stored_at p settings u.before.state u.before.memory e

-- the word of each store on this bag's list is the engine's stored word at its step; where it is rounded and needed no limiting, half a unit off at most
pub record StoresRight (p : List Operation) (settings : Settings) (u : Served) (v : Result Ledger) : Type 0 where
  pub words : (e : Entry) → Memᴰ e v.machine.stores → signed_of 16 (stored_in p settings u e) ≡ e.word
  pub half :
      (e : Entry) → Memᴰ e v.machine.stores → e.rounded ≡ true → e.limiting ≡ false → HalfUnit (stored_in p settings u e) e.value

-- the exact sums of a service that began with engine x: us is how the engine served its bags, vs how the ledger did
pub record ExactService (p : List Operation) (settings : Settings) (x : Engine) (us : List Served) (vs : List (Result Ledger)) : Type 0 where
  -- both flags are clear after the last bag exactly when no bag's ledger run left the limits
  pub flags : FlagsClear (engine_after x us).state ↔ NoneLeft vs
  -- then engine and ledger are alike after every bag
  pub alike : NoneLeft vs → Pairs AlikeIn us vs
  -- every store of every bag that the ledger served, up to the first that left the limits, is right
  pub stores : AsFar (StoresRight p settings) us vs

-- the saturation flag of t, where it is set before a bag, is set after it: of every bag, from state s on
abbrev pub Staying : Target → State → List Served → Type 0
Staying t s [] = Unit {0}
Staying t s (u ∷ us) =
    let s' = u.result.machine.state in
    ((accumulator_at s t).saturation ≡ true → (accumulator_at s' t).saturation ≡ true) × Staying t s' us

-- ---- by calls

-- what the calls for a run of a file, one for each bag, are promised to come to
pub record Serves (file : List ℕ) (settings : Settings) (x : Engine) (bags : List Bag) : Type 0 where
  -- no bag is refused
  pub accepted :
      Every (λ (u : Served). call_refusal file settings u.before.state (length u.before.memory) ≡ 0) (call_service file settings x bags)
  -- nor is a call with what the last one left
  pub again :
      let x' = engine_after x (call_service file settings x bags) in
      call_refusal file settings x'.state (length x'.memory) ≡ 0
  -- each is the run of the file's program
  pub runs : call_service file settings x bags ≡ engine_service (program_of file) settings x bags
  -- a saturation flag that is set stays set through every later bag: no operation that clears one
  pub stays : holds_clear (program_of file) ≡ false → (t : Target) → Staying t x.state (call_service file settings x bags)
  -- exact sums over all of them: no operation that clears a saturation flag, both flags clear before the first
  pub exact :
      holds_clear (program_of file) ≡ false → FlagsClear x.state →
      ExactService (program_of file) settings x (call_service file settings x bags)
      (ledger_service (program_of file) settings x.state.core x.memory bags)
