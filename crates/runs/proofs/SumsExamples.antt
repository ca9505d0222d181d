-- What the statements about whole runs say by themselves of worked runs: each clause taken out and computed with. Assumes nothing.
use Prim.Native.Nat.{ℕ, ◌-◌, ◌^◌}
use mathlib.Core.Bool.{true, false, false≢true}
use mathlib.Core.List.{List, [], ◌∷◌, Memᴰ}
use mathlib.Core.Path.{◌≡◌, refl, sym, ap}
use lib.IntN.{pos}
use lib.ListN.{set}
use Rattle.integers.specs.Bits.{signed_of}
use Rattle.integers.specs.Range.{minus}
use Rattle.accumulator.specs.Store.{HalfUnit}
use Rattle.accumulator.specs.declared.mode.Target.TheVariants.{A, B}
use Rattle.operations.specs.declared.operation.Action.TheVariants.{Mac}
use Rattle.operations.specs.declared.operation.WriteBack.TheVariants.{Memory as ToMemory}
use Rattle.operations.specs.declared.operation.Operand.TheVariants.{Register as Direct}
use Rattle.operations.specs.declared.operation.Operation.{Operation}
use Rattle.operations.specs.declared.operation.Operation.TheVariants.{AddAccumulators, Sac, SacR, Literal}
use Rattle.state.specs.declared.settings.Settings.{Settings}
use Rattle.state.specs.declared.state.Core.{Core}
use Rattle.state.specs.declared.state.State.{State}
use Rattle.state.proofs.Made.{◌but◌, reg, in_a, in_b, at, by, flags}
use Rattle.effects.specs.declared.access.Place.TheVariants.{Nowhere, Register}
use Rattle.endings.specs.declared.ending.Ending.{Ending}
use Rattle.endings.specs.declared.ending.Ending.TheVariants.{Done, Spent, Trap}
use Rattle.runs.specs.Run.{is_left, Result}
use Rattle.runs.specs.Run.Stop.{ended, left}
use Rattle.runs.specs.Engine.{Engine}
use Rattle.runs.specs.Ledger.{Entry, Ledger}
use Rattle.runs.specs.Exact.{FlagsClear, NeverLeft, word_in, stored_at, ExactSums}
use Rattle.runs.proofs.Opened.{exact}
use Rattle.runs.proofs.RunExamples.{trapping, plain, memory, start, ends, entry, word, bare, near}

-- ---- a run with SATDW off

-- A, 100,000, rounded to W3: 2; MAC A by 3 × -2 doubled with B, -70,000, written back to word 5: -1; A, 99,988, truncated to W1: 1
abbrev run_stores : List Operation
run_stores = SacR A 8 (Direct 3) ∷ bare Mac A 4 5 ToMemory ∷ Sac A 8 (Direct 1) ∷ []

abbrev run_start : State
run_start = start but by 0 but reg 4 3 but reg 5 0xfffe but reg 13 0x100a but in_a (pos 100000) but in_b (minus 70000)

abbrev rounded_entry : Entry
rounded_entry = entry 1 (Register 3) (pos 100000) (pos 2) false true

abbrev back_entry : Entry
back_entry = entry 2 (word 5) (minus 70000) (minus 1) false true

abbrev truncated_entry : Entry
truncated_entry = entry 3 (Register 1) (pos 99988) (pos 1) false false

-- exact sums of a program from a start with this memory under a budget of 9: x is how an engine ends
abbrev Said : List Operation → Settings → State → Result Engine → Type 0
Said p settings s x = ExactSums p settings s memory x (exact p settings 9 s memory)

-- a run that ended is not left
ended_stays : (e : Ending) → ended e ≡ left → ⊥
ended_stays e is = false≢true (ap is_left is)

-- a core with both flags clear
abbrev unflagged : Core → State
unflagged c = record { core = c; sa = false; sb = false }

-- where the ledger ended, an engine of which it is true ends in one way: the ledger's, both flags clear
decided : (p : List Operation) (settings : Settings) (s : State) (ram : List ℕ) (x : Result Engine) (y : Result Ledger)
    → ExactSums p settings s ram x y → NeverLeft y
    → x ≡ record { machine = record { state = unflagged y.machine.core; memory = y.machine.memory }; steps = y.steps; stop = y.stop }
decided p settings s ram x y h never =
    let flags = h.flags.1 never in
    let same = h.alike never in
    λ i.
    record {
      machine = record { state = record { core = same.core i; sa = flags.sa i; sb = flags.sb i }; memory = same.memory i };
      steps = same.steps i;
      stop = same.stop i;
    }

-- three steps; W1 is 1, W3 2, word 5 FFFF hex, W13 past it; both flags clear
run_said : (x : Result Engine) → Said run_stores plain run_start x
    → x ≡ ends Done 3 (run_start but at 3 but reg 1 1 but reg 3 2 but reg 13 0x100c but in_a (pos 99988)) (set memory 5 0xffff)
unfolding exact
run_said x h = decided run_stores plain run_start memory x _ h (ended_stays Done)

-- the engine's stored words, read as signed, by the list and not by a run of the engine
words_said : (x : Result Engine) → Said run_stores plain run_start x
    → (signed_of 16 (stored_at run_stores plain run_start memory rounded_entry) ≡ pos 2)
    × (signed_of 16 (stored_at run_stores plain run_start memory back_entry) ≡ minus 1)
    × (signed_of 16 (stored_at run_stores plain run_start memory truncated_entry) ≡ pos 1)
unfolding exact
words_said x h = (
  h.words rounded_entry (Memᴰ.tail (Memᴰ.tail (Memᴰ.head refl))),
  h.words back_entry (Memᴰ.tail (Memᴰ.head refl)),
  h.words truncated_entry (Memᴰ.head refl),
)

-- half a unit: both rounded stores needed no limiting, with SATDW off
half_said : (x : Result Engine) → Said run_stores plain run_start x
    → HalfUnit (stored_at run_stores plain run_start memory rounded_entry) (pos 100000)
    × HalfUnit (stored_at run_stores plain run_start memory back_entry) (minus 70000)
unfolding exact
half_said x h = (
  h.half rounded_entry (Memᴰ.tail (Memᴰ.tail (Memᴰ.head refl))) refl refl,
  h.half back_entry (Memᴰ.tail (Memᴰ.head refl)) refl refl,
)

-- ---- the flags

-- clear whatever the O flags are; not with SA alone set, nor with SB alone
flags_clear :
    FlagsClear (start but flags true true false false)
    × (FlagsClear (start but flags false false true false) → ⊥)
    × (FlagsClear (start but flags false false false true) → ⊥)
flags_clear = (record { sa = refl; sb = refl }, λ c. false≢true (sym c.sa), λ c. false≢true (sym c.sb))

-- A + B, 2^31, with A's saturation on: the ledger is left, and an engine of which the statement is true has a flag set
abbrev late_sum : List Operation
late_sum = Literal 0 7 ∷ AddAccumulators A ∷ []

left_said : (x : Result Engine) → Said late_sum plain (near but by 0xa0) x → FlagsClear x.machine.state → ⊥
unfolding exact
left_said x h clear = h.flags.0 clear refl

-- what was stored before that is said too: B, 98,304, rounded to W3: 2; A, 2^31 - 1, rounded to W4: 32,768, of which SATDW off keeps 8000 hex
abbrev stores_then_left : List Operation
stores_then_left = SacR B 8 (Direct 3) ∷ SacR A 8 (Direct 4) ∷ AddAccumulators A ∷ []

abbrev left_start : State
left_start = near but by 0x80 but in_b (pos 98304)

abbrev before_left : Entry
before_left = entry 1 (Register 3) (pos 98304) (pos 2) false true

abbrev limited_before_left : Entry
limited_before_left = entry 2 (Register 4) (pos (2 ^ 31 - 1)) (minus 32768) true true

-- the words of both, and half a unit for the one that needed no limiting
left_stores_said : (x : Result Engine) → Said stores_then_left plain left_start x
    → (FlagsClear x.machine.state → ⊥)
    × (signed_of 16 (stored_at stores_then_left plain left_start memory before_left) ≡ pos 2)
    × (signed_of 16 (stored_at stores_then_left plain left_start memory limited_before_left) ≡ minus 32768)
    × HalfUnit (stored_at stores_then_left plain left_start memory before_left) (pos 98304)
unfolding exact
left_stores_said x h = (
  λ clear. h.flags.0 clear refl,
  h.words before_left (Memᴰ.tail (Memᴰ.head refl)),
  h.words limited_before_left (Memᴰ.head refl),
  h.half before_left (Memᴰ.tail (Memᴰ.head refl)) refl refl,
)

-- A + B, 2^31, with saturation off and OVATE is trap 6 after both steps, and no flag is set
trap_said : (x : Result Engine) → Said late_sum (trapping 0x400) near x
    → x ≡ ends (Trap 6) 2 (near but at 2 but reg 0 7 but in_a (pos (2 ^ 31)) but flags true false false false) memory
unfolding exact
trap_said x h = decided late_sum (trapping 0x400) near memory x _ h (ended_stays (Trap 6))

-- done, spent and a trap are not "left"; "left" is
never_left :
    NeverLeft (exact late_sum plain 9 near memory)
    × NeverLeft (exact late_sum plain 1 near memory)
    × NeverLeft (exact late_sum (trapping 0x400) 9 near memory)
    × (NeverLeft (exact late_sum plain 9 (near but by 0xa0) memory) → ⊥)
unfolding exact
never_left = (ended_stays Done, ended_stays Spent, ended_stays (Trap 6), λ never. never refl)

-- ---- the word that stands in a place

-- W3 is 9, word 5 is 105; nothing stands nowhere
abbrev standing : Engine
standing = record { state = start but reg 3 9 but reg 5 8; memory = memory }

stands : (word_in standing (Register 3) ≡ 9) × (word_in standing (word 5) ≡ 105) × (word_in standing Nowhere ≡ 0)
unfolding word_in
stands = (refl, refl, refl)
