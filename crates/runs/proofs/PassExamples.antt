-- DO by a register around two operations, by the engine and by the ledger: every word w gives w + 1 passes, two steps each. Assumes nothing.
use Prim.Native.Nat.{ℕ, zero, suc, ◌+◌, ◌-◌}
use mathlib.Core.Path.{◌≡◌, refl, ◌∙◌}
use mathlib.Core.Bool.{Bool, true, false}
use mathlib.Core.List.{List, [], ◌∷◌}
use native.Mathlib.Numerals.{add-one}
use native.Mathlib.Omega.{arith}
use borrow.Author.Tests.{lt-ltb}
use lib.Dec.{ltb}
use Rattle.operations.specs.declared.operation.Operation.{Operation}
use Rattle.operations.specs.declared.operation.Operation.TheVariants.{Literal, DoRegister}
use Rattle.state.specs.declared.state.State.{State}
use Rattle.state.proofs.Made.{◌but◌, reg, at, one}
use Rattle.program.specs.Placement.{is_placed}
use Rattle.endings.specs.declared.ending.Ending.TheVariants.{Done, Spent}
use Rattle.runs.specs.Run.{Turn, run}
use Rattle.runs.specs.Run.Stop.{ended}
use Rattle.runs.specs.Run.Turn.{next}
use Rattle.runs.specs.Engine.{Engine, engine_turn, engine_done}
use Rattle.runs.specs.Ledger.{Ledger, exact_turn, ledger_done}
use Rattle.runs.specs.Ledger.Beyond.{stops as Stops}
use Rattle.runs.proofs.Opened.{engine, exact}
use Rattle.runs.proofs.RunExamples.{plain, memory, start, ends, stops}

-- ---- a run along machines that count down

-- two steps for each number, from s n to m n and from m (n + 1) to s n: from `first` to s w, and from m 0 to `over`, where the run is done
record CountsDown {S : Type 0} (done : S → Bool) (turn : ℕ → S → Turn S) (w : ℕ) (first over : S) (s m : ℕ → S) : Type 0 where
  begins : (done first ≡ false) × (turn 0 first ≡ next (s w))
  within : (n : ℕ) → (done (s n) ≡ false) × (done (m n) ≡ false)
  goes : (k n : ℕ) → turn k (s n) ≡ next (m n)
  falls : (k n : ℕ) → turn k (m (suc n)) ≡ next (s n)
  finishes : (k : ℕ) → turn k (m 0) ≡ next over
  done_there : done over ≡ true

module _ {S : Type 0} (done : S → Bool) (turn : ℕ → S → Turn S) (w : ℕ) (first over : S) (s m : ℕ → S) (c : CountsDown done turn w first over s m) where
  along : (j n k rest : ℕ) → run done turn (j + j + rest) k (s (j + n)) ≡ run done turn rest (k + j + j) (s n)
  unfolding run
  along zero n k rest =
      let (same, here, none) : (0 + 0 + rest ≡ rest) × (0 + n ≡ n) × (k + 0 + 0 ≡ k) = (omega arith, omega arith, omega arith) in
      rw (same, here, none)
  along (suc j) n k rest =
      let (same, here, more) : (suc j + suc j + rest ≡ suc (suc (j + j + rest))) × (suc j + n ≡ suc (j + n)) × (k + suc j + suc j ≡ suc (suc k) + j + j) = (omega arith, omega arith, omega arith) in
      rw (same, here, more, (c.within (suc (j + n))).0, c.goes k (suc (j + n)), (c.within (suc (j + n))).1, c.falls (suc k) (j + n)) (along j n (suc (suc k)) rest)

  at_end : (k rest : ℕ) → run done turn rest k over ≡ record { machine = over; steps = k; stop = ended Done }
  unfolding run
  at_end k zero = rw c.done_there
  at_end k (suc rest) = rw c.done_there

  -- w + 1 passes, two steps each, and the step to the first
  whole_run : (rest : ℕ) → run done turn (w + w + 3 + rest) 0 first ≡ record { machine = over; steps = w + w + 3; stop = ended Done }
  unfolding run
  whole_run rest =
      let (budget, none, steps) : (w + w + 3 + rest ≡ suc (w + w + suc (suc rest))) × (w + 0 ≡ w) × (w + w + 3 ≡ suc (suc (1 + w + w))) = (omega arith, omega arith, omega arith) in
      rw (budget, steps, c.begins.0, c.begins.1)
      (rw none at (along w 0 1 (suc (suc rest)))
      ∙ rw ((c.within 0).0, c.goes (1 + w + w) 0, (c.within 0).1, c.finishes (suc (1 + w + w))) (at_end (suc (suc (1 + w + w))) rest))

  -- with a budget of 2 + 2 j the step to the first, j passes and the first step of another
  cut_run : (j n : ℕ) → j + n ≡ w → run done turn (2 + j + j) 0 first ≡ record { machine = m n; steps = 2 + j + j; stop = ended Spent }
  unfolding run
  cut_run j n e =
      let (budget, steps) : (2 + j + j ≡ suc (j + j + 1)) × (suc (1 + j + j) ≡ suc (j + j + 1)) = (omega arith, omega arith) in
      rw (budget, c.begins.0, c.begins.1, ← e) (along j n 1 1 ∙ rw ((c.within n).0, c.goes (1 + j + j) n, (c.within n).1, steps))

-- ---- kind 22

-- 22 DO by W1 around two operations, 7 to W0 and 8 to W2; the program is accepted
abbrev by_register : List Operation
by_register = DoRegister 1 2 ∷ Literal 0 7 ∷ Literal 2 8 ∷ []

by_register_placed : is_placed by_register ≡ true
unfolding is_placed
by_register_placed = refl

-- W1 is w, and W0 and W2 are what the loop makes them
abbrev loaded : ℕ → State
loaded w = start but reg 0 7 but reg 1 w but reg 2 8

-- within the loop, n + 1 passes left: at its first operation and at its second
abbrev passing : ℕ → ℕ → State
passing w n = loaded w but at 1 but one 0 (suc n)

abbrev halfway : ℕ → ℕ → State
halfway w n = loaded w but at 2 but one 0 (suc n)

-- the engine's state and the ledger's by a state's parts
abbrev engine_at_lem : State → Engine
engine_at_lem s = record { state = s; memory = memory }

abbrev ledger_at : State → Ledger
ledger_at s = record { core = s.core; memory = memory; stores = [] }

-- a pass fewer
fewer : (n : ℕ) → (suc (suc n) - 1 ≡ suc n) × (ltb 0 (suc n) ≡ true)
fewer n = (omega arith, lt-ltb 0 (suc n) (omega arith))

engine_down : (w : ℕ)
    → CountsDown (engine_done by_register) (λ k x. engine_turn by_register plain x) w (engine_at_lem (loaded w)) (engine_at_lem (loaded w but at 3)) (λ n. engine_at_lem (passing w n)) (λ n. engine_at_lem (halfway w n))
unfolding engine
engine_down w =
    record {
      begins = (refl, rw (add-one w));
      within = λ n. (refl, refl);
      goes = λ k n. refl;
      falls = λ k n. rw ((fewer n).0, (fewer n).1);
      finishes = λ k. refl;
      done_there = refl;
    }

ledger_down : (w : ℕ)
    → CountsDown (ledger_done by_register) (exact_turn Stops by_register plain) w (ledger_at (loaded w)) (ledger_at (loaded w but at 3)) (λ n. ledger_at (passing w n)) (λ n. ledger_at (halfway w n))
unfolding exact
ledger_down w =
    record {
      begins = (refl, rw (add-one w));
      within = λ n. (refl, refl);
      goes = λ k n. refl;
      falls = λ k n. rw ((fewer n).0, (fewer n).1);
      finishes = λ k. refl;
      done_there = refl;
    }

-- every word w gives w + 1 passes: two steps each, and DO's own; with a budget of 2 + 2 j, within pass j + 1, n + 1 of j + n + 1 are left
engine_loops : (w rest : ℕ) → engine by_register plain (w + w + 3 + rest) (loaded w) memory ≡ ends Done (w + w + 3) (loaded w but at 3) memory
unfolding engine
engine_loops w rest = whole_run _ _ w _ _ _ _ (engine_down w) rest

engine_cut : (j n : ℕ) → engine by_register plain (2 + j + j) (loaded (j + n)) memory ≡ ends Spent (2 + j + j) (halfway (j + n) n) memory
unfolding engine
engine_cut j n = cut_run _ _ (j + n) _ _ _ _ (engine_down (j + n)) j n refl

-- and so in the ledger
ledger_loops : (w rest : ℕ) → exact by_register plain (w + w + 3 + rest) (loaded w) memory ≡ stops (ended Done) (w + w + 3) (loaded w but at 3) memory []
unfolding exact
ledger_loops w rest = whole_run _ _ w _ _ _ _ (ledger_down w) rest

ledger_cut : (j n : ℕ) → exact by_register plain (2 + j + j) (loaded (j + n)) memory ≡ stops (ended Spent) (2 + j + j) (halfway (j + n) n) memory []
unfolding exact
ledger_cut j n = cut_run _ _ (j + n) _ _ _ _ (ledger_down (j + n)) j n refl

-- one pass with 0, 16,385 with 4000 hex, 65,536 with FFFF hex; within pass 40,000 of these, the current one counted, 25,537 are left
words :
    (engine by_register plain 199999 (loaded 0) memory ≡ ends Done 3 (loaded 0 but at 3) memory)
    × (engine by_register plain 199999 (loaded 0x4000) memory ≡ ends Done 32771 (loaded 0x4000 but at 3) memory)
    × (engine by_register plain 199999 (loaded 0xffff) memory ≡ ends Done 131073 (loaded 0xffff but at 3) memory)
    × (engine by_register plain 80000 (loaded 0xffff) memory ≡ ends Spent 80000 (loaded 0xffff but at 2 but one 0 25537) memory)
words = (engine_loops 0 199996, engine_loops 0x4000 167228, engine_loops 0xffff 68926, engine_cut 39999 25536)

-- in the ledger, after DO alone: 16,385 passes are left with 4000 hex, 65,536 with FFFF hex
ledger_words :
    (exact by_register plain 1 (loaded 0x4000) memory ≡ stops (ended Spent) 1 (loaded 0x4000 but at 1 but one 0 16385) memory [])
    × (exact by_register plain 1 (loaded 0xffff) memory ≡ stops (ended Spent) 1 (loaded 0xffff but at 1 but one 0 65536) memory [])
unfolding exact
ledger_words = (refl, refl)
