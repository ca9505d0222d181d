-- Refusal 7 part by part: what an accepted state is, both ways; reset and restart are accepted for every program. Assumes nothing.
use Prim.Native.Nat.{ℕ, zero, suc, ◌≤◌}
use mathlib.Core.Bool.{true, ◌&&◌}
use mathlib.Core.List.{List}
use mathlib.Core.Path.{◌≡◌, refl, sym, subst}
use native.Mathlib.Omega.{arith}
use borrow.Author.Tests.{leb-true, le-leb}
use lib.Dec.{leb, lit<}
use lib.ListN.{length, replicate}
use Rattle.integers.specs.Range.{lowest, highest, outside}
use Rattle.integers.proofs.Whole.{both}
use Rattle.accumulator.specs.Limit.{is_accumulator}
use Rattle.accumulator.specs.Mode.{is_good_mode}
use Rattle.operations.specs.declared.operation.Operation.{Operation}
use Rattle.program.proofs.Answers.{cond_zero}
use Rattle.state.specs.State.{reset_state, restarted_state}
use Rattle.state.specs.Accept.{are_loops, is_repeat_left, is_state, state_refusal, Restarts}
use Rattle.state.specs.Typed.{AreWords, Typed}
use Rattle.state.specs.declared.state.Core.{Core}
use Rattle.state.specs.declared.state.State.{State}

-- what refusal 7 asks of a core, part by part
pub record Parts (p : List Operation) (c : Core) : Type 0 where
  pub at : c.pc ≤ length p
  pub a : is_accumulator c.a ≡ true
  pub b : is_accumulator c.b ≡ true
  pub good : is_good_mode c.mode ≡ true
  pub loops : are_loops p c.pc c.loops ≡ true
  pub left : is_repeat_left p c.pc c.repeat ≡ true

pub accepted_parts : (p : List Operation) (s : State) → state_refusal p s ≡ 0 → Parts p s.core
unfolding state_refusal is_state
accepted_parts p s h =
    let c = s.core in
    let ok = cond_zero (is_state p s) 6 h in
    let first = leb c.pc (length p) && is_accumulator c.a && is_accumulator c.b in
    let (five, left) = both (first && is_good_mode c.mode && are_loops p c.pc c.loops) (is_repeat_left p c.pc c.repeat) ok in
    let (four, loops) = both (first && is_good_mode c.mode) (are_loops p c.pc c.loops) five in
    let (three, mode) = both first (is_good_mode c.mode) four in
    let (two, b) = both (leb c.pc (length p) && is_accumulator c.a) (is_accumulator c.b) three in
    let (place, a) = both (leb c.pc (length p)) (is_accumulator c.a) two in
    record { at = leb-true c.pc (length p) place; a = a; b = b; good = mode; loops = loops; left = left }

pub parts_accepted : (p : List Operation) (s : State) → Parts p s.core → state_refusal p s ≡ 0
unfolding state_refusal is_state
parts_accepted p s h = rw (le-leb s.core.pc (length p) h.at, h.a, h.b, h.good, h.loops, h.left)

-- ---- reset

-- zeros are words
pub zeros : (n : ℕ) → AreWords (replicate n 0)
zeros zero i = lit< tt
zeros (suc n) zero = lit< tt
zeros (suc n) (suc i) = zeros n i

pub reset_typed : Typed reset_state.core
unfolding reset_state
reset_typed = record { registers = refl; words = zeros 14; starts = refl; passes = refl }

pub reset_accepted : (p : List Operation) → state_refusal p reset_state ≡ 0
unfolding reset_state are_loops is_repeat_left is_accumulator is_good_mode outside lowest highest
reset_accepted p = parts_accepted p reset_state (record { at = omega arith; a = refl; b = refl; good = refl; loops = refl; left = refl })

-- ---- restart

-- of a state that is accepted for some program
pub restart_accepted : (p q : List Operation) (s : State) → state_refusal p s ≡ 0 → state_refusal q (restarted_state s) ≡ 0
unfolding are_loops is_repeat_left restarted_state
restart_accepted p q s h =
    let k = accepted_parts p s h in
    parts_accepted q (restarted_state s) (record { at = omega arith; a = k.a; b = k.b; good = k.good; loops = refl; left = refl })

-- what `restarted` promises of it
pub restarts_so : (s r : State) → r ≡ restarted_state s → Restarts s r
restarts_so s r e =
    record { restarted = e; accepted = λ p q h. subst (λ (z : State). state_refusal q z ≡ 0) (sym e) (restart_accepted p q s h) }
