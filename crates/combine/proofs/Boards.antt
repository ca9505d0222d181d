-- The boards' sums: each has 40 bits, and where SA is clear at the end none was limited. Assumes nothing.
use Prim.Native.Nat.{ℕ, zero, suc, ◌<◌, ◌≤◌}
use mathlib.Core.Bool.{Bool, true, false, cond, ◌||◌}
use mathlib.Core.List.{List}
use mathlib.Core.Path.{◌≡◌, sym, ap, ◌∙◌, subst}
use native.Mathlib.Omega.{arith}
use borrow.Author.Tests.{ltb-true, ltb-false}
use lib.Dec.{ltb}
use lib.IntN.{ℤ, pos, ◌+ℤ◌, +ℤ_idr, +ℤ_assoc}
use Rattle.integers.proofs.Whole.{by_test, both, neither}
use Rattle.accumulator.specs.Mode.{is_good_mode}
use Rattle.accumulator.specs.Limit.{has_left, write_of, is_accumulator}
use Rattle.accumulator.specs.declared.limit.Accumulator.{Accumulator}
use Rattle.accumulator.specs.declared.mode.Mode.{Mode}
use Rattle.accumulator.specs.declared.mode.Target.TheVariants.{A}
use Rattle.accumulator.proofs.Sizes.{kept_within, within_accumulator}
use Rattle.accumulator.proofs.Writing.{kept_inside}
use Rattle.program.specs.Answer.{◌then◌}
use Rattle.combine.specs.Boards.{board_at, are_accumulators, added, added_up, combine_refusal}
use Rattle.combine.specs.declared.board.Board.{Board}

-- ---- 40 bits

-- board i is one of those that were checked
pub accumulator_at_lem : (boards : List Board) (n i : ℕ) → are_accumulators boards n ≡ true → i < n → is_accumulator (board_at boards i).a ≡ true
unfolding are_accumulators
accumulator_at_lem boards zero i h l = absurd (omega arith)
accumulator_at_lem boards (suc n) i h l =
    let t = both (are_accumulators boards n) (is_accumulator (board_at boards n).a) h in
    by_test (λ (b : Bool). is_accumulator (board_at boards i).a ≡ true) (ltb i n) {x = true} {y = true}
    (λ e. accumulator_at_lem boards n i t.0 (ltb-true i n e))
    (λ e.
    let same : n ≡ i = omega (arith, ltb-false i n e) in
    subst (λ (j : ℕ). is_accumulator (board_at boards j).a ≡ true) same t.1)

-- a sum that was written has 40 bits
pub added_accumulator : (before : Accumulator) (m : Mode) (a : ℤ) → is_accumulator (added before m a).value ≡ true
unfolding added write_of
added_accumulator before m a = within_accumulator _ (kept_within m A (before.value +ℤ a))

-- an accepted call has at most eight boards, each with an A of 40 bits
pub accepted_boards : (boards : List Board) (count mode : ℕ) → combine_refusal boards count mode ≡ 0 → (count ≤ 8) × (are_accumulators boards count ≡ true)
unfolding combine_refusal
accepted_boards boards count mode =
    by_test (λ (n : ℕ). (n then cond (are_accumulators boards count) 0 14 then cond (is_good_mode mode) 0 7) ≡ 0 → (count ≤ 8) × (are_accumulators boards count ≡ true))
    (ltb count 2 || ltb 8 count) {x = 13} {y = 0} (λ e z. absurd (omega (arith, z)))
    (λ e.
    by_test (λ (n : ℕ). (n then cond (is_good_mode mode) 0 7) ≡ 0 → (count ≤ 8) × (are_accumulators boards count ≡ true)) (are_accumulators boards count)
    {x = 0} {y = 14} (λ f z. (ltb-false 8 count (neither (ltb count 2) (ltb 8 count) e).1, f)) (λ f z. absurd (omega (arith, z))))

-- ---- the sum

-- the first n boards' A, as whole numbers
abbrev pub sum_up : List Board → ℕ → ℤ
sum_up boards zero = pos 0
sum_up boards (suc n) = sum_up boards n +ℤ (board_at boards n).a

-- where SA is clear at the end, it was clear at the start, and every sum was kept
pub added_exact : (m : Mode) (boards : List Board) (start : Accumulator) (n : ℕ) → (added_up m boards start n).saturation ≡ false
    → (start.saturation ≡ false) × ((added_up m boards start n).value ≡ start.value +ℤ sum_up boards n)
unfolding added_up added write_of
added_exact m boards start zero h = (h, sym (+ℤ_idr start.value))
added_exact m boards start (suc n) h =
    let before = added_up m boards start n in
    let a = (board_at boards n).a in
    let t = neither before.saturation (has_left m A (before.value +ℤ a)) h in
    let on = added_exact m boards start n t.0 in (
      on.0,
      kept_inside m A (before.value +ℤ a) t.1 ∙ ap (λ (z : ℤ). z +ℤ a) on.1 ∙ +ℤ_assoc start.value (sum_up boards n) a,
    )
