-- `call::combine` meets its contract, refused or not: the first boards alone are judged and summed as the definitions do. Assumes nothing.
use Prim.Native.Nat.{ℕ, ◌≤◌}
use mathlib.Core.List.{List}
use mathlib.Core.Bool.{false, ◌||◌}
use mathlib.Core.Path.{◌≡◌, sym, ◌∙◌}
use native.Mathlib.Omega.{arith}
use borrow.Author.Rules.{rules}
use borrow.Author.Tests.{ltb-false}
use lib.Dec.{ltb}
use lib.ListN.{length}
use Rattle.integers.proofs.Whole.{neither}
use Rattle.combine.specs.Boards.{combine_refusal}
use Rattle.combine.specs.declared.board.Board.{Board}
use Rattle.combine.proofs.Fronts.{first_are, first_combined}
use Rattle.combine.proofs.Calls.{combine_refused, combine_accepted}
use Rattle.combine.proofs.call.combine.Goals as goal

-- an accepted count is within the eight boards
within : (boards : List Board) (count : ℕ) → length boards ≡ 8 → (ltb count 2 || ltb 8 count) ≡ false → count ≤ length boards
within boards count eight e =
    let most : count ≤ 8 = ltb-false 8 count (neither (ltb count 2) (ltb 8 count) e).1 in
    omega (arith, eight)

pub returns-then-count : goal.returns-then-count
unfolding combine_refusal
returns-then-count c = combine_refused _ _ _ _ (rw c.if-count.true)

pub returns-then-not-are_accumulators : goal.returns-then-not-are_accumulators
unfolding combine_refusal
returns-then-not-are_accumulators c =
    let there = within c.args.boards c.args.count (search rules) c.if-count.false in
    let bad = sym (first_are c.args.count c.args.boards there) ∙ sym c.are_accumulators.ensures ∙ c.if-not-are_accumulators.true in
    combine_refused _ _ _ _ (rw (c.if-count.false, bad))

pub returns-then-not-is_good : goal.returns-then-not-is_good
unfolding combine_refusal
returns-then-not-is_good c =
    let there = within c.args.boards c.args.count (search rules) c.if-count.false in
    let good = sym (first_are c.args.count c.args.boards there) ∙ sym c.are_accumulators.ensures ∙ c.if-not-are_accumulators.false in
    combine_refused _ _ _ _ (rw (c.if-count.false, good, ← c.is_good.ensures, c.if-not-is_good.true))

pub returns : goal.returns
unfolding combine_refusal
returns c =
    let there = within c.args.boards c.args.count (search rules) c.if-count.false in
    let good = sym (first_are c.args.count c.args.boards there) ∙ sym c.are_accumulators.ensures ∙ c.if-not-are_accumulators.false in
    let none : combine_refusal c.args.boards c.args.count c.args.mode ≡ 0 = rw (c.if-count.false, good, ← c.is_good.ensures, c.if-not-is_good.false) in
    rw (c.add_up.ensures, c.of.ensures, first_combined c.args.count c.args.boards there) (combine_accepted _ _ _ none)
