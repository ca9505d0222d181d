-- `store::rounded` meets its contract: the quotient is far from the ends of an i64, so 1 can be added. Assumes nothing.
use Rattle.std.proofs.Common.{◌≡◌, pos, ◌+ℤ◌, sym, ◌∙◌, lit<, to_z-of_z}
use lib.Signed.{shr_z}
use Rattle.integers.specs.Bits.{low_bits}
use Rattle.integers.proofs.Whole.{whole, size, sum, floor}
use Rattle.integers.proofs.Fitting.{floor_plain}
use Rattle.accumulator.specs.Store.{rounds_up, rounded_of}
use Rattle.accumulator.proofs.store.rounded.Goals as goal
use Rattle.accumulator.proofs.store.rounded.Goals.{After-rounds_up}

pub overflow_add-result : goal.overflow_add-result
overflow_add-result c =
    let v = c.args.v in
    let q = shr_z v 65536 in
    simp (to_z-of_z c.ranges.v, floor_plain 65536 c.ranges.v)
    (omega (whole, size v, size (q +ℤ pos 1), sum q (pos 1), floor v 65536 (lit< tt)))

-- what `rounds_up` answers is the definition's test
test : (c : After-rounds_up) → let a = c.args in rounds_up a.mode (shr_z a.v 65536) (low_bits 16 a.v) ≡ c.rounds_up.result
test c =
    sym
    (simp (to_z-of_z c.ranges.v, floor_plain 65536 c.ranges.v) at (rw c.low_word.ensures at c.rounds_up.ensures))

pub returns-then-rounds_up : goal.returns-then-rounds_up
unfolding rounded_of
returns-then-rounds_up c =
    rw (to_z-of_z (overflow_add-result c))
    (simp (to_z-of_z c.ranges.v, floor_plain 65536 c.ranges.v, test (goal.at.returns-then-rounds_up c).After-rounds_up ∙ c.if-rounds_up.true))

pub returns-else-rounds_up : goal.returns-else-rounds_up
unfolding rounded_of
returns-else-rounds_up c =
    simp (to_z-of_z c.ranges.v, floor_plain 65536 c.ranges.v, test (goal.at.returns-else-rounds_up c).After-rounds_up ∙ c.if-rounds_up.false)
