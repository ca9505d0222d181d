-- `limit::low40` meets its contract: a mask leaves the low 40 bits, and the test is that of the sign. Assumes nothing.
use Rattle.std.proofs.Common.{◌≡◌, ◌-◌, ◌^◌, pos, ◌-ℤ◌, refl, lit≤, to_z-of_z, w64, to_z, of_z}
use lib.Bits.{bit_and}
use Rattle.integers.specs.Bits.{low_bits, signed_of}
use Rattle.integers.proofs.Whole.{whole, size, less}
use Rattle.integers.proofs.Low.{low_size}
use Rattle.integers.proofs.Masks.{mask}
use Rattle.accumulator.proofs.limit.low40.Goals as goal
use Rattle.accumulator.proofs.limit.low40.Goals.{Start}

masked : (c : Start) → to_z w64 (bit_and (of_z w64 c.args.r) (2 ^ 40 - 1)) ≡ pos (low_bits 40 c.args.r)
masked c = mask c.args.r 40 (2 ^ 24) (lit≤ tt) refl c.ranges.r

pub overflow_sub-result : goal.overflow_sub-result
overflow_sub-result c =
    let x = low_bits 40 c.args.r in
    rw (masked (goal.at.overflow_sub-result c).Start) (omega (whole, size (pos x -ℤ pos (2 ^ 40)), less (pos x) (pos (2 ^ 40)), low_size 40 c.args.r))

pub returns-then-low-lt549755813888 : goal.returns-then-low-lt549755813888
unfolding signed_of
returns-then-low-lt549755813888 c = rw (masked (goal.at.returns-then-low-lt549755813888 c).Start, rw (masked (goal.at.returns-then-low-lt549755813888 c).Start) at c.if-low-lt549755813888.true)

pub returns-else-low-lt549755813888 : goal.returns-else-low-lt549755813888
unfolding signed_of
returns-else-low-lt549755813888 c = rw (to_z-of_z (overflow_sub-result c), masked (goal.at.returns-else-low-lt549755813888 c).Start, rw (masked (goal.at.returns-else-low-lt549755813888 c).Start) at c.if-low-lt549755813888.false)
