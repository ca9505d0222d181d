-- `store::is_odd` meets its contract: a mask leaves the lowest bit. Assumes nothing.
use Rattle.std.proofs.Common.{◌≡◌, ◌-◌, ◌^◌, pos, refl, lt_of_lt_of_le, lit≤, w64, to_z, of_z}
use lib.Bits.{bit_and}
use Rattle.integers.specs.Bits.{low_bits}
use Rattle.integers.proofs.Low.{low_size}
use Rattle.integers.proofs.Masks.{mask}
use Rattle.accumulator.specs.Store.{is_odd}
use Rattle.accumulator.proofs.store.is_odd.Goals as goal
use Rattle.accumulator.proofs.store.is_odd.Goals.{Start}

masked : (c : Start) → to_z w64 (bit_and (of_z w64 c.args.q) (2 ^ 1 - 1)) ≡ pos (low_bits 1 c.args.q)
masked c = mask c.args.q 1 (2 ^ 63) (lit≤ tt) refl c.ranges.q

pub overflow_cast-result : goal.overflow_cast-result
overflow_cast-result c = rw (masked (goal.at.overflow_cast-result c).Start) (tt, record { fits = lt_of_lt_of_le (low_size 1 c.args.q) (lit≤ tt) })

pub returns : goal.returns
unfolding is_odd
returns c = rw (masked (goal.at.returns c).Start)
