-- `bits::low_word` meets its contract: a mask leaves the low 16 bits. Assumes nothing.
use Rattle.std.proofs.Common.{◌≡◌, ◌-◌, ◌^◌, pos, refl, lit≤, w64, to_z, of_z}
use lib.Bits.{bit_and}
use Rattle.integers.specs.Bits.{low_bits}
use Rattle.integers.proofs.Low.{low_size}
use Rattle.integers.proofs.Masks.{mask}
use Rattle.integers.proofs.bits.low_word.Goals as goal
use Rattle.integers.proofs.bits.low_word.Goals.{Start}

masked : (c : Start) → to_z w64 (bit_and (of_z w64 c.args.v) (2 ^ 16 - 1)) ≡ pos (low_bits 16 c.args.v)
masked c = mask c.args.v 16 (2 ^ 48) (lit≤ tt) refl c.ranges.v

pub overflow_cast-result : goal.overflow_cast-result
overflow_cast-result c = rw (masked (goal.at.overflow_cast-result c).Start) (tt, record { fits = low_size 16 c.args.v })

pub returns : goal.returns
returns c = rw (masked (goal.at.returns c).Start)
