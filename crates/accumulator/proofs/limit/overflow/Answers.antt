-- `limit::overflow` meets its contract, by what `outside` ensures. Assumes nothing.
use Rattle.std.proofs.Common.{to_z-of_z}
use Rattle.accumulator.specs.Limit.{overflows}
use Rattle.accumulator.proofs.limit.overflow.Goals as goal

pub returns : goal.returns
unfolding overflows
returns c = rw (c.outside.ensures, to_z-of_z c.ranges.v)
