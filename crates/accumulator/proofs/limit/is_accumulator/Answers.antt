-- `limit::is_accumulator` meets its contract, by what `outside` ensures. Assumes nothing.
use Rattle.std.proofs.Common.{to_z-of_z}
use Rattle.accumulator.specs.Limit.{is_accumulator}
use Rattle.accumulator.proofs.limit.is_accumulator.Goals as goal

pub returns : goal.returns
unfolding is_accumulator
returns c = rw (c.outside.ensures, to_z-of_z c.ranges.v)
