-- `limit::left` meets its contract, by what `limits` and `outside` ensure. Assumes nothing.
use Rattle.std.proofs.Common.{to_z-of_z}
use Rattle.accumulator.specs.Limit.{has_left}
use Rattle.accumulator.proofs.limit.left.Goals as goal

pub returns : goal.returns
unfolding has_left
returns c = rw (c.outside.ensures, c.limits.ensures, to_z-of_z c.ranges.r)
