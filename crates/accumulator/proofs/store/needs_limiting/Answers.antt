-- `store::needs_limiting` meets its contract, by what `outside` ensures. Assumes nothing.
use Rattle.std.proofs.Common.{to_z-of_z}
use Rattle.accumulator.specs.Store.{needs_limiting}
use Rattle.accumulator.proofs.store.needs_limiting.Goals as goal

pub returns : goal.returns
unfolding needs_limiting
returns c = rw (c.outside.ensures, to_z-of_z c.ranges.q)
