-- `store::rounds_up` meets its contract: the code is the definition. Assumes nothing.
use Rattle.std.proofs.Common.{to_z-of_z}
use Rattle.accumulator.specs.Store.{rounds_up}
use Rattle.accumulator.proofs.store.rounds_up.Goals as goal

pub returns : goal.returns
unfolding rounds_up
returns c = rw (c.is_odd.ensures, to_z-of_z c.ranges.q)
