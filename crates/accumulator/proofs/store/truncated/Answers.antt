-- `store::truncated` meets its contract: a shift to the right is the floor. Assumes nothing.
use Rattle.std.proofs.Common.{to_z-of_z}
use Rattle.integers.proofs.Fitting.{floor_plain}
use Rattle.accumulator.proofs.store.truncated.Goals as goal

pub returns : goal.returns
returns c = simp (to_z-of_z c.ranges.v) (floor_plain 65536 c.ranges.v)
