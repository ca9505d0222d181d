-- `Width::nearer` meets its contract: the test of the sign is that of the definition. Assumes nothing.
use Rattle.std.proofs.Common.{to_z-of_z}
use Rattle.integers.specs.Range.{nearer}
use Rattle.integers.proofs.Fitting.{gave}
use Rattle.accumulator.proofs.range.Width.nearer.Goals as goal

pub returns-then-z-lt0 : goal.returns-then-z-lt0
unfolding nearer
returns-then-z-lt0 c =
    let sign = simp (to_z-of_z c.ranges.z) at c.if-z-lt0.true in
    rw (gave c.lowest.ensures c.lowest.type_inv, sign)

pub returns-else-z-lt0 : goal.returns-else-z-lt0
unfolding nearer
returns-else-z-lt0 c =
    let sign = simp (to_z-of_z c.ranges.z) at c.if-z-lt0.false in
    rw (gave c.highest.ensures c.highest.type_inv, sign)
