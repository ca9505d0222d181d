-- `limit::write` meets its contract, field by field, from what the three calls ensure. Assumes nothing.
use Rattle.std.proofs.Common.{to_z-of_z}
use Rattle.integers.proofs.Fitting.{gave}
use Rattle.accumulator.specs.Limit.{write_of}
use Rattle.accumulator.proofs.limit.write.Goals as goal

pub returns : goal.returns
unfolding write_of
returns c =
    let kept = c.kept-v in
    rw (c.overflow.ensures, c.left.ensures)
    (simp (gave kept.ensures kept.type_inv) (simp (to_z-of_z c.ranges.r)))
