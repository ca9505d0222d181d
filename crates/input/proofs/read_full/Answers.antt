-- What one more read gives stands after what was read before.
use Rattle.std.proofs.Common.{arith, ◌≤◌, length}
use Rattle.std.proofs.KnownBytes.{Consumes-trans}
use Rattle.input.proofs.Parts.{read_more}
use Rattle.input.proofs.read_full.Goals as goal

pub loop-done-preserved : goal.loop-done-preserved
loop-done-preserved g c =
    let read = c.in_ok-n.ensures in
    let before : c.loop-done.done ≤ length c.loop-done.bytes = omega arith in
    record {
      upper_bound = omega (arith, read.bound.0, read.bound.1);
      content = rw (read_more c.loop-done.done _ c.in_ok-n.n c.loop-done.bytes c.read.new.buf before read.bound.0) (Consumes-trans _ _ _ _ _ c.loop-done.invariant.content read.bytes.0);
    }
