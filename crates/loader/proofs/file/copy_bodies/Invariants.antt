-- `file::copy_bodies` meets its contract. The invariant: the operations of the blocks so far, and then the bytes that `to` had.
use mathlib.Core.Path.{◌≡◌}
use lib.ListN.{length}
use Rattle.program.specs.Bytes.{over}
use Rattle.program.specs.File.{bodies_first}
use Rattle.loader.proofs.file.copy_bodies.Given as goal

abbrev pub invariant-loop-block : goal.invariant-loop-block
invariant-loop-block l = record {
  placed : l.n ≡ length (bodies_first l.file l.block-index);
  copied : l.to ≡ over (bodies_first l.file l.block-index) l.initial.to;
}
