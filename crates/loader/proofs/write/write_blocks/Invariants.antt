-- `write::write_blocks` meets its contract. The invariant: the blocks so far, and then the bytes that `out` had.
use mathlib.Core.Path.{◌≡◌}
use Rattle.program.specs.Bytes.{over}
use Rattle.program.specs.Write.{file_first}
use Rattle.loader.proofs.write.write_blocks.Given as goal

abbrev pub invariant-loop-k : goal.invariant-loop-k
invariant-loop-k l = l.out ≡ over (file_first l.operations l.k) l.initial.out
