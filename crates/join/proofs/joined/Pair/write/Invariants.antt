-- `Pair::write` meets its contract. The invariant: the blocks so far, and then the bytes that `out` had.
use mathlib.Core.Path.{◌≡◌}
use Rattle.program.specs.Bytes.{over}
use Rattle.program.specs.Write.{file_first}
use Rattle.join.specs.Join.{joined_bytes}
use Rattle.join.proofs.joined.Pair.write.Given as goal

abbrev pub invariant-loop-k : goal.invariant-loop-k
invariant-loop-k l = l.out ≡ over (file_first (joined_bytes l.self.first.now l.self.second.now) l.k) l.initial.out
