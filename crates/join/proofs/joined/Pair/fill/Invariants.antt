-- `Pair::fill` meets its contract. The invariant: the bytes of the operations so far, and then the bytes that `part` had.
use Prim.Native.Nat.{◌*◌}
use mathlib.Core.Path.{◌≡◌}
use lib.ListN.{take, drop}
use Rattle.program.specs.Bytes.{over}
use Rattle.join.specs.Join.{joined_bytes}
use Rattle.join.proofs.joined.Pair.fill.Given as goal

abbrev pub invariant-loop-j : goal.invariant-loop-j
invariant-loop-j l = l.part ≡ over (take (8 * l.j) (drop (8 * l.from) (joined_bytes l.self.first.now l.self.second.now))) l.initial.part
