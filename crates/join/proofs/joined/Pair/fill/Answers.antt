-- `Pair::fill` meets its contract: the bytes of each operation go behind those before it.
use Prim.Native.Nat.{ℕ, ◌≤◌, ◌+◌, ◌*◌}
use native.Mathlib.Omega.{arith}
use lib.ListN.{length, take, drop}
use Rattle.join.specs.Join.{joined_bytes}
use Rattle.program.specs.Layout.{bytes_of}
use Rattle.program.specs.declared.layout.Layout.TheVariants.{Consecutive}
use Rattle.program.proofs.Slices.{over_more}
use Rattle.join.proofs.Bytes.{bytes_length, part_next, part_length}
use Rattle.join.proofs.joined.Pair.fill.Goals as goal

pub loop-j-preserved : goal.loop-j-preserved
loop-j-preserved c =
    let pair = c.args.self.now in
    let bytes = joined_bytes pair.first.now pair.second.now in
    let from : ℕ = c.args.from in
    let j : ℕ = c.loop-j.j in
    let inside : 8 * (from + j) ≤ length bytes = omega (arith, bytes_length pair.first.now pair.second.now pair.count pair.joinable) in
    rw (part_next bytes from j)
    (over_more (take (8 * j) (drop (8 * from) bytes)) (bytes_of Consecutive bytes (from + j)) c.args.part.now c.loop-j.part c.copy.new.to (8 * j)
    (part_length bytes from j inside) c.loop-j.invariant (rw c.bytes_of-bytes.ensures at c.copy.ensures))
