-- `draw::stored` is safe: a drawn number below 2^33 less 2^32 fits. Assumes nothing.
use Prim.Native.Nat.{◌+◌, ◌*◌, ◌%◌}
use native.Mathlib.Omega.{arith}
use borrow.Author.Rules.{rules}
use lib.Dec.{lit<}
use Rattle.demonstration.proofs.Drawn.{drawn_less}
use Rattle.demonstration.proofs.draw.stored.Goals as goal

pub overflow_sub-result : goal.overflow_sub-result
overflow_sub-result c =
    let low = c.if-y-eq0.low in
    let x = c.args.x in
    drawn_less (x % 131072 * 65536 + low % 65536) 4294967296 (omega arith) (lit< tt)
