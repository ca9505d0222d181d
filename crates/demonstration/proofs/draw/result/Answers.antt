-- `draw::result` is safe: a drawn number below 2^43 less a number below 2^41 fits. Assumes nothing.
use Prim.Native.Nat.{◌+◌, ◌*◌, ◌%◌}
use native.Mathlib.Omega.{arith}
use borrow.Author.Rules.{rules}
use lib.Dec.{lit<}
use Rattle.demonstration.proofs.Drawn.{drawn_less}
use Rattle.demonstration.proofs.draw.result.Goals as goal

pub overflow_sub-result : goal.overflow_sub-result
overflow_sub-result c = drawn_less (c.limit_near.result + c.args.x % 8) 0x10000000004 (omega (arith, c.limit_near.ensures)) (lit< tt)

pub overflow_sub-result-else-y-eq0 : goal.overflow_sub-result-else-y-eq0
overflow_sub-result-else-y-eq0 c = drawn_less (c.args.x % 2147483648 * 1024 + c.args.y % 1024) 0x10000000000 (omega arith) (lit< tt)
