-- `draw::amount` is safe: a small number less 16 fits. Assumes nothing.
use Prim.Native.Nat.{◌/◌, ◌%◌}
use native.Mathlib.Omega.{arith}
use borrow.Author.Rules.{rules}
use lib.Dec.{lit<}
use Rattle.demonstration.proofs.Drawn.{drawn_less}
use Rattle.demonstration.proofs.draw.amount.Goals as goal

pub overflow_sub-result : goal.overflow_sub-result
overflow_sub-result c = drawn_less (c.args.x / 8 % 33) 16 (omega arith) (lit< tt)
