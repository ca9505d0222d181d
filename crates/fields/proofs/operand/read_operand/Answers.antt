-- `operand::read_operand` meets its contract: the register's word, or memory's. Assumes nothing.
use Rattle.std.proofs.Common.{refl, sym, length}
use Rattle.effects.specs.Access.{word_at}
use Rattle.fields.proofs.Operands.{register_operand, memory_operand}
use Rattle.fields.proofs.operand.read_operand.Goals as goal

pub returns-then-form-eq0 : goal.returns-then-form-eq0
unfolding word_at
returns-then-form-eq0 c =
    let a = c.args in
    λ settings purpose r w e. rw (register_operand settings purpose r a.form (length a.memory.now) a.a.0 w c.if-form-eq0.true) (record { trap = refl; word = sym e })

pub returns : goal.returns
returns c =
    let a = c.args in
    let read = rw c.all.ensures at c.read_at.ensures in
    λ settings purpose r w e. rw (memory_operand settings purpose r a.form (length a.memory.now) a.a.0 w c.if-form-eq0.false e) (read w _)
