-- `operand::reach_operand` meets its contract: a register has no trap. Assumes nothing.
use Rattle.std.proofs.lemmas.Result.{err_from_is_err_and}
use Rattle.fields.proofs.Operands.{register_operand, memory_operand}
use Rattle.fields.proofs.operand.reach_operand.Goals as goal

pub returns-then-form-eq0 : goal.returns-then-form-eq0
returns-then-form-eq0 c =
    let a = c.args in
    λ settings purpose r w e. rw (register_operand settings purpose r a.form a.words a.a.0 w c.if-form-eq0.true)

pub returns-in_err-access : goal.returns-in_err-access
returns-in_err-access c =
    let a = c.args in
    let p = err_from_is_err_and c.from_residual.result c.from_residual.ensures.1 in
    λ settings purpose r w e. rw (memory_operand settings purpose r a.form a.words a.a.0 w c.if-form-eq0.false e, p.1, p.2, ← c.all.ensures) c.in_err-access.ensures.trap

pub returns : goal.returns
returns c =
    let a = c.args in
    λ settings purpose r w e. rw (memory_operand settings purpose r a.form a.words a.a.0 w c.if-form-eq0.false e, ← c.all.ensures) c.in_ok-access.ensures.trap
