-- `operand::step_operand` meets its contract: + 2, - 2, or no change. Assumes nothing.
use Rattle.fields.proofs.Operands.{operand_raised, operand_lowered, operand_stays}
use Rattle.fields.proofs.operand.step_operand.Goals as goal

pub returns-then-form-eq2 : goal.returns-then-form-eq2
returns-then-form-eq2 c =
    let a = c.args in
    λ old words e. rw (c.set_register.ensures, c.raised-to.ensures)
    (operand_raised a.settings a.purpose a.r a.form words a.a.0 old a.w.now e c.if-form-eq2.true)

pub returns-then-form-eq3 : goal.returns-then-form-eq3
returns-then-form-eq3 c =
    let a = c.args in
    λ old words e. rw (c.set_register-then-form-eq3.ensures, c.moved-to.ensures)
    (operand_lowered a.settings a.purpose a.r a.form words a.a.0 old a.w.now e c.if-form-eq3.true)

pub returns-else-form-eq3 : goal.returns-else-form-eq3
returns-else-form-eq3 c =
    let a = c.args in
    λ old words e. operand_stays a.settings a.purpose a.r a.form words a.a.0 old a.w.now e c.requires.form_bound c.if-form-eq2.false c.if-form-eq3.false
