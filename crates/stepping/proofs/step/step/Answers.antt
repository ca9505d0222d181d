-- `step::step` meets its contract: each family is handed its kinds. Assumes nothing.
use Rattle.stepping.proofs.step.step.Goals as goal

pub returns-in-19-to-22 : goal.returns-in-19-to-22
returns-in-19-to-22 c = λ p follows. c.step_begin.ensures p c.args.settings c.args.memory.now follows

pub returns-in_default : goal.returns-in_default
returns-in_default c = λ p follows. c.step_control.ensures p c.args.settings c.args.memory.now follows
