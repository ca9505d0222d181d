-- `single::single_step` meets its contract: a run of at most one step is one step. Assumes nothing.
use mathlib.Core.Logic.{⊎_elim}
use Rattle.engine.proofs.OneStep.{one_step}
use Rattle.engine.proofs.single.single_step.Goals as goal
use Rattle.engine.proofs.single.single_step.Goals.{in-Refused, in-Trap, in-Done}

pub returns : goal.returns
returns c =
    let a = c.args in
    let step = one_step a.file.now a.settings a.state a.memory.now c.run-outcome.result _ c.run-outcome.ensures.runs in
    elim c.match-outcome.branch [
      | in-Refused w ↦ rw w.refusal-is (rw w.in-Refused.is at step)
      | in-Trap w ↦ rw w.refusal-is (rw w.in-Trap.is at step)
      | in-Done w ↦ rw w.refusal-is (⊎_elim (λ e. rw e at step) (λ e. rw e at step) w.in-Done.is)
    ]
