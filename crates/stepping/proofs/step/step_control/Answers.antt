-- `step::step_control` meets its contract, kind by kind. Assumes nothing.
use mathlib.Core.Path.{◌≡◌, sym, ◌∙◌}
use Rattle.integers.proofs.Whole.{never}
use Rattle.form.specs.Words.{kind_in}
use Rattle.stepping.proofs.Controls.{mode_step, early_step, clear_step}
use Rattle.stepping.proofs.step.step_control.Goals as goal
use Rattle.stepping.proofs.step.step_control.Goals.{then-which-eq23, else-which-eq23}

pub advance-flow-requires : goal.advance-flow-requires
advance-flow-requires c =
    let standing = c.requires.standing in
    rw c.with_mode.ensures (record { at = standing.at; few = standing.few })

pub returns-then-which-eq24 : goal.returns-then-which-eq24
returns-then-which-eq24 c =
    let a = c.args in
    let r = a.registers.now in
    let next = c.advance-flow in
    let flow = c.with_mode.ensures in
    let kind : kind_in a.coded.code.now a.coded.at ≡ 24 = sym c.kind-which.ensures ∙ c.if-which-eq24.true in
    λ p settings memory follows.
    let moves = next.ensures.moves p (rw flow follows.lasts) in
    record {
      step =
          mode_step settings p a.coded.code.now a.coded.at a.f r.sums.values r.sums.overflow r.sums.saturation r.w r.loops.starts r.loops.passes memory follows.here kind
          next.new.self.starts next.new.self.passes next.result (rw (flow, c.word.ensures) at (moves.core r.w r.sums.values r.sums.overflow));
      lasts = moves.lasts;
      mode = λ z. never (sym z);
    }

pub returns : goal.returns
returns c =
    let a = c.args in
    let r = a.registers.now in
    let next = c.advance-flow-2 in
    let which = c.kind-which.ensures in
    λ p settings memory follows.
    elim c.if-which-eq23.branch [
      | then-which-eq23 w ↦
          let early = w.end_early.ensures.passes in
          let moves = rw w.registers-is at (next.ensures.moves p (rw w.registers-is (early.kept p follows.lasts))) in
          rw w.registers-is
          (record {
            step =
                early_step settings p a.coded.code.now a.coded.at a.f r.sums.values r.sums.overflow r.sums.saturation r.w r.loops.starts r.loops.passes memory follows.here
                (sym which ∙ w.if-which-eq23.true) _ _
                next.new.self.starts next.new.self.passes next.result (early.core p follows.lasts r.w r.sums.values r.sums.overflow) (moves.core r.w r.sums.values r.sums.overflow);
            lasts = moves.lasts;
            mode = λ z. next.ensures.mode_value;
          })
      | else-which-eq23 w ↦
          let moves = rw w.registers-is at (next.ensures.moves p (rw w.registers-is follows.lasts)) in
          rw w.registers-is
          (record {
            step =
                clear_step settings p a.coded.code.now a.coded.at a.f r.sums.values r.sums.overflow r.sums.saturation r.w r.loops.starts r.loops.passes memory follows.here
                c.requires.bound (λ e. w.if-which-eq23.false (which ∙ e)) (λ e. c.if-which-eq24.false (which ∙ e))
                next.new.self.starts next.new.self.passes next.result (moves.core r.w r.sums.values r.sums.overflow);
            lasts = moves.lasts;
            mode = λ z. next.ensures.mode_value;
          })
    ]
