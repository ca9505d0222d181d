-- `step::step_work` meets its contract: a trap without effect, or the work, its write and the next operation. Assumes nothing.
use mathlib.Core.Path.{refl}
use Rattle.std.proofs.lemmas.Result.{err_from_is_err_and}
use Rattle.std.specs.Prelude.{Ok, Err}
use Rattle.operations.specs.Decode.{target_of}
use Rattle.form.specs.Words.{field, coded_at}
use Rattle.sequencer.specs.Lent.{lent_core}
use Rattle.stepping.proofs.Works.{onward_kind, step_trapped, step_done, trap_some, writes_low}
use Rattle.stepping.proofs.step.step_work.Goals as goal

pub returns-in_err-r : goal.returns-in_err-r
returns-in_err-r c =
    let a = c.args in
    let r = a.registers.now in
    let e = c.work in
    let error = c.in_err-r.field-0.0 in
    let gives = err_from_is_err_and c.from_residual.result c.from_residual.ensures.1 in
    rw (gives.1, gives.2)
    (λ p follows.
    record {
      step =
          step_trapped a.settings p (coded_at a.coded.code.now a.coded.at) a.f r.sums.values r.sums.overflow r.sums.saturation r.w r.loops.starts r.loops.passes a.memory.now follows.here
          (target_of (field a.coded.code.now a.coded.at 1)) e.new.w e.new.memory (Err error)
          (c.in_err-r.ensures (lent_core r.w r.sums.values r.sums.overflow r.loops.starts r.loops.passes a.f)) (trap_some _);
      lasts = follows.lasts;
      mode = λ z. refl;
    })

pub write-trap-requires : goal.write-trap-requires
write-trap-requires c =
    let a = c.args in
    let r = a.registers.now in
    let e = c.work in
    writes_low a.settings a.f.mode a.coded.code.now a.coded.at r.sums.values r.w a.memory.now e.new.w e.new.memory c.in_ok-r.r
    (lent_core r.w r.sums.values r.sums.overflow r.loops.starts r.loops.passes a.f) c.requires.at_bound c.in_ok-r.ensures

pub returns : goal.returns
returns c =
    let a = c.args in
    let r = a.registers.now in
    let e = c.work in
    let written = c.write-trap in
    let sums = written.new.sums in
    let next = c.advance-flow in
    let core = lent_core r.w r.sums.values r.sums.overflow r.loops.starts r.loops.passes a.f in
    λ p follows.
    let moves = next.ensures.moves p follows.lasts in
    record {
      step =
          step_done a.settings p (coded_at a.coded.code.now a.coded.at) a.f r.sums.values r.sums.overflow r.sums.saturation r.w r.loops.starts r.loops.passes a.memory.now follows.here
          (target_of (field a.coded.code.now a.coded.at 1)) e.new.w e.new.memory (Ok c.in_ok-r.r) (c.in_ok-r.ensures core)
          sums.values sums.overflow sums.saturation next.new.self.starts next.new.self.passes next.result _
          refl
          (onward_kind a.coded.code.now a.coded.at c.requires.at_bound)
          (written.ensures e.new.w r.loops.starts r.loops.passes a.f)
          (moves.core e.new.w sums.values sums.overflow);
      lasts = moves.lasts;
      mode = λ z. next.ensures.mode_value;
    }
