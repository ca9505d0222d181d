-- `ActiveLoops::begin` meets its contract: a repeat, or a loop. Assumes nothing.
use native.Mathlib.Omega.{arith}
use Prim.Native.Nat.{◌<◌}
use mathlib.Core.Path.{sym, ◌∙◌}
use Rattle.form.specs.Words.{kind_in}
use Rattle.sequencer.proofs.Begins.{begins_repeat, begins_loop, do_last}
use Rattle.sequencer.proofs.loops.ActiveLoops.begin.Goals as goal

pub returns-then-kind-lt21 : goal.returns-then-kind-lt21
returns-then-kind-lt21 c =
    let a = c.args in
    let count = c.count_of-n in
    let few : kind_in a.coded.code.now a.coded.at < 21 = rw c.kind.ensures at c.if-kind-lt21.true in record { lasts = (λ p follows. rw c.at.ensures follows.lasts); result_after = (λ p acc oflags. begins_repeat a.coded.code.now a.coded.at p a.f c.at.result count.result a.w.now acc oflags a.self.now.starts a.self.now.passes count.ensures c.requires.bound few c.at.ensures); mode_value = rw c.at.ensures }

pub enter-requires : goal.enter-requires
enter-requires c =
    let a = c.args in
    let more : 20 < kind_in a.coded.code.now a.coded.at = omega (arith, c.kind.ensures, c.if-kind-lt21.false) in
    record { standing = c.requires.standing; depth_bound = c.requires.depth_bound more }

pub returns : goal.returns
returns c =
    let a = c.args in
    let count = c.count_of-n in
    let more : 20 < kind_in a.coded.code.now a.coded.at = omega (arith, c.kind.ensures, c.if-kind-lt21.false) in
    let most = c.requires.at_bound in
    let done = c.enter.ensures in record {
      lasts = (λ p follows.
          done.kept p (do_last a.coded.code.now a.coded.at p a.f.pc more most follows.here ∙ sym c.word.ensures) follows.lasts);
      result_after = (λ p acc oflags.
          begins_loop a.coded.code.now a.coded.at p a.f c.enter.result count.result a.w.now acc oflags a.self.now.starts a.self.now.passes count.ensures more most _ _ (done.core a.w.now acc oflags));
      mode_value = done.mode;
    }
