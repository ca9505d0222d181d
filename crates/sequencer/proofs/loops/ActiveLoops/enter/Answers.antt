-- `ActiveLoops::enter` meets its contract: the loop's slot, its passes, and the last operation that DO names. Assumes nothing.
use mathlib.Core.Path.{refl}
use Rattle.machine.specs.Control.{entered}
use Rattle.machine.specs.Loops.{pushed}
use borrow.Author.Rules.{rules}
use Rattle.sequencer.proofs.Flows.{lasts_begun}
use Rattle.sequencer.proofs.loops.ActiveLoops.enter.Goals as goal

pub returns : goal.returns
unfolding entered pushed
returns c =
    let a = c.args in
    record {
      core = λ w acc oflags. rw c.at.ensures;
      kept = λ p named kept. rw c.at.ensures (lasts_begun p a.self.now _ (search rules) (search rules) a.f.depth a.f.pc a.last c.requires.depth_bound named refl refl kept);
      mode = rw c.at.ensures;
    }
