-- `ActiveLoops::fall` meets its contract: another pass, or the end of the loop. Assumes nothing.
use mathlib.Core.Path.{refl}
use Rattle.sequencer.proofs.Flows.{another, no_more}
use Rattle.sequencer.proofs.loops.ActiveLoops.fall.Goals as goal

pub returns-then-more-gt1-clause-moves : goal.returns-then-more-gt1-clause-moves
returns-then-more-gt1-clause-moves c =
    λ p kept. another p c.args.f c.args.self.now _ kept refl c.at.result c.if-more-gt1.true refl refl c.at.ensures

pub returns-clause-moves : goal.returns-clause-moves
returns-clause-moves c =
    λ p kept. no_more p c.args.f c.args.self.now _ kept refl c.at-2.result c.if-more-gt1.false refl refl c.at-2.ensures
