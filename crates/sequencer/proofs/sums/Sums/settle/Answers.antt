-- `Sums::settle` meets its contract: within 32 bits, or not. Assumes nothing.
use mathlib.Core.Path.{sym, ◌∙◌}
use mir.Facts.{to_z-of_z}
use Rattle.sequencer.proofs.Settles.{Twos, settles_small}
use borrow.Author.Rules.{rules}
use Rattle.sequencer.proofs.sums.Sums.settle.Goals as goal
use Rattle.sequencer.proofs.sums.Sums.settle.Goals.{Start}

twos : (c : Start) → Twos c.args.self.now
twos c = record { values = search rules; overflows = search rules; saturations = search rules }

pub returns : goal.returns
returns c =
    let a = c.args in
    let r = to_z-of_z c.ranges.r in
    let small = sym (rw r at c.overflow.ensures) ∙ c.if-overflow.false in
    λ w starts passes f. rw r (settles_small a.traps a.word a.t c.requires a.r a.self.now (twos (goal.at.returns c).Start) small w starts passes f)
