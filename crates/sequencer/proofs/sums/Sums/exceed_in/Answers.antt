-- `Sums::exceed_in` meets its contract: within the limits, or not. Assumes nothing.
use mathlib.Core.Bool.{false}
use mathlib.Core.Path.{◌≡◌, sym, ◌∙◌}
use mir.Facts.{to_z-of_z}
use borrow.Author.Rules.{rules}
use Rattle.accumulator.specs.Limit.{has_left}
use Rattle.accumulator.specs.Mode.{mode_of}
use Rattle.operations.specs.Decode.{target_of}
use Rattle.sequencer.proofs.Settles.{Twos, settles_beyond}
use Rattle.sequencer.proofs.sums.Sums.exceed_in.Goals as goal
use Rattle.sequencer.proofs.sums.Sums.exceed_in.Goals.{Start, Else-left}

twos : (c : Start) → Twos c.args.self.now
twos c = record { values = search rules; overflows = search rules; saturations = search rules }

inside : (c : Else-left) → has_left (mode_of c.args.word) (target_of c.args.t) c.args.r ≡ false
inside c = sym (rw (to_z-of_z c.ranges.r, c.of.ensures, c.target_of-target.ensures) at c.left.ensures) ∙ c.if-left.false

pub returns : goal.returns
returns c =
    let a = c.args in
    λ w starts passes f.
    rw (to_z-of_z c.ranges.r)
    (settles_beyond a.traps a.word a.t c.requires.t_bound a.r a.self.now (twos (goal.at.returns c).Start) _ c.requires.r_value (inside (goal.at.returns c).Else-left)
    (rw c.target_of-target.ensures at c.overflow_trap.ensures) w starts passes f)
