-- `Sums::limit` meets its contract. Assumes nothing.
use mathlib.Core.Path.{◌≡◌}
use mir.Facts.{to_z-of_z}
use mir.Syntax.{w64}
use mir.Val.{to_z, of_z}
use lib.IntN.{pos}
use lib.ListN.{get_or}
use Rattle.accumulator.specs.Mode.{mode_of}
use Rattle.sequencer.proofs.Settles.{Twos, settled}
use borrow.Author.Rules.{rules}
use Rattle.sequencer.proofs.sums.Sums.limit.Goals as goal
use Rattle.sequencer.proofs.sums.Sums.limit.Goals.{Start}

twos : (c : Start) → Twos c.args.self.now
twos c = record { values = search rules; overflows = search rules; saturations = search rules }

pub returns : goal.returns
returns c =
    let a = c.args in
    let r = to_z-of_z c.ranges.r in
    let before : to_z w64 (of_z w64 (get_or a.self.now.values a.t (pos 0))) ≡ get_or a.self.now.values a.t (pos 0) = search rules in
    let after : to_z w64 (of_z w64 c.write-after.result.value) ≡ c.write-after.result.value = search rules in
    λ w starts passes f.
    rw after
    (settled a.t c.requires a.self.now (twos (goal.at.returns c).Start) w starts passes f a.traps (mode_of a.word) a.r c.write-after.result _
    (rw (r, before, c.of-mode.ensures, c.target_of-target.ensures) at c.write-after.ensures)
    (rw (r, c.of-mode.ensures, c.target_of-target.ensures) at c.trap_after.ensures))
