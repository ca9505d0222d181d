-- The check so far, with what is left, is the whole check.
use Rattle.std.proofs.Common.{◌≡◌, drop}
use Rattle.text.specs.Text.{check_from}
use Rattle.text.proofs.check.check.Given as goal

abbrev pub invariant-loop-item : goal.invariant-loop-item
invariant-loop-item g l =
    check_from l.check (g.T.Checked.numbers (drop l.item-index l.items)) ≡ check_from l.h (g.T.Checked.numbers l.items)
