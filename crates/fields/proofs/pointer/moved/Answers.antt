-- `pointer::moved` meets its contract: the circular register or another. Assumes nothing.
use mathlib.Core.Path.{◌∙◌}
use borrow.Author.Tests.{eq-eqb, ne_eqb}
use mir.Facts.{to_z-of_z}
use Rattle.effects.specs.Pointer.{moved_of}
use Rattle.fields.proofs.pointer.moved.Goals as goal

pub returns-then-r-circle : goal.returns-then-r-circle
unfolding moved_of
returns-then-r-circle c = rw (eq-eqb _ _ c.if-r-circle.true) (c.circular.ensures ∙ rw (to_z-of_z c.ranges.step))

pub returns-else-r-circle : goal.returns-else-r-circle
unfolding moved_of
returns-else-r-circle c = rw (ne_eqb _ _ c.if-r-circle.false) (c.stepped.ensures ∙ rw (to_z-of_z c.ranges.step))
