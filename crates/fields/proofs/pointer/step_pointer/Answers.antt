-- `pointer::step_pointer` meets its contract. Assumes nothing.
use mathlib.Core.Path.{◌≡◌}
use mir.Val.{to_z, of_z}
use mir.Syntax.{w16}
use borrow.Author.Rules.{rules}
use Rattle.fields.proofs.pointer.step_pointer.Goals as goal

pub returns : goal.returns
returns c =
    let by = c.step_of in
    let step : to_z w16 (of_z w16 by.result) ≡ by.result = search rules in
    rw (c.set_register.ensures, c.moved-to.ensures, step, by.ensures)
