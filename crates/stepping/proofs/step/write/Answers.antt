-- `step::write` meets its contract: a result is settled, and without one nothing is. Assumes nothing.
use mathlib.Core.Path.{◌≡◌}
use mir.Syntax.{w64}
use mir.Val.{to_z, of_z}
use Rattle.machine.specs.Write.{settle_of}
use borrow.Author.Rules.{rules}
use Rattle.stepping.proofs.step.write.Goals as goal

pub returns-in_default : goal.returns-in_default
unfolding settle_of
returns-in_default c = λ w starts passes f. rw c.in_default.is

pub returns : goal.returns
returns c =
    let r = c.in-Some.x in
    let same : to_z w64 (of_z w64 r) ≡ r = search rules in
    λ w starts passes f.
    rw (c.in-Some.is, ← c.target.ensures.value) (rw same at (c.settle.ensures w starts passes f))
