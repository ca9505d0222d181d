-- `sum::add` meets its contract: two numbers of 40 bits have a sum below 2^40. Assumes nothing.
use mathlib.Core.Path.{◌≡◌, ◌∙◌}
use mir.Syntax.{w64}
use mir.Val.{to_z, of_z}
use mir.Facts.{to_z-of_z}
use borrow.Author.Rules.{rules}
use Rattle.effects.proofs.Sums.{sum_fits}
use Rattle.combine.specs.Boards.{added}
use Rattle.combine.proofs.sum.add.Goals as goal

pub overflow_add-before : goal.overflow_add-before
overflow_add-before c =
    let v = c.args.before.value in
    let a = c.args.a in
    let back : to_z w64 (of_z w64 v) ≡ v = search rules in
    rw (back, to_z-of_z c.ranges.a) (sum_fits v a c.requires.value_value c.requires.a_value)

pub returns : goal.returns
unfolding added
returns c =
    let v = c.args.before.value in
    let a = c.args.a in
    let back : to_z w64 (of_z w64 v) ≡ v = search rules in
    c.write.ensures ∙ rw (back, to_z-of_z c.ranges.a, to_z-of_z (sum_fits v a c.requires.value_value c.requires.a_value))
