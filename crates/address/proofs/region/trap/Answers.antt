-- `region::trap` meets its contract: the number of the word at the address tells an access without a trap from the others. Assumes nothing.
use Rattle.std.proofs.Common.{sym, ◌∙◌, w16, Fits, rules, eq-eqb, ne_eqb}
use Rattle.integers.proofs.Whole.{never}
use Rattle.address.specs.Region.{access_trap}
use Rattle.address.proofs.Regions.{has_word, free_has, outside_trap_lem}
use Rattle.address.proofs.region.trap.Goals as goal

pub returns-then-has : goal.returns-then-has
returns-then-has c =
    let number = c.aligned_word in
    sym (has_word _ _ number.result.0 number.ensures.self_value (sym c.has.ensures ∙ c.if-has.true)).2

pub returns-then-a-eq1 : goal.returns-then-a-eq1
unfolding access_trap
returns-then-a-eq1 c = rw (eq-eqb _ _ c.if-a-eq1.true)

pub returns-else-a-eq1 : goal.returns-else-a-eq1
returns-else-a-eq1 c =
    let number = c.aligned_word in
    let a = c.args in
    let small : Fits w16 a.a.0 = search rules in
    let none = sym c.has.ensures ∙ c.if-has.false in
    outside_trap_lem a.region a.a.0 (ne_eqb _ _ c.if-a-eq1.false)
    (λ z. never (sym none ∙ free_has a.region a.a.0 number.result.0 small.fits number.ensures.by_index z))
