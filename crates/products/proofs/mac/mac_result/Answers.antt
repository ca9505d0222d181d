-- `mac::mac_result` meets its contract, kind by kind. Assumes nothing.
use Rattle.std.proofs.Common.{◌≡◌, refl, ◌∙◌, arith, to_z-of_z, w64, to_z, of_z, rules}
use Rattle.effects.specs.Mac.{exact_by}
use Rattle.products.proofs.Results.{sum_exact}
use Rattle.products.proofs.mac.mac_result.Goals as goal

pub returns-in-1 : goal.returns-in-1
unfolding exact_by
returns-in-1 c = λ t square some most same. rw c.in-1.is

pub returns-in-6 : goal.returns-in-6
unfolding exact_by
returns-in-6 c =
    let a = c.args in
    let r : to_z w64 (of_z w64 c.accumulated.result) ≡ c.accumulated.result = search rules in
    let added = rw (to_z-of_z c.ranges.v, to_z-of_z c.ranges.p) at c.accumulated.ensures in
    λ t square some most same.
    rw r (added t a.p (omega arith) (omega arith) (λ none. refl) ∙ sum_exact t a.v a.p square a.kind same c.in-6.is)

pub returns-in-7 : goal.returns-in-7
unfolding exact_by
returns-in-7 c = λ t square some most same. rw c.in-7.is

pub returns-in_default : goal.returns-in_default
returns-in_default c =
    let r : to_z w64 (of_z w64 c.accumulated-in_default.result) ≡ c.accumulated-in_default.result = search rules in
    let exact = rw (to_z-of_z c.ranges.v, to_z-of_z c.ranges.p) at c.accumulated-in_default.ensures in
    λ t square some most same. rw r (exact t square (omega (arith, some)) (omega (arith, most)) same)
