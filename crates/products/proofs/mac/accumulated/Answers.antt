-- `mac::accumulated` meets its contract, kind by kind. Assumes nothing.
use Rattle.std.proofs.Common.{arith, to_z-of_z}
use Rattle.integers.specs.Range.{Within}
use Rattle.integers.proofs.Whole.{size, abs_is}
use Rattle.accumulator.proofs.Sizes.{accumulator_within, sum_fits, difference_fits}
use Rattle.effects.specs.Mac.{exact_by}
use Rattle.products.proofs.Results.{product_exact}
use Rattle.products.proofs.mac.accumulated.Goals as goal
use Rattle.products.proofs.mac.accumulated.Goals.{Start}

small : (c : Start) → Within 39 c.args.p
small c = omega (arith, c.requires.p_bound, size c.args.p, abs_is c.args.p)

pub overflow_add-result : goal.overflow_add-result
overflow_add-result c =
    rw (to_z-of_z c.ranges.v, to_z-of_z c.ranges.p)
    (sum_fits c.args.v c.args.p (accumulator_within _ c.requires.v_value) (small (goal.at.overflow_add-result c).Start))

pub overflow_sub-result : goal.overflow_sub-result
overflow_sub-result c =
    rw (to_z-of_z c.ranges.v, to_z-of_z c.ranges.p)
    (difference_fits c.args.v c.args.p (accumulator_within _ c.requires.v_value) (small (goal.at.overflow_sub-result c).Start))

pub returns-then-kind-eq3 : goal.returns-then-kind-eq3
unfolding exact_by
returns-then-kind-eq3 c =
    rw (to_z-of_z (overflow_add-result c), to_z-of_z c.ranges.v, to_z-of_z c.ranges.p) (λ t square some most same. rw c.if-kind-eq3.true)

pub returns-then-kind-eq4 : goal.returns-then-kind-eq4
unfolding exact_by
returns-then-kind-eq4 c =
    rw (to_z-of_z (overflow_sub-result c), to_z-of_z c.ranges.v, to_z-of_z c.ranges.p) (λ t square some most same. rw c.if-kind-eq4.true)

pub returns-else-kind-eq4 : goal.returns-else-kind-eq4
returns-else-kind-eq4 c =
    let a = c.args in
    rw (to_z-of_z c.ranges.p)
    (λ t square some most same. product_exact t a.v a.p square a.kind same some most c.if-kind-eq3.false c.if-kind-eq4.false)
