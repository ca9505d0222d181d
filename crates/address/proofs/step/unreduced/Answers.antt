-- `step::unreduced` meets its contract: the sum of a word and a step of 16 bits fits an i64. Assumes nothing.
use Rattle.std.proofs.Common.{arith, to_z-of_z, w16, w64, Fits, SFits, rules}
use Rattle.integers.proofs.Fitting.{word_plain}
use Rattle.address.proofs.Steps.{sum_fits}
use Rattle.address.proofs.step.unreduced.Goals as goal

pub overflow_cast-result-2 : goal.overflow_cast-result-2
overflow_cast-result-2 c = rw (to_z-of_z c.ranges.step) (omega (arith, c.ranges.step.sfits))

pub overflow_add-result : goal.overflow_add-result
overflow_add-result c =
    let at : Fits w16 c.args.a.0 = search rules in
    let fits : SFits w64 c.args.step = omega (arith, c.ranges.step.sfits) in
    rw (word_plain at, to_z-of_z c.ranges.step, to_z-of_z fits) (sum_fits at c.ranges.step)

pub returns : goal.returns
returns c =
    let at : Fits w16 c.args.a.0 = search rules in
    let fits : SFits w64 c.args.step = omega (arith, c.ranges.step.sfits) in
    rw (word_plain at, to_z-of_z c.ranges.step, to_z-of_z fits) (to_z-of_z (sum_fits at c.ranges.step))
