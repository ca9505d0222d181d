-- `arithmetic::arithmetic` meets its contract, kind by kind. Assumes nothing.
use Rattle.std.proofs.Common.{◌≡◌, ◌-◌, ◌<◌, get_or, pos, neg_ℤ, ◌-ℤ◌, sym, ◌∙◌, arith, to_z-of_z, w64, to_z, of_z}
use Rattle.integers.proofs.Whole.{whole, less, neg}
use Rattle.accumulator.proofs.Sizes.{accumulator_within, difference_fits}
use Rattle.effects.proofs.Sums.{sum_fits}
use Rattle.form.specs.Words.{field, kind_in}
use Rattle.form.proofs.Ranges.{shift_register}
use Rattle.fields.proofs.Accumulators.{within, kept}
use Rattle.moves.proofs.Arithmetics.{sums, subtracts, negates, shifts}
use Rattle.moves.proofs.arithmetic.arithmetic.Goals as goal
use Rattle.moves.proofs.arithmetic.arithmetic.Goals.{After-target-t}

-- the target's number and the accumulators that it names
small : (c : After-target-t) → field c.args.coded.code.now c.args.coded.at 1 < 2
small c = rw c.target-t.ensures.value at c.target-t.ensures.upper_bound

value : (c : After-target-t) → let v = get_or c.args.acc.now c.target-t.result (pos 0) in to_z w64 (of_z w64 v) ≡ v
value c = kept c.args.acc.now c.target-t.result c.target-t.ensures.upper_bound c.requires.accumulators

other : (c : After-target-t) → let v = get_or c.args.acc.now (1 - c.target-t.result) (pos 0) in to_z w64 (of_z w64 v) ≡ v
other c = kept c.args.acc.now (1 - c.target-t.result) (omega arith) c.requires.accumulators

first : (c : After-target-t) → let v = get_or c.args.acc.now 0 (pos 0) in to_z w64 (of_z w64 v) ≡ v
first c = kept c.args.acc.now 0 (omega arith) c.requires.accumulators

second : (c : After-target-t) → let v = get_or c.args.acc.now 1 (pos 0) in to_z w64 (of_z w64 v) ≡ v
second c = kept c.args.acc.now 1 (omega arith) c.requires.accumulators

pub overflow_add-result : goal.overflow_add-result
overflow_add-result c =
    let at-target = (goal.at.overflow_add-result c).After-target-t in
    rw (first at-target, second at-target) (sum_fits _ _ c.requires.accumulators.a c.requires.accumulators.b)

pub overflow_sub-result-in-9 : goal.overflow_sub-result-in-9
overflow_sub-result-in-9 c =
    let at-target = (goal.at.overflow_sub-result-in-9 c).After-target-t in
    let acc = c.args.acc.now in
    let t = c.target-t in
    let l : 1 - t.result < 2 = omega arith in
    rw (value at-target, other at-target)
    (difference_fits (get_or acc t.result (pos 0)) (get_or acc (1 - t.result) (pos 0)) (accumulator_within _ (within acc t.result t.ensures.upper_bound c.requires.accumulators))
    (accumulator_within _ (within acc (1 - t.result) l c.requires.accumulators)))

pub overflow_sub-result-in-10 : goal.overflow_sub-result-in-10
overflow_sub-result-in-10 c =
    let at-target = (goal.at.overflow_sub-result-in-10 c).After-target-t in
    let t = c.target-t in
    rw (value at-target)
    (difference_fits (pos 0) (get_or c.args.acc.now t.result (pos 0)) (omega arith) (accumulator_within _ (within c.args.acc.now t.result t.ensures.upper_bound c.requires.accumulators)))

pub returns-in-8 : goal.returns-in-8
returns-in-8 c =
    let at-target = (goal.at.returns-in-8 c).After-target-t in
    let a = c.args in
    rw (to_z-of_z (overflow_add-result c), first at-target, second at-target)
    (λ settings mode memory.
    sums settings mode a.coded.code.now a.coded.at a.acc.now a.w.now memory (small at-target) (sym c.kind.ensures ∙ c.in-8.is))

pub returns-in-9 : goal.returns-in-9
returns-in-9 c =
    let at-target = (goal.at.returns-in-9 c).After-target-t in
    let a = c.args in
    rw (to_z-of_z (overflow_sub-result-in-9 c), value at-target, other at-target, c.target-t.ensures.value)
    (λ settings mode memory.
    subtracts settings mode a.coded.code.now a.coded.at a.acc.now a.w.now memory (small at-target) (sym c.kind.ensures ∙ c.in-9.is))

pub returns-in-10 : goal.returns-in-10
returns-in-10 c =
    let at-target = (goal.at.returns-in-10 c).After-target-t in
    let a = c.args in
    let v = get_or a.acc.now (field a.coded.code.now a.coded.at 1) (pos 0) in
    let opposite : pos 0 -ℤ v ≡ neg_ℤ v = omega (whole, less (pos 0) v, neg v) in
    rw (to_z-of_z (overflow_sub-result-in-10 c), value at-target, c.target-t.ensures.value, opposite)
    (λ settings mode memory.
    negates settings mode a.coded.code.now a.coded.at a.acc.now a.w.now memory (small at-target) (sym c.kind.ensures ∙ c.in-10.is))

-- what is left is kind 11
pub register-requires : goal.register-requires
register-requires c =
    rw c.word.ensures (shift_register c.args.coded.encoded (omega (arith, c.kind.ensures, c.requires.bound, c.requires.at_bound)))

pub shift_by-requires : goal.shift_by-requires
shift_by-requires c =
    let t = c.target-t in
    rw (value (goal.at.shift_by-requires c).After-target-t) (within c.args.acc.now t.result t.ensures.upper_bound c.requires.accumulators)

pub returns-in_default : goal.returns-in_default
returns-in_default c =
    let a = c.args in
    let at-target = (goal.at.returns-in_default c).After-target-t in
    let kind : kind_in a.coded.code.now a.coded.at ≡ 11 = omega (arith, c.kind.ensures, c.requires.bound, c.requires.at_bound) in
    λ settings mode memory.
    shifts settings mode a.coded.code.now a.coded.at a.acc.now a.w.now memory (small at-target) kind c.shift_by.result
    (rw (value at-target, c.target-t.ensures.value, c.register.ensures, c.word.ensures) at c.shift_by.ensures)
