-- `mac::pair` meets its contract: a trap without effect, or the work. Assumes nothing.
use Rattle.std.proofs.Common.{◌≡◌, ◌≤◌, arith, w64, to_z, of_z, rules}
use Rattle.std.proofs.lemmas.Result.{err_from_is_err_and}
use Rattle.form.specs.Words.{kind_in}
use Rattle.form.proofs.Fields.{mac_fields}
use Rattle.fields.proofs.Accumulators.{within}
use Rattle.products.proofs.Pairs.{pair_fields, pair_carries}
use Rattle.products.proofs.Ranges.{x_step, y_step, accumulator_kept, product_kept}
use Rattle.products.proofs.Works.{mac_trapped}
use Rattle.products.proofs.mac.pair.Goals as goal
use Rattle.products.proofs.mac.pair.Goals.{Start}

small : (c : Start) → kind_in c.args.coded.code.now c.args.coded.at ≤ 7
small c = (pair_fields c.args.coded.code.now c.args.coded.at c.requires.at_value).kind

pub returns-in_err-f : goal.returns-in_err-f
returns-in_err-f c =
    let a = c.args in
    let p = err_from_is_err_and c.from_residual.result c.from_residual.ensures.1 in
    rw (p.1, p.2) (mac_trapped a.settings a.mode a.acc.now a.w.now a.memory.now a.coded.encoded (small (goal.at.returns-in_err-f c).Start) c.in_err-f.field-0.0 c.in_err-f.ensures.trap)

pub target-t-requires : goal.target-t-requires
target-t-requires c = omega (arith, small (goal.at.target-t-requires c).Start)

pub step_pointer-requires : goal.step_pointer-requires
step_pointer-requires c =
    let kind = small (goal.at.step_pointer-requires c).Start in
    record { r_bound = rw c.word.ensures (mac_fields c.args.coded.encoded kind).x; c_bound = rw c.word-2.ensures (x_step c.args.coded.encoded kind) }

pub step_pointer-requires-2 : goal.step_pointer-requires-2
step_pointer-requires-2 c =
    let kind = small (goal.at.step_pointer-requires-2 c).Start in
    record { r_bound = rw c.word-3.ensures (mac_fields c.args.coded.encoded kind).y; c_bound = rw c.word-4.ensures (y_step c.args.coded.encoded kind) }

pub accumulated-requires : goal.accumulated-requires
accumulated-requires c =
    let acc = c.args.acc.now in
    let t = c.target-t in
    let p = c.product-p in
    let v = within acc t.result t.ensures.upper_bound c.requires.accumulators in
    record { v_value = rw (accumulator_kept _ v) v; p_bound = rw (product_kept _ p.ensures.result_bound) p.ensures.result_bound }

pub returns : goal.returns
returns c =
    let a = c.args in
    let acc = a.acc.now in
    let t = c.target-t in
    let p = c.product-p in
    let v = accumulator_kept _ (within acc t.result t.ensures.upper_bound c.requires.accumulators) in
    let first = rw (c.word.ensures, c.word-2.ensures) at c.step_pointer.ensures in
    let second = rw (c.word-3.ensures, c.word-4.ensures) at c.step_pointer-2.ensures in
    let exact = rw (v, t.ensures.value, product_kept _ p.ensures.result_bound, c.kind.ensures) at c.accumulated.ensures in
    let r : to_z w64 (of_z w64 c.accumulated.result) ≡ c.accumulated.result = search rules in
    rw r
    (pair_carries a.settings a.mode acc a.w.now a.memory.now c.in_ok-f.f a.coded.encoded c.requires.at_value c.in_ok-f.ensures.fetched
    c.accumulated.result p.result p.ensures.value first second c.arrive.ensures exact)
