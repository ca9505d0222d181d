-- `pair::step_pair` meets its contract: a trap without effect, or the work, its write and the next repetition. Assumes nothing.
use mathlib.Core.Path.{◌≡◌, refl}
use mir.Syntax.{w64}
use mir.Val.{to_z, of_z}
use native.Mathlib.Omega.{arith}
use Rattle.std.proofs.lemmas.Result.{err_from_is_err_and}
use Rattle.std.specs.Prelude.{Some, Ok, Err}
use Rattle.operations.specs.Decode.{target_of}
use Rattle.form.specs.Words.{field, coded_at}
use Rattle.products.proofs.Pairs.{pair_fields}
use Rattle.sequencer.specs.Lent.{lent_core}
use Rattle.sequencer.proofs.Flows.{repeats, repeats_any}
use Rattle.stepping.proofs.Works.{onward_kind, step_trapped, step_done, trap_some}
use borrow.Author.Rules.{rules}
use Rattle.stepping.proofs.pair.step_pair.Goals as goal

pub returns-in_err-r-clause-turns : goal.returns-in_err-r-clause-turns
returns-in_err-r-clause-turns c =
    let a = c.args in
    let s = a.sums.now in
    let error = c.in_err-r.field-0.0 in
    let gives = err_from_is_err_and c.from_residual.result c.from_residual.ensures.1 in
    rw (gives.1, gives.2)
    (λ p loops follows.
    record {
      step =
          step_trapped a.settings p (coded_at a.coded.code.now a.coded.at) a.f s.values s.overflow s.saturation a.w.now loops.starts loops.passes a.memory.now follows.here
          (target_of (field a.coded.code.now a.coded.at 1)) c.pair.new.w a.memory.now (Err error)
          (c.in_err-r.ensures (lent_core a.w.now s.values s.overflow loops.starts loops.passes a.f)) (trap_some _);
      lasts = follows.lasts;
      mode = λ z. refl;
    })

pub returns-in_err-r-clause-any_loops : goal.returns-in_err-r-clause-any_loops
returns-in_err-r-clause-any_loops c =
    let a = c.args in
    let s = a.sums.now in
    let error = c.in_err-r.field-0.0 in
    let gives = err_from_is_err_and c.from_residual.result c.from_residual.ensures.1 in
    rw (gives.1, gives.2)
    (λ p starts passes here.
    step_trapped a.settings p (coded_at a.coded.code.now a.coded.at) a.f s.values s.overflow s.saturation a.w.now starts passes a.memory.now here
    (target_of (field a.coded.code.now a.coded.at 1)) c.pair.new.w a.memory.now (Err error)
    (c.in_err-r.ensures (lent_core a.w.now s.values s.overflow starts passes a.f)) (trap_some _))

pub target-requires : goal.target-requires
target-requires c = let pair = pair_fields c.args.coded.code.now c.args.coded.at c.requires.at_value in omega (arith, pair.kind)

pub overflow_sub-f : goal.overflow_sub-f
overflow_sub-f c = omega (arith, c.requires.lt_repeat)

pub returns-clause-turns : goal.returns-clause-turns
returns-clause-turns c =
    let a = c.args in
    let s = a.sums.now in
    let settled = c.settle-trap in
    let w = c.pair.new.w in
    let sums = settled.new.self in
    let same : to_z w64 (of_z w64 c.in_ok-r.r) ≡ c.in_ok-r.r = search rules in
    let pair = pair_fields a.coded.code.now a.coded.at c.requires.at_value in
    λ p loops follows.
    let moves = repeats p a.f loops follows.lasts c.at-flow.result c.requires.lt_repeat c.at-flow.ensures in
    let written = rw (same, c.target.ensures.value) at (settled.ensures w loops.starts loops.passes a.f) in
    record {
      step =
          step_done a.settings p (coded_at a.coded.code.now a.coded.at) a.f s.values s.overflow s.saturation a.w.now loops.starts loops.passes a.memory.now follows.here
          (target_of (field a.coded.code.now a.coded.at 1)) w a.memory.now (Ok (Some c.in_ok-r.r))
          (c.in_ok-r.ensures (lent_core a.w.now s.values s.overflow loops.starts loops.passes a.f))
          sums.values sums.overflow sums.saturation loops.starts loops.passes c.at-flow.result _ refl
          (onward_kind a.coded.code.now a.coded.at (omega (arith, pair.kind)))
          written
          (moves.core w sums.values sums.overflow);
      lasts = moves.lasts;
      mode = λ z. rw c.at-flow.ensures;
    }

pub returns-clause-any_loops : goal.returns-clause-any_loops
returns-clause-any_loops c =
    let a = c.args in
    let s = a.sums.now in
    let settled = c.settle-trap in
    let w = c.pair.new.w in
    let sums = settled.new.self in
    let same : to_z w64 (of_z w64 c.in_ok-r.r) ≡ c.in_ok-r.r = search rules in
    let pair = pair_fields a.coded.code.now a.coded.at c.requires.at_value in
    λ p starts passes here.
    let written = rw (same, c.target.ensures.value) at (settled.ensures w starts passes a.f) in
    step_done a.settings p (coded_at a.coded.code.now a.coded.at) a.f s.values s.overflow s.saturation a.w.now starts passes a.memory.now here
    (target_of (field a.coded.code.now a.coded.at 1)) w a.memory.now (Ok (Some c.in_ok-r.r))
    (c.in_ok-r.ensures (lent_core a.w.now s.values s.overflow starts passes a.f))
    sums.values sums.overflow sums.saturation starts passes c.at-flow.result _ refl
    (onward_kind a.coded.code.now a.coded.at (omega (arith, pair.kind)))
    written
    (repeats_any p a.f starts passes c.at-flow.result c.requires.lt_repeat c.at-flow.ensures w sums.values sums.overflow)
