-- `call::serve` meets its contract: refused, or every bag served. Assumes nothing.
use mathlib.Core.Path.{sym, ◌∙◌}
use native.Mathlib.Omega.{arith}
use Rattle.std.proofs.lemmas.Result.{err_from_is_err_and}
use Rattle.state.specs.Typed.{AreWords}
use Rattle.state.proofs.Typing.{typed_state}
use Rattle.service.proofs.Schedules.{service_refused, service_short, service_served}
use Rattle.service.proofs.call.serve.Goals as goal

pub returns-in_err-refusal : goal.returns-in_err-refusal
returns-in_err-refusal c =
    let p = err_from_is_err_and c.from_residual.result c.from_residual.ensures.1 in
    rw (p.1, p.2) (service_refused _ _ _ _ _ _ c.first_state.result c.first_state.ensures _ c.in_err-refusal.ensures)

pub returns-then-not-is_enough : goal.returns-then-not-is_enough
returns-then-not-is_enough c =
    service_short _ _ _ _ _ _ c.first_state.result c.first_state.ensures (sym c.in_ok-refusal.ensures) (sym c.is_enough.ensures ∙ c.if-not-is_enough.true)

pub serve_bags-requires : goal.serve_bags-requires
serve_bags-requires c = sym c.is_enough.ensures ∙ c.if-not-is_enough.false

pub returns : goal.returns
returns c =
    let ram : AreWords c.args.memory.now = λ i. omega (arith, c.slice_known-1.given i) in
    let words : AreWords c.args.words.now = λ i. omega (arith, c.type_inv.words i) in
    service_served _ _ _ _ _ _ c.first_state.result c.first_state.ensures (sym c.in_ok-refusal.ensures)
    (sym c.is_enough.ensures ∙ c.if-not-is_enough.false) (typed_state c.args.state _ c.well_formed.1.1.0) ram words _ _ _ c.serve_bags.ensures
