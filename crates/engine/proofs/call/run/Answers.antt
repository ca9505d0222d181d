-- `call::run` meets its contract. Assumes nothing.
use lib.ListN.{length}
use native.Mathlib.Omega.{arith}
use mathlib.Core.Path.{◌≡◌, sym, ap, ◌∙◌}
use Rattle.state.specs.Typed.{AreWords}
use Rattle.state.proofs.Typing.{typed_state}
use Rattle.program.specs.Answer.{answer_number}
use Rattle.machine.specs.Single.{call_refusal}
use Rattle.machine.proofs.Calls.{refused_some, call_file, call_settings, call_state}
use Rattle.engine.proofs.Calls.{call_refused, call_run}
use Rattle.engine.proofs.Windows.{x_part_in, none_window}
use Rattle.engine.proofs.call.run.Goals as goal

pub returns-in-Err : goal.returns-in-Err
returns-in-Err c =
    rw c.refused.ensures
    (call_refused c.args.file.now c.args.settings c.args.state c.args.memory.now c.args.budget _
    (c.number.ensures ∙ ap answer_number (sym c.in-Err.is) ∙ c.refusal.ensures) (λ z. refused_some c.in-Err.why (sym c.number.ensures ∙ z)))

pub run_accepted-requires : goal.run_accepted-requires
run_accepted-requires c =
    let none : call_refusal c.args.file.now c.args.settings c.args.state (length c.args.memory.now) ≡ 0 =
    sym c.refusal.ensures ∙ ap answer_number c.in_default.is in
    let accepted = call_file _ _ _ _ none in
    record { file_value = accepted; state_value = call_state _ _ _ _ none; xwords_in_bounds = x_part_in _ _ (call_settings _ _ _ _ none); covers = none_window c.args.file.now _ accepted; in_bounds = omega arith }

pub returns : goal.returns
returns c =
    let none : call_refusal c.args.file.now c.args.settings c.args.state (length c.args.memory.now) ≡ 0 =
    sym c.refusal.ensures ∙ ap answer_number c.in_default.is in
    let typed = typed_state c.args.state _ c.well_formed.1.1.0 in
    let ram : AreWords c.args.memory.now = λ i. omega (arith, c.slice_known-1.given i) in
    call_run c.args.file.now c.args.settings c.args.state c.args.memory.now c.args.budget none typed ram _ _
    c.run_accepted.ensures.memory_after
