-- `decoded::run_decoded` meets its contract. Assumes nothing.
use mathlib.Core.Path.{◌≡◌, sym, ap, ◌∙◌}
use Prim.Native.Nat.{◌*◌, ◌≤◌}
use native.Mathlib.Omega.{arith}
use lib.ListN.{length}
use Rattle.program.specs.File.{operation_count}
use Rattle.program.proofs.Accepted.{accepted_blocks}
use Rattle.program.proofs.Places.{count_range}
use Rattle.state.specs.Typed.{AreWords}
use Rattle.state.proofs.Typing.{typed_state}
use Rattle.program.specs.Answer.{answer_number}
use Rattle.machine.specs.Single.{call_refusal}
use Rattle.machine.proofs.Calls.{refused_some, call_file, call_settings, call_state}
use Rattle.engine.proofs.Windows.{x_part_in, whole_window, decoded_refused, decoded_short, decoded_runs}
use Rattle.engine.proofs.decoded.run_decoded.Goals as goal

pub returns-in-Err : goal.returns-in-Err
returns-in-Err c =
    let a = c.args in
    rw c.refused.ensures
    (decoded_refused a.file.now a.settings a.state a.memory.now a.budget a.words.now _ (c.number.ensures ∙ ap answer_number (sym c.in-Err.is) ∙ c.refusal.ensures) (λ z. refused_some c.in-Err.why (sym c.number.ensures ∙ z)))

pub operation_count-count-requires : goal.operation_count-count-requires
operation_count-count-requires c =
    let none : call_refusal c.args.file.now c.args.settings c.args.state (length c.args.memory.now) ≡ 0 =
    sym c.refusal.ensures ∙ ap answer_number c.in_default.is in
    accepted_blocks _ (call_file _ _ _ _ none)

pub overflow_mul-count : goal.overflow_mul-count
overflow_mul-count c =
    let none : call_refusal c.args.file.now c.args.settings c.args.state (length c.args.memory.now) ≡ 0 =
    sym c.refusal.ensures ∙ ap answer_number c.in_default.is in
    omega (arith, c.operation_count-count.ensures, (count_range c.args.file.now (accepted_blocks _ (call_file _ _ _ _ none))).1)

pub returns-then-words-count : goal.returns-then-words-count
returns-then-words-count c =
    let a = c.args in
    let none : call_refusal c.args.file.now c.args.settings c.args.state (length c.args.memory.now) ≡ 0 =
    sym c.refusal.ensures ∙ ap answer_number c.in_default.is in
    rw c.refused-then-words-count.ensures
    (decoded_short a.file.now a.settings a.state a.memory.now a.budget a.words.now none (rw c.operation_count-count.ensures at c.if-words-count.true))

pub decode_program-requires : goal.decode_program-requires
decode_program-requires c =
    let none : call_refusal c.args.file.now c.args.settings c.args.state (length c.args.memory.now) ≡ 0 =
    sym c.refusal.ensures ∙ ap answer_number c.in_default.is in
    record { file_value = call_file _ _ _ _ none; file_in_bounds = rw c.operation_count-count.ensures at c.if-words-count.false }

pub run_accepted-requires : goal.run_accepted-requires
run_accepted-requires c =
    let file = c.args.file.now in
    let none : call_refusal c.args.file.now c.args.settings c.args.state (length c.args.memory.now) ≡ 0 =
    sym c.refusal.ensures ∙ ap answer_number c.in_default.is in
    let accepted = call_file _ _ _ _ none in
    let count = c.operation_count-count.ensures in
    let room : 16 * operation_count file ≤ length c.args.words.now = rw count at c.if-words-count.false in
    let one = (count_range file (accepted_blocks file accepted)).0 in
    let long = c.decode_program.auto.to in
    record { file_value = accepted; state_value = call_state _ _ _ _ none; xwords_in_bounds = x_part_in _ _ (call_settings _ _ _ _ none); covers = rw count (whole_window file _ _ accepted c.decode_program.ensures); in_bounds = omega (arith, room, one, long) }

pub returns : goal.returns
returns c =
    let a = c.args in
    let file = a.file.now in
    let none : call_refusal c.args.file.now c.args.settings c.args.state (length c.args.memory.now) ≡ 0 =
    sym c.refusal.ensures ∙ ap answer_number c.in_default.is in
    let accepted = call_file _ _ _ _ none in
    let count = c.operation_count-count.ensures in
    let typed = typed_state a.state _ c.well_formed.1.1.0 in
    let ram : AreWords a.memory.now = λ i. omega (arith, c.slice_known-1.given i) in
    let room : 16 * operation_count file ≤ length a.words.now = rw count at c.if-words-count.false in
    let ran = c.run_accepted.ensures in
    decoded_runs file a.settings a.state a.memory.now a.budget a.words.now none room typed ram _ _ _ ran.memory_after
    (ran.words_unchanged (rw count) ∙ c.decode_program.ensures)
