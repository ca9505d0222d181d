-- `file::load` meets its contract: the file is refused, or the room is too short, or the operations are copied.
use mathlib.Core.Path.{◌≡◌, sym, ap, ◌∙◌}
use native.Mathlib.Omega.{arith}
use lib.ListN.{length}
use Rattle.std.proofs.lemmas.Result.{err_from_is_err_and}
use Rattle.program.specs.Answer.{answer_number}
use Rattle.program.specs.File.{file_refusal, load_refusal}
use Rattle.program.specs.declared.answer.Refusal.TheVariants.{Room}
use Rattle.program.proofs.Accepted.{accepted_blocks, load_short, load_fits}
use Rattle.program.proofs.Answers.{then_refused, filled_refused, filled_done}
use Rattle.program.proofs.Places.{count_range, bodies_length}
use Rattle.loader.proofs.file.load.Goals as goal
use Rattle.loader.proofs.file.load.Goals.{In_ok-check_file}

right : (c : In_ok-check_file) → file_refusal c.args.file.now ≡ 0
right c = sym c.check_file.ensures ∙ ap answer_number c.in_ok-check_file.was

pub returns-in_err-check_file : goal.returns-in_err-check_file
unfolding load_refusal
returns-in_err-check_file c =
    let p = err_from_is_err_and c.from_residual.result c.from_residual.ensures.1 in
    rw (p.1, p.2) (filled_refused _ _ _ _ (then_refused c.check_file.result (file_refusal c.args.file.now) _ c.in_err-check_file.was c.check_file.ensures))

pub operation_count-size-requires : goal.operation_count-size-requires
operation_count-size-requires c = accepted_blocks c.args.file.now (right (goal.at.operation_count-size-requires c).In_ok-check_file)

pub overflow_mul-size : goal.overflow_mul-size
overflow_mul-size c =
    let file = c.args.file.now in
    let most = (count_range file (accepted_blocks file (right (goal.at.overflow_mul-size c).In_ok-check_file))).1 in
    omega (arith, c.operation_count-size.ensures)

pub returns-then-operations-size : goal.returns-then-operations-size
returns-then-operations-size c =
    let file = c.args.file.now in
    filled_refused _ _ _ Room (sym (load_short file (right (goal.at.returns-then-operations-size c).In_ok-check_file) (length c.args.operations.now) (rw (← c.operation_count-size.ensures) c.if-operations-size.true)))

pub copy_bodies-requires : goal.copy_bodies-requires
copy_bodies-requires c =
    let file = c.args.file.now in
    let blocks = accepted_blocks file (right (goal.at.copy_bodies-requires c).In_ok-check_file) in
    record { file_value = blocks; file_in_bounds = rw (bodies_length file blocks, ← c.operation_count-size.ensures) c.if-operations-size.false }

pub returns : goal.returns
returns c =
    let file = c.args.file.now in
    let accepted = right (goal.at.returns c).In_ok-check_file in
    filled_done _ _ _ _ _ (load_fits file accepted (length c.args.operations.now) (rw (← c.operation_count-size.ensures) c.if-operations-size.false))
    (rw (bodies_length file (accepted_blocks file accepted), c.operation_count-size.ensures))
    c.copy_bodies.ensures
