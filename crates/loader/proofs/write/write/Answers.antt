-- `write::write` meets its contract: the program is refused, or the room is too short, or the blocks are written.
use mathlib.Core.Path.{◌≡◌, sym, ap, ◌∙◌}
use lib.ListN.{length}
use Rattle.std.proofs.lemmas.Result.{err_from_is_err_and}
use Rattle.program.specs.Answer.{answer_number}
use Rattle.program.specs.Write.{program_refusal, write_refusal}
use Rattle.program.specs.declared.answer.Refusal.TheVariants.{Room}
use Rattle.program.proofs.Accepted.{program_fits, write_short, write_fits}
use Rattle.program.proofs.Answers.{then_refused, filled_refused, filled_done}
use Rattle.program.proofs.Files.{file_length}
use Rattle.loader.proofs.write.write.Goals as goal
use Rattle.loader.proofs.write.write.Goals.{In_ok-check_program}

right : (c : In_ok-check_program) → program_refusal c.args.operations.now ≡ 0
right c = sym c.check_program.ensures ∙ ap answer_number c.in_ok-check_program.was

pub returns-in_err-check_program : goal.returns-in_err-check_program
unfolding write_refusal
returns-in_err-check_program c =
    let p = err_from_is_err_and c.from_residual.result c.from_residual.ensures.1 in
    rw (p.1, p.2)
    (filled_refused _ _ _ _ (then_refused c.check_program.result (program_refusal c.args.operations.now) _ c.in_err-check_program.was c.check_program.ensures))

pub file_size-size-requires : goal.file_size-size-requires
file_size-size-requires c = program_fits c.args.operations.now (right (goal.at.file_size-size-requires c).In_ok-check_program)

pub returns-then-out-size : goal.returns-then-out-size
returns-then-out-size c =
    filled_refused _ _ _ Room
    (sym (write_short c.args.operations.now (right (goal.at.returns-then-out-size c).In_ok-check_program) (length c.args.out.now) (rw (← c.file_size-size.ensures) c.if-out-size.true)))

pub write_blocks-requires : goal.write_blocks-requires
write_blocks-requires c =
    record { operations_len_bound = program_fits c.args.operations.now (right (goal.at.write_blocks-requires c).In_ok-check_program); operations_in_bounds = rw (← c.file_size-size.ensures) c.if-out-size.false }

pub returns : goal.returns
returns c =
    let operations = c.args.operations.now in
    filled_done _ _ _ _ _ (write_fits operations (right (goal.at.returns c).In_ok-check_program) (length c.args.out.now) (rw (← c.file_size-size.ensures) c.if-out-size.false))
    (rw (file_length operations) c.file_size-size.ensures)
    c.write_blocks.ensures
