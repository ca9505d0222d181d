-- `trip::reload` meets its contract: what is loaded of the written file are the operations.
use mathlib.Core.Path.{◌≡◌, sym, ap, ◌∙◌}
use lib.ListN.{length}
use Rattle.program.specs.declared.answer.Refusal.TheVariants.{Room}
use Rattle.std.proofs.lemmas.Result.{err_from_is_err_and}
use Rattle.program.specs.Answer.{answer_number}
use Rattle.program.specs.Bytes.{over}
use Rattle.program.specs.Write.{file_of, program_refusal, write_refusal}
use Rattle.program.specs.Trip.{reload_refusal}
use Rattle.program.proofs.Answers.{refused_first, then_refused, room_short, room_fits, refused_stays, filled_refused, filled_written}
use Rattle.program.proofs.Slices.{front}
use Rattle.program.proofs.Trips.{reloaded}
use Rattle.loader.proofs.trip.reload.Goals as goal
use Rattle.loader.proofs.trip.reload.Goals.{In_ok-size}

-- what a write that is answered by its size gives
written : (c : In_ok-size) →
    (write_refusal c.args.operations.now (length c.args.out.now) ≡ 0)
    × (c.in_ok-size.size ≡ length (file_of c.args.operations.now))
    × (c.write.new.out ≡ over (file_of c.args.operations.now) c.args.out.now)
written c = filled_written (rw c.in_ok-size.was at c.write.ensures)

pub returns-in_err-check_program : goal.returns-in_err-check_program
unfolding write_refusal
returns-in_err-check_program c =
    let operations = c.args.operations.now in
    let r = c.in_err-check_program.field-0.0 in
    let p = err_from_is_err_and c.from_residual.result c.from_residual.ensures.1 in
    let number = refused_first r _ _ (then_refused c.check_program.result (program_refusal operations) _ c.in_err-check_program.was c.check_program.ensures) in
    rw (p.1, p.2) (filled_refused _ _ _ r number, refused_stays r _ _ _ number)

pub returns-then-again-operations : goal.returns-then-again-operations
unfolding write_refusal
returns-then-again-operations c =
    let args = c.args in
    let operations = args.operations.now in
    let accepted : program_refusal operations ≡ 0 = sym c.check_program.ensures ∙ ap answer_number c.in_ok-check_program.was in
    let number : 8 ≡ reload_refusal operations (length args.out.now) (length args.again.now) =
    rw accepted (sym (room_short (length (file_of operations)) (length args.out.now) (length operations) (length args.again.now) c.if-again-operations.true)) in
    (filled_refused _ _ _ Room number, refused_stays Room _ _ _ number)

pub returns : goal.returns
returns c =
    let args = c.args in
    let operations = args.operations.now in
    let again = args.again.now in
    let (accepted, size, after) = written (goal.at.returns c).In_ok-size in
    let part = front (file_of operations) args.out.now c.write.new.out _ size after in (
      reloaded operations _ again _ (length args.out.now) _ accepted part c.load.ensures,
      rw (accepted, room_fits (length operations) (length again) c.if-again-operations.false) after,
    )
