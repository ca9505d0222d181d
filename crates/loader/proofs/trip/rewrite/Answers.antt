-- `trip::rewrite` meets its contract: what is written of the loaded operations is the file.
use mathlib.Core.Path.{◌≡◌, sym, ap, ◌∙◌}
use lib.ListN.{length}
use Rattle.program.specs.declared.answer.Refusal.TheVariants.{Room}
use Prim.Native.Nat.{ℕ}
use Rattle.std.proofs.lemmas.Result.{err_from_is_err_and}
use Rattle.program.specs.Answer.{answer_number}
use Rattle.program.specs.Bytes.{AreBytes, over}
use Rattle.program.specs.File.{file_refusal, bodies_of, load_refusal}
use Rattle.program.specs.Trip.{rewrite_refusal}
use Rattle.program.proofs.Answers.{refused_first, then_refused, room_short, room_fits, refused_stays, filled_refused, filled_written}
use Rattle.program.proofs.Slices.{front}
use Rattle.program.proofs.Trips.{rewritten}
use borrow.Author.Rules.{rules}
use Rattle.loader.proofs.trip.rewrite.Goals as goal
use Rattle.loader.proofs.trip.rewrite.Goals.{In_ok-size}

-- what a load that is answered by its size gives
written : (c : In_ok-size) →
    (load_refusal c.args.file.now (length c.args.operations.now) ≡ 0)
    × (c.in_ok-size.size ≡ length (bodies_of c.args.file.now))
    × (c.load.new.operations ≡ over (bodies_of c.args.file.now) c.args.operations.now)
written c = filled_written (rw c.in_ok-size.was at c.load.ensures)

pub returns-in_err-check_file : goal.returns-in_err-check_file
unfolding load_refusal
returns-in_err-check_file c =
    let file = c.args.file.now in
    let r = c.in_err-check_file.field-0.0 in
    let p = err_from_is_err_and c.from_residual.result c.from_residual.ensures.1 in
    let number = refused_first r _ _ (then_refused c.check_file.result (file_refusal file) _ c.in_err-check_file.was c.check_file.ensures) in
    rw (p.1, p.2) (filled_refused _ _ _ r number, refused_stays r _ _ _ number)

pub returns-then-out-file : goal.returns-then-out-file
unfolding load_refusal
returns-then-out-file c =
    let args = c.args in
    let file = args.file.now in
    let accepted : file_refusal file ≡ 0 = sym c.check_file.ensures ∙ ap answer_number c.in_ok-check_file.was in
    let number : 8 ≡ rewrite_refusal file (length args.operations.now) (length args.out.now) =
    rw accepted (sym (room_short (length (bodies_of file)) (length args.operations.now) (length file) (length args.out.now) c.if-out-file.true)) in
    (filled_refused _ _ _ Room number, refused_stays Room _ _ _ number)

pub returns : goal.returns
returns c =
    let args = c.args in
    let file = args.file.now in
    let out = args.out.now in
    let room : ℕ = length args.operations.now in
    let (accepted, size, after) = written (goal.at.returns c).In_ok-size in
    let bytes : AreBytes file = λ i. search rules in
    let part = front (bodies_of file) args.operations.now c.load.new.operations _ size after in (
      rewritten file _ out _ room _ bytes accepted part c.write.ensures,
      rw (accepted, room_fits (length file) (length out) c.if-out-file.false) after,
    )
