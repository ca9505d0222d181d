-- `call::join` meets its contract: a file is refused, or both have too many operations, or the room is too short, or the blocks are written.
use Prim.Native.Nat.{◌*◌}
use mathlib.Core.Path.{◌≡◌, sym, ap, ◌∙◌}
use native.Mathlib.Omega.{arith}
use lib.ListN.{length}
use Rattle.std.proofs.lemmas.Result.{err_from_is_err_and}
use Rattle.program.specs.Answer.{answer_number}
use Rattle.program.specs.File.{file_refusal}
use Rattle.program.specs.declared.answer.Refusal.TheVariants.{Room, Together}
use Rattle.program.proofs.Accepted.{accepted_blocks}
use Rattle.program.proofs.Answers.{then_refused, filled_refused, filled_done}
use Rattle.program.proofs.Places.{count_range}
use Rattle.join.specs.Join.{joined_file, Joinable}
use Rattle.join.proofs.Refusals.{join_refusal_lem, join_second, join_together, joined_size, join_short, join_fits}
use Rattle.join.proofs.Joins.{joins}
use Rattle.join.proofs.call.join.Goals as goal
use Rattle.join.proofs.call.join.Goals.{In_ok-check_file, In_ok-check_file-2, Else-total-gt4032}

opens : (c : In_ok-check_file) → file_refusal c.args.first.now ≡ 0
opens c = sym c.check_file.ensures ∙ ap answer_number c.in_ok-check_file.was

follows : (c : In_ok-check_file-2) → file_refusal c.args.second.now ≡ 0
follows c = sym c.check_file-2.ensures ∙ ap answer_number c.in_ok-check_file-2.was

joinable : (c : Else-total-gt4032) → Joinable c.args.first.now c.args.second.now c.operation_count-count.result
joinable c =
    record {
      first_accepted = sym c.check_file.ensures ∙ ap answer_number c.in_ok-check_file.was;
      second_accepted = sym c.check_file-2.ensures ∙ ap answer_number c.in_ok-check_file-2.was;
      count = c.operation_count-count.ensures;
      few = omega (arith, c.operation_count.ensures, c.if-total-gt4032.false);
    }

pub returns-in_err-check_file : goal.returns-in_err-check_file
returns-in_err-check_file c =
    let first = c.args.first.now in
    let p = err_from_is_err_and c.from_residual.result c.from_residual.ensures.1 in
    rw (p.1, p.2)
    (joins _ _ _ _ _
    (filled_refused _ _ _ _
    (then_refused c.check_file.result (file_refusal first) _ c.in_err-check_file.was c.check_file.ensures ∙ sym (join_refusal_lem first _ _))))

pub returns-in_err-check_file-2 : goal.returns-in_err-check_file-2
returns-in_err-check_file-2 c =
    let first = c.args.first.now in
    let second = c.args.second.now in
    let p = err_from_is_err_and c.from_residual-in_err-check_file-2.result c.from_residual-in_err-check_file-2.ensures.1 in
    rw (p.1, p.2)
    (joins _ _ _ _ _
    (filled_refused _ _ _ _
    (then_refused c.check_file-2.result (file_refusal second) _ c.in_err-check_file-2.was c.check_file-2.ensures
    ∙ sym (join_second first second (length c.args.out.now) (opens (goal.at.returns-in_err-check_file-2 c).In_ok-check_file)))))

pub operation_count-count-requires : goal.operation_count-count-requires
operation_count-count-requires c = accepted_blocks _ (opens (goal.at.operation_count-count-requires c).In_ok-check_file)

pub operation_count-requires : goal.operation_count-requires
operation_count-requires c = accepted_blocks _ (follows (goal.at.operation_count-requires c).In_ok-check_file-2)

pub overflow_add-total : goal.overflow_add-total
overflow_add-total c =
    let first = c.args.first.now in
    let second = c.args.second.now in
    let here = (goal.at.overflow_add-total c) in
    omega (
      arith,
      c.operation_count-count.ensures,
      c.operation_count.ensures,
      count_range first (accepted_blocks first (opens here.In_ok-check_file)),
      count_range second (accepted_blocks second (follows here.In_ok-check_file-2)),
    )

pub returns-then-total-gt4032 : goal.returns-then-total-gt4032
returns-then-total-gt4032 c =
    let here = (goal.at.returns-then-total-gt4032 c) in
    joins _ _ _ _ _
    (filled_refused _ _ _ Together
    (sym (join_together c.args.first.now c.args.second.now (length c.args.out.now) (opens here.In_ok-check_file) (follows here.In_ok-check_file-2)
    (omega (arith, c.operation_count-count.ensures, c.operation_count.ensures, c.if-total-gt4032.true)))))

pub returns-then-out-size : goal.returns-then-out-size
returns-then-out-size c =
    let ok = joinable (goal.at.returns-then-out-size c).Else-total-gt4032 in
    joins _ _ _ _ _
    (filled_refused _ _ _ Room
    (sym (join_short c.args.first.now c.args.second.now c.operation_count-count.result ok (length c.args.out.now) (omega arith))))

pub returns : goal.returns
returns c =
    let first = c.args.first.now in
    let second = c.args.second.now in
    let n = c.operation_count-count.result in
    let ok = joinable (goal.at.returns c).Else-total-gt4032 in
    let size : 512 * c.div_ceil-size.result ≡ length (joined_file first second) = omega (arith, joined_size first second n ok) in
    joins _ _ _ _ _
    (filled_done _ _ _ _ _ (join_fits first second n ok (length c.args.out.now) (omega arith)) size c.write.ensures)
