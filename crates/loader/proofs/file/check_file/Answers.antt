-- `file::check_file` meets its contract: the blocks' refusal is the first.
use mathlib.Core.Path.{◌≡◌, sym, ap, ◌∙◌}
use Rattle.std.proofs.lemmas.Result.{err_from_is_err_and}
use Rattle.program.specs.Answer.{answer_number}
use Rattle.program.specs.File.{blocks_refusal, file_refusal}
use Rattle.program.proofs.Answers.{then_refused}
use Rattle.program.proofs.Places.{count_range, span_inside}
use Rattle.loader.proofs.file.check_file.Goals as goal
use Rattle.loader.proofs.file.check_file.Goals.{In_ok-check_blocks}

right : (c : In_ok-check_blocks) → blocks_refusal c.args.file.now ≡ 0
right c = sym c.check_blocks.ensures ∙ ap answer_number c.in_ok-check_blocks.was

pub returns-in_err-check_blocks : goal.returns-in_err-check_blocks
unfolding file_refusal
returns-in_err-check_blocks c =
    let p = err_from_is_err_and c.from_residual.result c.from_residual.ensures.1 in
    rw (p.1, p.2) (then_refused c.check_blocks.result _ _ c.in_err-check_blocks.was c.check_blocks.ensures)

pub invariant_of-operations : goal.invariant_of-operations
invariant_of-operations c =
    let file = c.args.file.now in
    let blocks = right (goal.at.invariant_of-operations c).In_ok-check_blocks in
    rw c.operation_count.ensures (record { few = (count_range file blocks).1; inside = span_inside file blocks })

pub returns : goal.returns
unfolding file_refusal
returns c = rw (right (goal.at.returns c).In_ok-check_blocks, ← c.operation_count.ensures) c.check.ensures
