-- `file::check_blocks` meets its contract: std's blocks are the file's.
use mathlib.Core.Path.{◌≡◌, sym}
use Rattle.std.proofs.Common.{arith, ◌<◌, ◌/◌, length, []}
use Rattle.std.proofs.lemmas.Result.{err_from_is_err_and}
use Rattle.program.specs.Answer.{answer_number}
use Rattle.program.specs.File.{refusal_at, blocks_refusal}
use Rattle.program.proofs.Answers.{first_more, first_stop}
use Rattle.program.proofs.Slices.{chunk_at}
use Rattle.loader.proofs.file.check_blocks.Goals as goal
use Rattle.loader.proofs.file.check_blocks.Goals.{After-check_block}

pub returns-then-not-is_file_size : goal.returns-then-not-is_file_size
unfolding blocks_refusal
returns-then-not-is_file_size c = rw (← c.is_file_size.ensures, c.if-not-is_file_size.true)

-- the block that is checked
told : (c : After-check_block) → answer_number c.check_block.result ≡ refusal_at c.args.file.now c.loop-k.k
told c =
    let file = c.args.file.now in
    let inside : c.loop-k.k < length file / 512 = omega arith in
    let h = rw (c.as_chunks.ensures.front_len, c.as_chunks.ensures.front) at c.check_block.ensures in
    rw (chunk_at 512 (length file / 512) file c.loop-k.k [] inside) at h

pub returns-in_err-check_block : goal.returns-in_err-check_block
unfolding blocks_refusal
returns-in_err-check_block c =
    let file = c.args.file.now in
    let inside : c.loop-k.k < length file / 512 = omega arith in
    let h = told (goal.at.returns-in_err-check_block c).After-check_block in
    let p = err_from_is_err_and c.from_residual.result c.from_residual.ensures.1 in
    rw (p.1, p.2, ← c.is_file_size.ensures, c.if-not-is_file_size.false)
    (first_stop (refusal_at file) c.loop-k.k (length file / 512) c.check_block.result inside c.loop-k.invariant c.in_err-check_block.was h)

pub loop-k-preserved : goal.loop-k-preserved
loop-k-preserved c =
    let h = told (goal.at.loop-k-preserved c).After-check_block in
    first_more (refusal_at c.args.file.now) c.loop-k.k c.check_block.result c.loop-k.invariant c.in_ok-check_block.was h

pub returns : goal.returns
unfolding blocks_refusal
returns c =
    let file = c.args.file.now in
    let done : c.loop-k.k ≡ length file / 512 = omega arith in
    rw (← c.is_file_size.ensures, c.if-not-is_file_size.false, ← done) (sym c.loop-k.invariant)
