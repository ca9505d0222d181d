-- `decode::decode_program` meets its contract: the words of each operation go behind those before it.
use native.Mathlib.Omega.{arith}
use mathlib.Core.Path.{◌≡◌, sym}
use Rattle.std.proofs.Common.{ℕ, ◌*◌, ◌<◌}
use Rattle.program.specs.File.{operation_count, program_of}
use Rattle.program.specs.Layout.{bytes_of, operations_in}
use Rattle.program.specs.declared.layout.Layout.TheVariants.{Blocks}
use Rattle.operations.specs.declared.operation.Operation.TheVariants.{EndEarly}
use Rattle.program.proofs.Accepted.{accepted_blocks, program_nth}
use Rattle.program.proofs.Slices.{over_more}
use Rattle.form.specs.Words.{words_of_bytes}
use Rattle.form.specs.Form.{form_of}
use Rattle.form.proofs.Programs.{first_length, first_more, bytes_again}
use Rattle.form.proofs.decode.decode_program.Goals as goal

pub operation_count-i-end-requires : goal.operation_count-i-end-requires
operation_count-i-end-requires c = accepted_blocks c.args.file.now c.requires.file_value

pub loop-i-preserved : goal.loop-i-preserved
loop-i-preserved c =
    let file = c.args.file.now in
    let i : ℕ = c.loop-i.i in
    let before : i < operation_count file = omega arith in
    let words = rw (program_nth file c.requires.file_value i EndEarly before, bytes_again file c.requires.file_value i before) at (c.decode_operation.ensures EndEarly) in
    rw (first_more file c.requires.file_value i before)
    (over_more (form_of (operations_in Blocks file i)) (words_of_bytes (bytes_of Blocks file i)) c.args.to.now c.loop-i.to c.decode_operation.new.to (16 * i)
    (sym (first_length file c.requires.file_value i)) c.loop-i.invariant words)

pub returns : goal.returns
unfolding program_of
returns c =
    let done : c.loop-i.i ≡ operation_count c.args.file.now = omega arith in
    rw (← done) c.loop-i.invariant
