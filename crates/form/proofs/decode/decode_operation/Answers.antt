-- `decode::decode_operation` meets its contract: the operation's bytes stand in the file, and its words are theirs.
use mathlib.Core.Path.{◌≡◌}
use native.Mathlib.Nat.{le_trans}
use native.Mathlib.Omega.{arith}
use Rattle.std.proofs.Common.{rules, ◌+◌, ◌*◌, ◌/◌, ◌%◌, ◌<◌, ◌≤◌, length}
use Rattle.program.specs.File.{operation_count}
use Rattle.program.specs.Layout.{bytes_of}
use Rattle.program.specs.declared.layout.Layout.TheVariants.{Blocks}
use Rattle.program.proofs.Accepted.{accepted_blocks, program_nth}
use Rattle.program.proofs.Places.{place_inside, count_range, span_inside}
use Rattle.form.proofs.Programs.{bytes_again, bytes_words_length}
use Rattle.form.proofs.decode.decode_operation.Goals as goal
use Rattle.form.proofs.decode.decode_operation.Goals.{Start}

small : (c : Start) → c.args.i < 4032
small c = omega (arith, c.requires.i_bound, (count_range c.args.file.now (accepted_blocks c.args.file.now c.requires.file_value)).1)

inside : (c : Start) → 512 * (c.args.i / 63) + 8 + 8 * (c.args.i % 63) + 8 ≤ length c.args.file.now
inside c =
    let file = c.args.file.now in
    le_trans (place_inside Blocks (operation_count file) c.args.i c.requires.i_bound) (span_inside file (accepted_blocks file c.requires.file_value))

pub overflow_mul-at : goal.overflow_mul-at
overflow_mul-at c = omega (arith, small (goal.at.overflow_mul-at c).Start)

pub overflow_add-at : goal.overflow_add-at
overflow_add-at c = omega (arith, small (goal.at.overflow_add-at c).Start)

pub overflow_add-at-2 : goal.overflow_add-at-2
overflow_add-at-2 c = omega (arith, small (goal.at.overflow_add-at-2 c).Start)

pub overflow_add-at-3 : goal.overflow_add-at-3
overflow_add-at-3 c = omega (arith, small (goal.at.overflow_add-at-3 c).Start)

pub slice_bounds-as_array-end : goal.slice_bounds-as_array-end
slice_bounds-as_array-end c = inside (goal.at.slice_bounds-as_array-end c).Start

pub returns : goal.returns
returns c =
    let file = c.args.file.now in
    let i = c.args.i in
    let bytes : c.unwrap.result.now ≡ bytes_of Blocks file i = search rules in
    λ other.
    rw (program_nth file c.requires.file_value i other c.requires.i_bound, bytes_again file c.requires.file_value i c.requires.i_bound, ← bytes, bytes_words_length)
    (rw (c.copy_from_slice.ensures.after, c.words_of-words.ensures))
