-- `file::repeats_at` meets its contract: an accepted file holds its operations, and the i-th has its role where it stands.
use mathlib.Core.Path.{ap, ◌∙◌}
use native.Mathlib.Nat.{le_trans}
use native.Mathlib.Omega.{arith}
use Rattle.program.specs.File.{operation_count, program_of}
use Rattle.program.specs.Placement.{is_repeat}
use Rattle.program.specs.declared.layout.Layout.TheVariants.{Blocks}
use Rattle.program.proofs.Accepted.{accepted_blocks}
use Rattle.program.proofs.Places.{place_inside, count_range, span_inside}
use Rattle.loader.proofs.file.repeats_at.Goals as goal

pub role_in-requires : goal.role_in-requires
role_in-requires c =
    let file = c.args.file.now in
    let blocks = accepted_blocks file c.requires.file_value in
    record { i_bound = omega (arith, c.requires.i_bound, (count_range file blocks).1); i_in_bounds = le_trans (place_inside Blocks (operation_count file) c.args.i c.requires.i_bound) (span_inside file blocks) }

pub returns : goal.returns
unfolding program_of
returns c =
    c.is_repeat.ensures ∙ ap is_repeat (c.role_in.ensures (operation_count c.args.file.now) c.requires.i_bound)
