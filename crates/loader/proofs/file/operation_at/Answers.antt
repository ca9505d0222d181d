-- `file::operation_at` meets its contract: an accepted file holds its operations, and the i-th is read where it stands.
use mathlib.Core.Path.{sym, ◌∙◌}
use native.Mathlib.Nat.{le_trans}
use Rattle.program.specs.File.{operation_count}
use Rattle.program.specs.declared.layout.Layout.TheVariants.{Blocks}
use Rattle.program.proofs.Accepted.{accepted_blocks, program_nth}
use Rattle.program.proofs.Places.{place_inside, count_range, span_inside}
use native.Mathlib.Omega.{arith}
use Rattle.loader.proofs.file.operation_at.Goals as goal

pub operation_in-requires : goal.operation_in-requires
operation_in-requires c =
    let file = c.args.file.now in
    let blocks = accepted_blocks file c.requires.file_value in
    record { i_bound = omega (arith, c.requires.i_bound, (count_range file blocks).1); i_in_bounds = le_trans (place_inside Blocks (operation_count file) c.args.i c.requires.i_bound) (span_inside file blocks) }

pub returns : goal.returns
returns c =
    λ other. c.operation_in.ensures ∙ sym (program_nth c.args.file.now c.requires.file_value c.args.i other c.requires.i_bound)
