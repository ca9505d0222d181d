-- `sum::add_up` meets its contract: 0 and each board's A have 40 bits. Assumes nothing.
use mathlib.Core.Path.{◌≡◌, refl}
use native.Mathlib.Omega.{arith}
use mir.Syntax.{w64}
use mir.Val.{to_z, of_z}
use borrow.Author.Rules.{rules}
use lib.ListN.{length}
use Rattle.integers.specs.Range.{lowest, highest, outside}
use Rattle.accumulator.specs.Limit.{is_accumulator}
use Rattle.combine.specs.Boards.{board_at, added_up}
use Rattle.combine.proofs.Boards.{accumulator_at_lem}
use Rattle.combine.proofs.sum.add_up.Goals as goal

pub loop-board-init : goal.loop-board-init
unfolding added_up is_accumulator outside lowest highest
loop-board-init c = (refl, refl)

pub add-sum-requires-clause-a_value : goal.add-sum-requires-clause-a_value
add-sum-requires-clause-a_value c =
    let boards = c.args.boards.now in
    let i = c.loop-board.board-index in
    let a = (board_at boards i).a in
    let back : to_z w64 (of_z w64 a) ≡ a = search rules in
    rw back (accumulator_at_lem boards (length boards) i c.requires (omega arith))
