-- `sum::add_up` meets its contract. The invariant: the sum so far is that of the boards passed, and has 40 bits. Assumes nothing.
use mathlib.Core.Bool.{true}
use mathlib.Core.Path.{◌≡◌}
use Rattle.accumulator.specs.Limit.{is_accumulator}
use Rattle.combine.specs.Boards.{added_up}
use Rattle.combine.proofs.sum.add_up.Given as goal

abbrev pub invariant-loop-board : goal.invariant-loop-board
invariant-loop-board l = (l.sum ≡ added_up l.mode l.boards l.initial.sum l.board-index) × (is_accumulator l.sum.value ≡ true)
