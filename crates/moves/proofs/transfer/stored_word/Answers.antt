-- `transfer::stored_word` meets its contract: the shift is allowed. Assumes nothing.
use mathlib.Core.Path.{◌≡◌}
use mir.Val.{to_z, of_z}
use mir.Syntax.{w64}
use mir.Facts.{to_z-of_z}
use Rattle.integers.proofs.Fitting.{gave}
use Rattle.effects.specs.Operations.{byte_shift}
use Rattle.effects.proofs.Sums.{byte_allowed}
use Rattle.machine.specs.Write.{value_word}
use borrow.Author.Rules.{rules}
use Rattle.moves.proofs.transfer.stored_word.Goals as goal
use Rattle.moves.proofs.transfer.stored_word.Goals.{After-shift_of}

by : (c : After-shift_of) → to_z w64 (of_z w64 c.shift_of.result) ≡ byte_shift c.args.b2
by c = gave c.shift_of.ensures c.shift_of.type_inv

pub shift-requires : goal.shift-requires
shift-requires c =
    record { v_value = rw (to_z-of_z c.ranges.v) c.requires.v_value; n_value = rw (by (goal.at.shift-requires c).After-shift_of) (byte_allowed _ c.requires.b2_bound) }

pub returns : goal.returns
unfolding value_word
returns c =
    let r : to_z w64 (of_z w64 c.shift.result) ≡ c.shift.result = search rules in
    rw (c.store-stored.ensures, c.of.ensures, r, c.shift.ensures, to_z-of_z c.ranges.v, by (goal.at.returns c).After-shift_of)
