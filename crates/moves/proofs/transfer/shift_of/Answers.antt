-- `transfer::shift_of` meets its contract: a word less 8 fits. Assumes nothing.
use Prim.Native.Nat.{◌^◌, ◌<◌}
use mathlib.Core.Path.{◌≡◌}
use native.Mathlib.Nat.{lt_of_lt_of_le}
use lib.Dec.{lit≤}
use lib.IntN.{pos, ◌-ℤ◌}
use mir.Facts.{to_z-of_z, to_z_pos}
use mir.Syntax.{w64}
use mir.Val.{to_z}
use Rattle.integers.proofs.Whole.{whole, size, less}
use Rattle.effects.specs.Operations.{byte_shift}
use borrow.Author.Rules.{rules}
use Rattle.moves.proofs.transfer.shift_of.Goals as goal
use Rattle.moves.proofs.transfer.shift_of.Goals.{Start}

small : (c : Start) → c.args.b2 < 2 ^ 16
small c = search rules

plain : (c : Start) → to_z w64 c.args.b2 ≡ pos c.args.b2
plain c = to_z_pos w64 (lt_of_lt_of_le (small c) (lit≤ tt))

pub overflow_sub-result : goal.overflow_sub-result
overflow_sub-result c =
    let b = c.args.b2 in
    rw (plain (goal.at.overflow_sub-result c).Start) (omega (whole, small (goal.at.overflow_sub-result c).Start, size (pos b -ℤ pos 8), less (pos b) (pos 8)))

pub returns : goal.returns
unfolding byte_shift
returns c = rw (to_z-of_z (overflow_sub-result c), plain (goal.at.returns c).Start)
