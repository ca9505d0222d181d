-- `transfer::loaded_value` meets its contract: a word times 65,536 is an accumulator, and its shift is allowed. Assumes nothing.
use mathlib.Core.Path.{◌≡◌}
use Prim.Native.Nat.{◌^◌, ◌<◌}
use mir.Val.{to_z, of_z}
use mir.Syntax.{w64}
use mir.Facts.{to_z-of_z}
use Rattle.integers.proofs.Fitting.{gave, fits_abs}
use Rattle.effects.specs.Operations.{byte_shift, loaded_value}
use Rattle.effects.proofs.Sums.{byte_allowed, word_accumulator, word_size}
use Rattle.integers.specs.Bits.{signed_of}
use lib.Dec.{lit<}
use borrow.Author.Rules.{rules}
use Rattle.moves.proofs.transfer.loaded_value.Goals as goal
use Rattle.moves.proofs.transfer.loaded_value.Goals.{After-shift_of, After-signed}

word : (c : After-signed) → c.args.x < 2 ^ 16
word c = search rules

value : (c : After-signed) → to_z w64 (of_z w64 c.signed.result) ≡ signed_of 16 c.args.x
value c = gave c.signed.ensures c.signed.type_inv

by : (c : After-shift_of) → to_z w64 (of_z w64 c.shift_of.result) ≡ byte_shift c.args.b2
by c = gave c.shift_of.ensures c.shift_of.type_inv

pub overflow_mul-signed : goal.overflow_mul-signed
overflow_mul-signed c = rw (value (goal.at.overflow_mul-signed c).After-signed) (fits_abs _ (word_size _ (word (goal.at.overflow_mul-signed c).After-signed)) (lit< tt))

pub shift-requires : goal.shift-requires
shift-requires c =
    record { v_value = rw (to_z-of_z (overflow_mul-signed (goal.at.shift-requires c).After-signed), value (goal.at.shift-requires c).After-signed) (word_accumulator _ (word (goal.at.shift-requires c).After-signed)); n_value = rw (by (goal.at.shift-requires c).After-shift_of) (byte_allowed _ c.requires) }

pub returns : goal.returns
unfolding loaded_value
returns c =
    let r : to_z w64 (of_z w64 c.shift.result) ≡ c.shift.result = search rules in
    rw (r, c.shift.ensures, to_z-of_z (overflow_mul-signed (goal.at.returns c).After-signed), value (goal.at.returns c).After-signed, by (goal.at.returns c).After-shift_of)
