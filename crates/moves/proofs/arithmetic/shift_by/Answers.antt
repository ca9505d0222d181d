-- `arithmetic::shift_by` meets its contract: a trap, or the shift. Assumes nothing.
use Rattle.std.proofs.Common.{◌≡◌, sym, ◌∙◌, to_z-of_z, w64, to_z, of_z, rules}
use Rattle.integers.specs.Bits.{signed_of}
use Rattle.integers.proofs.Fitting.{gave}
use Rattle.accumulator.specs.Shift.{shift_allowed}
use Rattle.moves.proofs.arithmetic.shift_by.Goals as goal
use Rattle.moves.proofs.arithmetic.shift_by.Goals.{After-is_allowed, After-signed-n}

by : (c : After-signed-n) → to_z w64 (of_z w64 c.signed-n.result) ≡ signed_of 16 c.args.x
by c = gave c.signed-n.ensures c.signed-n.type_inv

allowed : (c : After-is_allowed) → shift_allowed (signed_of 16 c.args.x) ≡ c.is_allowed.result
allowed c = sym (rw (by c.before) at c.is_allowed.ensures)

pub returns-then-not-is_allowed : goal.returns-then-not-is_allowed
returns-then-not-is_allowed c = rw (allowed (goal.at.returns-then-not-is_allowed c).After-is_allowed ∙ c.if-not-is_allowed.true)

pub shift-requires : goal.shift-requires
shift-requires c =
    record { v_value = rw (to_z-of_z c.ranges.v) c.requires; n_value = sym c.is_allowed.ensures ∙ c.if-not-is_allowed.false }

pub returns : goal.returns
returns c =
    let r : to_z w64 (of_z w64 c.shift.result) ≡ c.shift.result = search rules in
    rw (allowed (goal.at.returns c).After-is_allowed ∙ c.if-not-is_allowed.false, r, c.shift.ensures, by (goal.at.returns c).After-signed-n, to_z-of_z c.ranges.v)
