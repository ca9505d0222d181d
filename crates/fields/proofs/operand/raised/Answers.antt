-- `operand::raised` meets its contract: the bit-reversed register in a store, or another. Assumes nothing.
use Rattle.std.proofs.Common.{eq-eqb, ne_eqb}
use Rattle.effects.specs.Pointer.{raised_of}
use Rattle.fields.proofs.operand.raised.Goals as goal
use Rattle.fields.proofs.operand.raised.Goals.{in_default-via-in-Store+else-r-reversed, in_default-via-in_default}

pub returns-in-Store : goal.returns-in-Store
unfolding raised_of
returns-in-Store c = rw (c.in-Store.is, eq-eqb _ _ c.if-r-reversed.true) c.next.ensures

pub returns-in_default : goal.returns-in_default
unfolding raised_of
returns-in_default c = elim c.in_default.branch [
  | in_default-via-in-Store+else-r-reversed w ↦ rw (w.in-Store.is, ne_eqb _ _ w.if-r-reversed.false) c.moved.ensures
  | in_default-via-in_default w ↦ rw w.in_default.is c.moved.ensures
]
