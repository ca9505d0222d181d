-- `Width::next_index` meets its contract: a mask of b ones is the remainder by N. Assumes nothing.
use Rattle.std.proofs.Common.{◌∙◌, arith, pow_pos, pow_mono}
use lib.Bits.{and_mask}
use Rattle.address.specs.Reversal.{next_index}
use Rattle.address.proofs.Reversals.{rev_below}
use Rattle.address.proofs.reversal.Width.next_index.Goals as goal

pub overflow_add-up : goal.overflow_add-up
overflow_add-up c = omega (arith, c.reversed.ensures, rev_below c.args.self.b c.args.j, pow_mono c.args.self.bound)

pub overflow_sub-up : goal.overflow_sub-up
overflow_sub-up c = omega (arith, c.words.ensures, pow_pos c.args.self.b)

pub returns : goal.returns
unfolding next_index
returns c = c.reversed-2.ensures ∙ rw (c.words.ensures, c.reversed.ensures, and_mask)
