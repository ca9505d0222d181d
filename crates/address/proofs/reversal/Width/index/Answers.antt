-- `Width::index` meets its contract: a mask of b + 1 ones is the remainder by 2N. Assumes nothing.
use Rattle.address.specs.Reversal.{index_of}
use Rattle.address.proofs.Reversals.{index_mask}
use Rattle.address.proofs.reversal.Width.index.Goals as goal

pub returns : goal.returns
unfolding index_of
returns c = rw (c.mask.ensures, index_mask c.args.self.b c.args.a.0)
