-- `mac::factor` meets its contract. Assumes nothing.
use Rattle.products.proofs.mac.factor.Goals as goal

pub returns : goal.returns
returns c = rw c.of-taken.ensures
