-- `reversal::is_power` meets its contract: a power of two has a width. Assumes nothing.
use Rattle.address.specs.Reversal.{is_power}
use Rattle.address.proofs.reversal.is_power.Goals as goal

pub returns : goal.returns
unfolding is_power
returns c = rw c.of.ensures
