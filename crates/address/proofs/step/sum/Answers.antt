-- `step::sum` meets its contract: the wrapping sum is the definition. Assumes nothing.
use Rattle.std.proofs.Common.{refl}
use Rattle.address.specs.Step.{address_sum}
use Rattle.address.proofs.step.sum.Goals as goal

pub returns : goal.returns
unfolding address_sum
returns c = refl
