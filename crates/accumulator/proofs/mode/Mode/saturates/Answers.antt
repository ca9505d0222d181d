-- `Mode::saturates` meets its contract, accumulator by accumulator. Assumes nothing.
use Rattle.accumulator.specs.Mode.{saturates}
use Rattle.accumulator.proofs.mode.Mode.saturates.Goals as goal

pub returns-in-A : goal.returns-in-A
unfolding saturates
returns-in-A c = rw c.in-A.is

pub returns-in-B : goal.returns-in-B
unfolding saturates
returns-in-B c = rw c.in-B.is
