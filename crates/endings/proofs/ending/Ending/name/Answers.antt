-- `ending::Ending::name` meets its contract. Assumes nothing.
use Rattle.endings.specs.Ending.{name_of}
use Rattle.endings.proofs.Names.{trap_name, refused_name}
use Rattle.endings.proofs.ending.Ending.name.Goals as goal

pub returns-in-Done : goal.returns-in-Done
unfolding name_of
returns-in-Done c = rw c.in-Done.is

pub returns-in-Spent : goal.returns-in-Spent
unfolding name_of
returns-in-Spent c = rw c.in-Spent.is

pub returns-in-Trap : goal.returns-in-Trap
returns-in-Trap c = rw (c.in-Trap.is, c.decimal.ensures) (trap_name _)

pub returns-in-Refused : goal.returns-in-Refused
returns-in-Refused c = rw (c.in-Refused.is, c.decimal-in-Refused.ensures) (refused_name _)
