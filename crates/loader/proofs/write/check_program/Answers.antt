-- `write::check_program` meets its contract: the size is the first refusal.
use Rattle.program.specs.Write.{program_refusal}
use Rattle.loader.proofs.write.check_program.Goals as goal

pub returns-then-not-is_operations_size : goal.returns-then-not-is_operations_size
unfolding program_refusal
returns-then-not-is_operations_size c = rw (← c.is_operations_size.ensures, c.if-not-is_operations_size.true)

pub returns : goal.returns
unfolding program_refusal
returns c = rw (← c.is_operations_size.ensures, c.if-not-is_operations_size.false) c.check.ensures
