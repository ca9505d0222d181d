-- The bytes so far, and then those that are left before the first zero.
use Rattle.lines.proofs.Names.{NameSoFar}
use Rattle.lines.proofs.run_fields.name_length.Given as goal

abbrev pub invariant-loop-n : goal.invariant-loop-n
invariant-loop-n l = NameSoFar l.fn.name l.n
