-- Each turn takes at least one character; the bytes so far are no more than there is room for.
use Rattle.std.proofs.Common.{◌≤◌, length}
use Rattle.assemble.proofs.parse.Given as goal

abbrev pub invariant-loop-rest : goal.invariant-loop-rest
invariant-loop-rest l = l.n ≤ length l.out

abbrev pub decreases-loop-rest : goal.decreases-loop-rest
decreases-loop-rest l = length l.rest
