-- The items so far are counted.
use Rattle.std.proofs.Common.{ℕ, ◌<◌, ◌%◌, get_or}
use Rattle.stream.proofs.count.count_up.Given as goal

abbrev pub invariant-loop-i : goal.invariant-loop-i
invariant-loop-i g l = (k : ℕ) → (d : g.row.T.Denot) → k < l.i → g.T.From.from_gives (k % 251) (get_or l.slice k d)
