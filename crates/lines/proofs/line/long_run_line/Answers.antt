-- The end comes back to the line without its end.
use Rattle.lines.proofs.Ends.{ended_long}
use Rattle.lines.proofs.line.long_run_line.Goals as goal

pub returns : goal.returns
returns c = rw (c.push_end.ensures, c.unended_long_run-line.ensures.content) (ended_long c.args.outcome c.args.memory.now)
