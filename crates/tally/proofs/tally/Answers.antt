-- `tally` meets its contract: the line of the run from the reset state without correction. Assumes nothing.
use mathlib.Core.Path.{sym}
use borrow.Author.Rules.{rules}
use Rattle.tally.proofs.tally.Goals as goal

pub returns : goal.returns
returns c =
    record {
      outcome = _;
      memory = _;
      runs = rw (c.plain-settings.ensures, c.reset-state.ensures) at c.run-outcome.ensures;
      line = c.tally_line.ensures;
    }
