-- The name's bytes before its zeros.
use Rattle.report.specs.Line.{ending_text}
use Rattle.lines.proofs.run_fields.push_ending.Goals as goal

pub returns-clause-content : goal.returns-clause-content
unfolding ending_text
returns-clause-content c = rw (c.push_text.ensures, c.name_length.ensures.name_value, c.name-name.ensures)
