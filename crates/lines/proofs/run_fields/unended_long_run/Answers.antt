-- The fields come in the order of the line in the long form, without its end.
use Rattle.std.proofs.Common.{sym}
use Rattle.report.specs.Line.{long_run_line}
use Rattle.lines.proofs.Ends.{unended_end}
use Rattle.lines.proofs.run_fields.unended_long_run.Goals as goal

pub returns-clause-content : goal.returns-clause-content
unfolding long_run_line
returns-clause-content c =
    rw (c.push_fields.ensures.content, c.push_field.ensures.content, c.push_text.ensures, c.run_fields-line.ensures.content, c.check_registers.ensures)
    (sym (unended_end _))
