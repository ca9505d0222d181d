-- The check of the zeros goes on from that of the registers.
use Rattle.text.proofs.Texts.{check_append}
use Rattle.lines.proofs.run_fields.check_registers.Goals as goal

pub returns : goal.returns
returns c = rw (c.check-2.ensures, c.check.ensures) (check_append 0 c.args.w _)
