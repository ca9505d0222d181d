-- The words of the header's bytes from 32 on.
use Rattle.std.proofs.Common.{arith, ◌∙◌}
use Rattle.stream.specs.Header.{registers_in}
use Rattle.stream.proofs.Registers.{part_words}
use Rattle.stream.proofs.header.Header.registers.Goals as goal

pub returns : goal.returns
unfolding registers_in
returns c = c.fill.ensures ∙ part_words c.args.self.now.bytes 14 (omega arith)
