-- `Width::words` meets its contract: 1 shifted by at most ten places stays in a word. Assumes nothing.
use Rattle.std.proofs.Common.{◌∙◌, one-mul, arith, lit<, shl_exact}
use Rattle.address.proofs.reversal.Width.words.Goals as goal

pub returns : goal.returns
returns c = shl_exact 1 c.args.self.b 16 (lit< tt) (omega arith) ∙ one-mul _
