-- `block::put_unsummed` meets its contract: a header, a part with the operations, a part with zeros.
use native.Mathlib.Omega.{arith}
use Rattle.std.proofs.Common.{rules}
use Rattle.program.proofs.Blocks.{unsummed_put}
use Rattle.loader.proofs.block.put_unsummed.Goals as goal

pub returns : goal.returns
returns c =
    unsummed_put c.args.k c.args.body.now c.args.out.now
    c.put_header.new.out c.copy.new.to c.fill.new.self
    (omega arith) (omega arith) c.put_header.ensures c.copy.ensures (search rules)
