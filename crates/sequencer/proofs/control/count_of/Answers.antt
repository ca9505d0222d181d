-- `control::count_of` meets its contract: a register, or word 11. Assumes nothing.
use Rattle.sequencer.proofs.Begins.{register_range}
use Rattle.sequencer.proofs.control.count_of.Goals as goal

pub register-requires : goal.register-requires
register-requires c = rw c.word.ensures (register_range c.args.coded.code.now c.args.coded.at c.args.coded.encoded (rw c.kind.ensures at c.in-20.is))
