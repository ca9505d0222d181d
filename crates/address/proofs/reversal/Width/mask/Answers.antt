-- `Width::mask` meets its contract, by arithmetic: 2N is at most 2,048. Assumes nothing.
use Rattle.std.proofs.Common.{arith, pow_pos, pow_mono}
use Rattle.address.proofs.reversal.Width.mask.Goals as goal

pub overflow_mul-result : goal.overflow_mul-result
overflow_mul-result c = omega (arith, c.words.ensures, pow_mono c.args.self.bound)

pub overflow_sub-result : goal.overflow_sub-result
overflow_sub-result c = omega (arith, c.words.ensures, pow_pos c.args.self.b)

pub returns : goal.returns
returns c = omega (arith, c.words.ensures)
