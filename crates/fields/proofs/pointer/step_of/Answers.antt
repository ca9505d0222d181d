-- `pointer::step_of` meets its contract: 2(c − 3) has 16 bits. Assumes nothing.
use Prim.Native.Nat.{◌<◌}
use native.Mathlib.Omega.{arith}
use mir.Facts.{to_z-of_z}
use Rattle.effects.specs.Pointer.{step_of}
use Rattle.effects.proofs.Sums.{less_three_fits, step_fits, byte_plain}
use Rattle.fields.proofs.pointer.step_of.Goals as goal
use Rattle.fields.proofs.pointer.step_of.Goals.{Start}

byte_small : (c : Start) → c.args.c < 256
byte_small c = omega (arith, c.requires)

pub overflow_sub-result : goal.overflow_sub-result
overflow_sub-result c = less_three_fits c.args.c (byte_small (goal.at.overflow_sub-result c).Start)

pub overflow_mul-result : goal.overflow_mul-result
overflow_mul-result c = rw (to_z-of_z (overflow_sub-result c)) (step_fits c.args.c (byte_small (goal.at.overflow_mul-result c).Start))

pub returns : goal.returns
unfolding step_of
returns c = rw (to_z-of_z (overflow_mul-result c), to_z-of_z (overflow_sub-result c), byte_plain c.args.c (byte_small (goal.at.returns c).Start))
