-- `step::stepped` meets its contract: the low 16 bits of the step are added and wrap. Assumes nothing.
use Rattle.std.proofs.Common.{◌≡◌, sym, ◌∙◌, arith, mod-eq_of_lt, pos, negsuc, ℤ, w16, SFits, of_z, to_z-of_z}
use Rattle.integers.specs.Bits.{low_bits}
use Rattle.integers.proofs.Low.{low_up, low_down}
use Rattle.integers.proofs.Modulo.{wrapped}
use Rattle.address.specs.Step.{stepped_of}
use Rattle.address.proofs.step.stepped.Goals as goal

step_bits : (z : ℤ) → SFits w16 z → of_z w16 z ≡ low_bits 16 z
step_bits (pos n) h = sym (low_up 16 n ∙ mod-eq_of_lt (omega (arith, h.sfits)))
step_bits (negsuc n) h = omega (arith, h.sfits, low_down 16 n)

pub returns : goal.returns
unfolding stepped_of
returns c =
    c.wrapping_add_signed.ensures
    ∙ rw (to_z-of_z c.ranges.step, step_bits c.args.step c.ranges.step) (wrapped 16 c.args.a.0 c.args.step)
