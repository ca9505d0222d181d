-- What a write of an exact result r does to an accumulator: inside the limits r is kept and S is as it was; S is set only where r left the limits,
-- and stays; with saturation off what is kept is r modulo 2^40. Assumes nothing.
use Rattle.std.proofs.Common.{◌≡◌, Bool, true, false, ◌||◌, ℤ, refl}
use Rattle.integers.specs.Bits.{low_bits, SameModulo}
use Rattle.integers.proofs.Whole.{by_test}
use Rattle.integers.proofs.Low.{low_size}
use Rattle.integers.proofs.Modulo.{same_self, low_signed}
use Rattle.accumulator.specs.declared.mode.Mode.{Mode}
use Rattle.accumulator.specs.declared.mode.Target.{Target}
use Rattle.accumulator.specs.declared.limit.Accumulator.{Accumulator}
use Rattle.accumulator.specs.Mode.{saturates}
use Rattle.accumulator.specs.Limit.{has_left, kept_of, overflows, write_of}

-- a result within the limits is kept as it is
pub kept_inside : (m : Mode) (t : Target) (r : ℤ) → has_left m t r ≡ false → kept_of m t r ≡ r
unfolding kept_of
kept_inside m t r e = rw e

-- with saturation off what is kept is the result modulo 2^40
pub kept_modulo : (m : Mode) (t : Target) (r : ℤ) → saturates m t ≡ false → SameModulo 40 (kept_of m t r) r
unfolding kept_of
kept_modulo m t r off =
    rw off
    (by_test (λ z. SameModulo 40 z r) (has_left m t r) (λ e. record { low = low_signed 40 (low_bits 40 r) (low_size 40 r) }) (λ e. same_self r))

or_right : (s l : Bool) → l ≡ false → (s || l) ≡ s
or_right true l e = refl
or_right false l e = e

-- the whole write within the limits
pub write_inside : (before : Accumulator) (m : Mode) (t : Target) (r : ℤ) → has_left m t r ≡ false →
    write_of before m t r ≡ record { value = r; overflow = overflows r; saturation = before.saturation }
unfolding write_of
write_inside before m t r e = rw (kept_inside m t r e, or_right before.saturation (has_left m t r) e)

-- S that was clear is set exactly where r left the limits
pub saturation_only : (before : Accumulator) (m : Mode) (t : Target) (r : ℤ) → before.saturation ≡ false → (write_of before m t r).saturation ≡ has_left m t r
unfolding write_of
saturation_only before m t r e = rw e

-- S that was set stays
pub saturation_stays : (before : Accumulator) (m : Mode) (t : Target) (r : ℤ) → before.saturation ≡ true → (write_of before m t r).saturation ≡ true
unfolding write_of
saturation_stays before m t r e = rw e
