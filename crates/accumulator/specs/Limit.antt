-- What an accumulator keeps of an exact result r, and its flags.
use Rattle.std.specs.Prelude.{ℕ, Bool, cond, not, ◌&&◌, ◌||◌, ℤ}
use Rattle.integers.specs.Bits.{low_bits, signed_of}
use Rattle.integers.specs.Range.{outside, nearer}
use Rattle.accumulator.specs.Mode.{saturates}
use Rattle.accumulator.specs.declared.mode.Mode.{Mode}
use Rattle.accumulator.specs.declared.mode.Target.{Target}
use Rattle.accumulator.specs.declared.limit.Accumulator.{Accumulator}

-- the limits are -2^k .. 2^k - 1: k is 31 with that accumulator's saturation on and ACCSAT 0, otherwise 39
unfoldable pub limit_bits : Mode → Target → ℕ
limit_bits m t = cond (saturates m t && not m.accsat) 31 39

-- r is outside the limits
unfoldable pub has_left : Mode → Target → ℤ → Bool
has_left m t r = outside (limit_bits m t) r

-- outside them, with saturation on the nearer limit is kept, with it off the low 40 bits, read as signed
unfoldable pub kept_of : Mode → Target → ℤ → ℤ
kept_of m t r =
    cond (has_left m t r)
    (cond (saturates m t) (nearer (limit_bits m t) r) (signed_of 40 (low_bits 40 r)))
    r

-- O flag: kept value outside -2^31 .. 2^31 - 1
unfoldable pub overflows : ℤ → Bool
overflows v = outside 31 v

-- r is written: the value kept; O redone; S set where r is outside the limits, and it stays
unfoldable pub write_of : Accumulator → Mode → Target → ℤ → Accumulator
write_of before m t r =
    record {
      value = kept_of m t r;
      overflow = overflows (kept_of m t r);
      saturation = before.saturation || has_left m t r;
    }

-- a value of 40 bits, signed
unfoldable pub is_accumulator : ℤ → Bool
is_accumulator v = not (outside 39 v)
