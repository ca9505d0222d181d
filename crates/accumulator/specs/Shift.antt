-- The shift rule.
use Rattle.std.specs.Prelude.{◌^◌, Bool, cond, ◌&&◌, ℤ, pos, ◌*ℤ◌, neg_ℤ, int_le, int_lt, unsigned_abs}
use Rattle.integers.specs.Floor.{floor_of}

-- shift by n: positive is floor of v / 2^n, negative is v × 2^-n
unfoldable pub shift_of : ℤ → ℤ → ℤ
shift_of v n = cond (int_lt n (pos 0)) (v *ℤ pos (2 ^ unsigned_abs n)) (floor_of v (2 ^ unsigned_abs n))

-- a shift of -16 .. 16; one beyond is trap 3
unfoldable pub shift_allowed : ℤ → Bool
shift_allowed n = int_le (neg_ℤ (pos 16)) n && int_le n (pos 16)
