-- What an i64 holds: that a number fits, and that it is read back as it was. A local of type i64 holds bits, so a goal has
-- `to_z w64 (of_z w64 z)`, which `to_z-of_z c.fits.x` of mir.Facts turns into z for a parameter x. Assumes nothing.
use mathlib.Core.Path.{◌≡◌, ◌∙◌}
use Prim.Native.Nat.{ℕ, ◌*◌, ◌%◌, ◌^◌, ◌≤◌, ◌<◌}
use native.Mathlib.Omega.{arith}
use native.Mathlib.Nat.{one-mul, mod-eq_of_lt, lt_of_le_of_lt, lt_of_lt_of_le}
use lib.Dec.{lit≤, lit<}
use lib.Pow.{pow_mono}
use lib.IntN.{ℤ, pos, nat_abs}
use lib.Signed.{mag, shr_z, mag_shr}
use mir.Syntax.{w16, w64}
use mir.Val.{Fits, SFits, to_z, of_z}
use mir.Facts.{to_z-of_z, to_z_pos}
use Rattle.integers.proofs.Whole.{size, abs_is}

-- ---- a number fits

pub fits_abs : (z : ℤ) {m : ℕ} → nat_abs z ≤ m → m < 2 ^ 63 → SFits w64 z
fits_abs z h k = omega (arith, size z, abs_is z)

pub fits_floor : {z : ℤ} (m : ℕ) → SFits w64 z → SFits w64 (shr_z z m)
fits_floor {z} m h = record { sfits = lt_of_le_of_lt (mag_shr z m) h.sfits }

-- ---- a number is read back

-- a call's result, as the callee's `ensures` has it: `gave c.f.ensures c.f.ok`
pub gave : {z s : ℤ} → z ≡ s → mag z < 2 ^ 63 → to_z w64 (of_z w64 z) ≡ s
gave e h = to_z-of_z {w = w64} (record { sfits = h }) ∙ e

-- a shift to the right
pub floor_plain : {z : ℤ} (m : ℕ) → SFits w64 z → to_z w64 (of_z w64 (shr_z z m)) ≡ shr_z z m
floor_plain m h = to_z-of_z (fits_floor m h)

-- a word that was cast
pub word_plain : {n : ℕ} → Fits w16 n → to_z w64 n ≡ pos n
word_plain h = to_z_pos w64 (lt_of_lt_of_le h.fits (lit≤ tt))

-- 1 << k
pub power_plain : {k : ℕ} → k ≤ 62 → to_z w64 (1 * 2 ^ k % 2 ^ 64) ≡ pos (2 ^ k)
power_plain {k} h =
    let small : 2 ^ k ≤ 2 ^ 62 = pow_mono h in
    simp (one-mul, mod-eq_of_lt {m = 2 ^ 64} (lt_of_le_of_lt small (lit< tt))) (to_z_pos w64 (lt_of_le_of_lt small (lit< tt)))
