-- `Within k z` says that z is one of -2^k .. 2^k - 1, and `outside k z` that it is none of them. Assumes nothing.
use mathlib.Core.Path.{◌≡◌, refl}
use mathlib.Core.Bool.{Bool, true, false, ◌||◌}
use Prim.Native.Nat.{ℕ, ◌-◌, ◌^◌}
use native.Mathlib.Omega.{arith}
use lib.IntN.{ℤ, pos, neg_ℤ}
use lib.Signed.{lt_z, ◌≤ℤ◌}
use lib.Pow.{pow_pos}
use Rattle.integers.specs.Range.{lowest, highest, outside, nearer, limited_to, Within}
use Rattle.integers.proofs.Whole.{whole, size, neg, neither, by_test}

pub within_bounds : (k : ℕ) (z : ℤ) → Within k z → (lowest k ≤ℤ z) × (z ≤ℤ highest k)
unfolding lowest highest
within_bounds k z h = omega (whole, size z, neg (pos (2 ^ k)))

pub bounds_within : (k : ℕ) (z : ℤ) → lowest k ≤ℤ z → z ≤ℤ highest k → Within k z
unfolding lowest highest
bounds_within k z l h = omega (whole, size z, neg (pos (2 ^ k)), pow_pos k)

pub not_outside : (k : ℕ) (z : ℤ) → outside k z ≡ false → Within k z
unfolding outside lowest highest
not_outside k z e =
    let t = neither (lt_z z (neg_ℤ (pos (2 ^ k)))) (lt_z (pos (2 ^ k - 1)) z) e in
    omega (whole, size z, neg (pos (2 ^ k)), pow_pos k)

or_false : (t u : Bool) → t ≡ false → u ≡ false → (t || u) ≡ false
or_false false false d e = refl
or_false false true d e = e
or_false true u d e = d

pub within_inside : (k : ℕ) (z : ℤ) → Within k z → outside k z ≡ false
unfolding outside lowest highest
within_inside k z h =
    or_false (lt_z z (neg_ℤ (pos (2 ^ k)))) (lt_z (pos (2 ^ k - 1)) z) (omega (whole, size z, neg (pos (2 ^ k)))) (omega (whole, size z))

pub nearer_within : (k : ℕ) (z : ℤ) → Within k (nearer k z)
unfolding nearer lowest highest
nearer_within k z =
    by_test (Within k) (lt_z z (pos 0)) (λ e. omega (arith, size (neg_ℤ (pos (2 ^ k))), neg (pos (2 ^ k)), pow_pos k)) (λ e. omega (arith, pow_pos k))

pub limited_inside : (k : ℕ) (z : ℤ) → outside k z ≡ false → limited_to k z ≡ z
unfolding limited_to
limited_inside k z e = rw e
