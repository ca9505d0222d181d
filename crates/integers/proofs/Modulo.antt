-- Low bits for every width k: of a sum, of a negation, of what is read as signed; so that equal modulo 2^k is kept by sum, difference and negation.
-- Assumes nothing.
use mathlib.Core.Path.{◌≡◌, refl, sym, ap, ◌∙◌}
use Prim.Native.Nat.{ℕ, suc, ◌+◌, ◌*◌, ◌-◌, ◌%◌, ◌^◌, ◌<◌}
use native.Mathlib.Nat.{mod-eq_of_lt, mul-add-mod_self_right}
use native.Mathlib.Omega.{arith}
use lib.Dec.{ltb}
use lib.Pow.{pow_pos}
use lib.IntN.{ℤ, pos, neg_ℤ, ◌+ℤ◌, ◌-ℤ◌, ◌*ℤ◌}
use lib.Signed.{shr_z}
use Rattle.integers.specs.Floor.{remainder_of}
use Rattle.integers.specs.Bits.{low_bits, SameModulo, signed_of}
use Rattle.integers.specs.Range.{Within}
use Rattle.integers.proofs.Whole.{up, down, sum, neg, less, times, abs_is, by_test}
use Rattle.integers.proofs.Low.{remainder_range, low_size, low_up, signed_low}

-- ---- low bits

-- a number is its floor times 2^k, and its low k bits
low_parts : (k : ℕ) (z : ℤ) → up z + down (shr_z z (2 ^ k)) * 2 ^ k ≡ up (shr_z z (2 ^ k)) * 2 ^ k + down z + low_bits k z
unfolding low_bits remainder_of
low_parts k z =
    let q = shr_z z (2 ^ k) in
    omega (arith, less z (q *ℤ pos (2 ^ k)), times q (2 ^ k), abs_is (z -ℤ q *ℤ pos (2 ^ k)), remainder_range z (2 ^ k) (pow_pos k))

-- naturals that differ by multiples of m have the same remainder
same_remainder : (m a b u v : ℕ) → a * m + u ≡ b * m + v → u % m ≡ v % m
same_remainder m a b u v e = sym (mul-add-mod_self_right a m u) ∙ ap (λ (n : ℕ). n % m) e ∙ mul-add-mod_self_right b m v

-- a natural that differs from z by multiples of 2^k has the low bits of z
low_of : (k : ℕ) (z : ℤ) (n a b : ℕ) → up z + a * 2 ^ k ≡ b * 2 ^ k + down z + n → low_bits k z ≡ n % 2 ^ k
low_of k z n a b e =
    let q = shr_z z (2 ^ k) in
    sym (mod-eq_of_lt (low_size k z))
    ∙ same_remainder (2 ^ k) (up q + a) (down q + b) (low_bits k z) n (omega (arith, low_parts k z, e))

-- of a sum
pub low_sum : (k : ℕ) (x y : ℤ) → low_bits k (x +ℤ y) ≡ (low_bits k x + low_bits k y) % 2 ^ k
low_sum k x y =
    let p = shr_z x (2 ^ k) in
    let q = shr_z y (2 ^ k) in
    low_of k (x +ℤ y) (low_bits k x + low_bits k y) (down p + down q) (up p + up q) (omega (arith, low_parts k x, low_parts k y, sum x y))

-- of a sum that ends at k bits: a term may be reduced to k bits before it is added
pub wrapped : (k a : ℕ) (z : ℤ) → (a + low_bits k z) % 2 ^ k ≡ low_bits k (pos a +ℤ z)
wrapped k a z =
    let q = shr_z z (2 ^ k) in
    sym (low_of k (pos a +ℤ z) (a + low_bits k z) (down q) (up q) (omega (arith, low_parts k z, sum (pos a) z)))

-- of a negation
pub low_neg : (k : ℕ) (z : ℤ) → low_bits k (neg_ℤ z) ≡ (2 ^ k - low_bits k z) % 2 ^ k
low_neg k z =
    let q = shr_z z (2 ^ k) in
    low_of k (neg_ℤ z) (2 ^ k - low_bits k z) (up q + 1) (down q) (omega (arith, low_parts k z, neg z, low_size k z))

-- of k bits that are read as signed
pub low_signed : (k x : ℕ) → x < 2 ^ k → low_bits k (signed_of k x) ≡ x
unfolding signed_of
low_signed k x h =
    by_test (λ z. low_bits k z ≡ x) (ltb x (2 ^ (k - 1))) (λ e. low_up k x ∙ mod-eq_of_lt h)
    (λ e.
    low_of k (pos x -ℤ pos (2 ^ k)) x 1 0 (omega (arith, less (pos x) (pos (2 ^ k)))) ∙ mod-eq_of_lt h)

-- ---- equal modulo 2^k

module _ {k : ℕ} where
  pub same_self : (x : ℤ) → SameModulo k x x
  same_self x = record { low = refl }

  pub same_sum : {x x' y y' : ℤ} → SameModulo k x x' → SameModulo k y y' → SameModulo k (x +ℤ y) (x' +ℤ y')
  same_sum {x} {x'} {y} {y'} h l = record { low = rw (low_sum k x y, low_sum k x' y', h.low, l.low) }

  pub same_neg : {x x' : ℤ} → SameModulo k x x' → SameModulo k (neg_ℤ x) (neg_ℤ x')
  same_neg {x} {x'} h = record { low = rw (low_neg k x, low_neg k x', h.low) }

  pub same_less : {x x' y y' : ℤ} → SameModulo k x x' → SameModulo k y y' → SameModulo k (x -ℤ y) (x' -ℤ y')
  same_less h l = same_sum h (same_neg l)

-- a number of j + 1 bits is the low bits of each that it is equal to, read as signed
pub same_signed : (j : ℕ) (x y : ℤ) → Within j x → SameModulo (suc j) x y → x ≡ signed_of (suc j) (low_bits (suc j) y)
same_signed j x y h l = sym (signed_low j x h) ∙ ap (signed_of (suc j)) l.low
