-- The width of N is at most ten, and N has one exactly where it is a power of two 2 .. 1,024: by induction over the widths. Assumes nothing.
use Rattle.std.proofs.Common.{◌≡◌, ℕ, zero, suc, ◌+◌, ◌*◌, ◌/◌, ◌%◌, ◌^◌, ◌<◌, ◌≤◌, Bool, true, false, ◌&&◌, eqb, ltb, leb, sym, refl, ap, ◌∙◌, arith, pow_pos, pow_mono, w16, ltb-false, ltb-true, eq-eqb, ne_eqb, eqb-true, leb-false, leb-true, le-leb}
use Rattle.std.proofs.lemmas.Nat.{zero_from_ones}
use Rattle.std.proofs.lemmas.Nat.Bits.{bit_at-trailing_zeros, bit_at-pow_other}
use Rattle.std.specs.Int.{bit_at, trailing_zeros, is_power_of_two}
use borrow.Author.Tests.{eqb-false, not-true}
use native.Mathlib.Nat.{pow-suc}
use native.Mathlib.Decide.{dec_le}
use lib.Count.{ones, ones_step, ones-le}
use lib.Pow.{pow-lt}
use Rattle.integers.proofs.Whole.{by_test, both, never}
use Rattle.address.specs.Reversal.{width_up_to, width_of, is_power}

width_top : (top n : ℕ) → width_up_to top n ≤ top
unfolding width_up_to
width_top zero n = omega arith
width_top (suc b) n = by_test (λ w. w ≤ suc b) (eqb n (2 ^ suc b)) (λ e. omega arith) (λ e. omega (arith, width_top b n))

pub width_le : (n : ℕ) → width_of n ≤ 10
unfolding width_of
width_le n = width_top 10 n

-- ---- a power of two has its exponent as width

same_power : (b c : ℕ) → b ≤ c → 2 ^ b ≡ 2 ^ c → b ≡ c
same_power b c h e = go (ltb b c) refl
  where
    go : (t : Bool) → ltb b c ≡ t → b ≡ c
    go true l = absurd (omega (arith, pow-lt (ltb-true b c l)))
    go false l = omega (arith, ltb-false b c l)

lower : (b c : ℕ) → b ≤ suc c → (2 ^ b ≡ 2 ^ suc c → ⊥) → b ≤ c
lower b c h n = go (leb b c) refl
  where
    go : (t : Bool) → leb b c ≡ t → b ≤ c
    go true l = leb-true b c l
    go false l =
        let e : b ≡ suc c = omega (arith, leb-false b c l) in
        absurd (n (ap (λ (x : ℕ). 2 ^ x) e))

width_is : (top b : ℕ) → 0 < b → b ≤ top → width_up_to top (2 ^ b) ≡ b
unfolding width_up_to
width_is zero b h l = absurd (omega arith)
width_is (suc t) b h l =
    by_test (λ w. w ≡ b) (eqb (2 ^ b) (2 ^ suc t)) (λ e. sym (same_power b (suc t) l (eqb-true (2 ^ b) (2 ^ suc t) e)))
    (λ e. width_is t b h (lower b t l (eqb-false (2 ^ b) (2 ^ suc t) e)))

pub power_width : (b : ℕ) → 0 < b → b ≤ 10 → width_of (2 ^ b) ≡ b
unfolding width_of
power_width b h l = width_is 10 b h l

pub power_accepted : (b : ℕ) → 0 < b → b ≤ 10 → is_power (2 ^ b) ≡ true
unfolding is_power
power_accepted b h l = rw (power_width b h l, ne_eqb b 0 (λ (e : b ≡ 0). omega arith))

-- ---- an N that has a width is that power of two

is_power_lem : (top n : ℕ) → 0 < width_up_to top n → 2 ^ width_up_to top n ≡ n
unfolding width_up_to
is_power_lem zero n = λ h. absurd (omega arith)
is_power_lem (suc t) n = by_test (λ w. 0 < w → 2 ^ w ≡ n) (eqb n (2 ^ suc t)) (λ e h. sym (eqb-true n (2 ^ suc t) e)) (λ e h. is_power_lem t n h)

positive_power : (n : ℕ) → 0 < width_of n → 2 ^ width_of n ≡ n
unfolding width_of
positive_power n h = is_power_lem 10 n h

pub width_power : (n : ℕ) → is_power n ≡ true → 2 ^ width_of n ≡ n
unfolding width_of is_power
width_power n h =
    let some : width_of n ≡ 0 → ⊥ = eqb-false (width_of n) 0 (not-true (eqb (width_of n) 0) h) in
    is_power_lem 10 n (omega arith)

-- ---- the width by the bits of N

-- a number with one bit set is a power of two
one_bit : (top n : ℕ) → n < 2 ^ top → ones n ≡ 1 → (k : ℕ) × (n ≡ 2 ^ k)
one_bit zero n l e = absurd (omega (arith, ones-le 0 n l))
one_bit (suc t) n l e =
    elim (dec_le 1 (n % 2)) [
      | yes h ↦
          let none : ones (n / 2) ≡ 0 = omega (arith, ones_step n) in
          (0, omega (arith, zero_from_ones (n / 2) none))
      | no h ↦
          let rest = one_bit t (n / 2) (omega (arith, pow-suc 2 t)) (omega (arith, ones_step n)) in
          (suc rest.0, omega (arith, rest.1, pow-suc 2 rest.0))
    ]

one_bit_set : ones 1 ≡ 1
unfolding ones
one_bit_set = refl

power_bit : (k : ℕ) → ones (2 ^ k) ≡ 1
power_bit zero = one_bit_set
power_bit (suc k) =
    let double : 2 ^ suc k ≡ 2 * 2 ^ k = omega (arith, pow-suc 2 k) in
    let even : 2 ^ suc k % 2 ≡ 0 = omega (arith, double) in
    let half : 2 ^ suc k / 2 ≡ 2 ^ k = omega (arith, double) in
    let step : ones (2 ^ suc k) ≡ 0 + ones (2 ^ k) = rw (even, half) at (ones_step (2 ^ suc k)) in
    omega (arith, step, power_bit k)

-- it is the lowest
power_lowest : (k : ℕ) → k < 16 → trailing_zeros w16 (2 ^ k) ≡ k
power_lowest k l =
    let z = trailing_zeros w16 (2 ^ k) in
    let found = bit_at-trailing_zeros w16 (2 ^ k) (pow_pos k) (pow-lt l) in
    go (eqb z k) refl found.1
  where
    go : (b : Bool) → eqb (trailing_zeros w16 (2 ^ k)) k ≡ b → bit_at (2 ^ k) (trailing_zeros w16 (2 ^ k)) ≡ 1 → trailing_zeros w16 (2 ^ k) ≡ k
    go true d one = eqb-true (trailing_zeros w16 (2 ^ k)) k d
    go false d one = absurd (omega (arith, bit_at-pow_other k (trailing_zeros w16 (2 ^ k)) (eqb-false (trailing_zeros w16 (2 ^ k)) k d)))

-- what the code tests of N
abbrev pub is_single : ℕ → Bool
is_single n = is_power_of_two n && leb 2 n && leb n 1024

pub single_width : (n : ℕ) → is_single n ≡ true → (trailing_zeros w16 n ≡ width_of n) × (trailing_zeros w16 n ≤ 10)
single_width n h =
    let parts = both (is_power_of_two n && leb 2 n) (leb n 1024) h in
    let first = both (is_power_of_two n) (leb 2 n) parts.0 in
    let high : n ≤ 1024 = leb-true n 1024 parts.1 in
    let low : 2 ≤ n = leb-true 2 n first.1 in
    let power = one_bit 16 n (omega arith) (eqb-true (ones n) 1 first.0) in
    let k = power.0 in
    let most : k ≤ 10 = go k (omega (arith, power.1)) in
    let some : 0 < k = least k (omega (arith, power.1)) in
    rw power.1 (power_lowest k (omega arith) ∙ sym (power_width k some most), omega (arith, power_lowest k (omega arith)))
  where
    go : (k : ℕ) → 2 ^ k ≤ 1024 → k ≤ 10
    go k l = elim (dec_le k 10) [ yes h ↦ h | no h ↦ absurd (omega (arith, pow_mono {i = 11} {j = k} (omega arith))) ]

    least : (k : ℕ) → 2 ≤ 2 ^ k → 0 < k
    least zero l = absurd (omega arith)
    least (suc k) l = omega arith

pub single_none : (n : ℕ) → is_single n ≡ false → 0 ≡ width_of n
single_none n h = go (eqb (width_of n) 0) refl
  where
    go : (b : Bool) → eqb (width_of n) 0 ≡ b → 0 ≡ width_of n
    go true d = sym (eqb-true (width_of n) 0 d)
    go false d =
        let w = width_of n in
        let some : 0 < w = omega (arith, eqb-false (width_of n) 0 d) in
        let power : 2 ^ w ≡ n = positive_power n some in
        let low : 2 ≤ n = omega (arith, power, pow_mono {i = 1} {j = w} some) in
        let high : n ≤ 1024 = omega (arith, power, pow_mono {i = w} {j = 10} (width_le n)) in
        let bit : ones n ≡ 1 = rw (← power) (power_bit w) in
        never (sym h ∙ rw (eq-eqb (ones n) 1 bit, le-leb 2 n low, le-leb n 1024 high))
