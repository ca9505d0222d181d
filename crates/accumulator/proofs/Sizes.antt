-- How large the numbers are that the rules give: products, kept values, shifted values. Assumes nothing.
use Rattle.std.proofs.Common.{◌≡◌, ℕ, ◌*◌, ◌^◌, ◌<◌, ◌≤◌, Bool, true, false, not, ◌&&◌, ℤ, pos, negsuc, ◌+ℤ◌, ◌-ℤ◌, ◌*ℤ◌, nat_abs, le_refl, arith, pow_mono, w64, SFits}
use borrow.Author.Tests.{not-true}
use lib.Signed.{lt_z, le_z, mag_shr}
use Rattle.integers.specs.Bits.{low_bits, signed_of}
use Rattle.integers.specs.Range.{outside, nearer, Within}
use Rattle.integers.proofs.Whole.{whole, size, sum, less, abs_is, product_le, by_test, both}
use Rattle.integers.proofs.Ranges.{not_outside, within_inside, nearer_within}
use Rattle.integers.proofs.Low.{low_size, signed_within}
use Rattle.accumulator.specs.declared.mode.Mode.{Mode}
use Rattle.accumulator.specs.declared.mode.Target.{Target}
use Rattle.accumulator.specs.declared.product.Factor.{Factor}
use Rattle.accumulator.specs.Mode.{saturates}
use Rattle.accumulator.specs.Product.{read_of, product_of}
use Rattle.accumulator.specs.Limit.{limit_bits, has_left, kept_of, is_accumulator}
use Rattle.accumulator.specs.Shift.{shift_of, shift_allowed}

-- ---- products

pub signed_size : (w : ℕ) → w < 2 ^ 16 → nat_abs (signed_of 16 w) ≤ 32768
signed_size w h =
    let z = signed_of 16 w in
    omega (arith, signed_within 15 w h, size z, abs_is z)

pub read_size : (f : Factor) → f.word < 2 ^ 16 → nat_abs (read_of f) ≤ 65535
unfolding read_of
read_size f h = by_test (λ z. nat_abs z ≤ 65535) f.unsigned (λ e. omega arith) (λ e. omega (arith, signed_size f.word h))

pub product_size : (integer : Bool) (m n : Factor) → m.word < 2 ^ 16 → n.word < 2 ^ 16 → nat_abs (product_of integer m n) ≤ 65535 * 65535 * 2
unfolding product_of
product_size true m n hm hn = omega (arith, product_le (read_of m) (read_of n) (read_size m hm) (read_size n hn))
product_size false m n hm hn =
    product_le (read_of m *ℤ read_of n) (pos 2) (product_le (read_of m) (read_of n) (read_size m hm) (read_size n hn)) (le_refl 2)

-- ---- kept values

-- a result within the limits has 40 bits
pub inside_within : (m : Mode) (t : Target) (r : ℤ) → has_left m t r ≡ false → Within 39 r
unfolding has_left limit_bits
inside_within m t r =
    by_test (λ k. outside k r ≡ false → Within 39 r) (saturates m t && not m.accsat) (λ e l. omega (arith, not_outside 31 r l)) (λ e l. not_outside 39 r l)

-- either limit has 40 bits
limit_within : (m : Mode) (t : Target) (r : ℤ) → Within 39 (nearer (limit_bits m t) r)
unfolding limit_bits
limit_within m t r =
    by_test (λ k. Within 39 (nearer k r)) (saturates m t && not m.accsat) (λ e. omega (arith, nearer_within 31 r)) (λ e. nearer_within 39 r)

-- what is kept has 40 bits, whatever the result was
pub kept_within : (m : Mode) (t : Target) (r : ℤ) → Within 39 (kept_of m t r)
unfolding kept_of
kept_within m t r =
    by_test (Within 39) (has_left m t r)
    (λ e. by_test (Within 39) (saturates m t) (λ f. limit_within m t r) (λ f. signed_within 39 (low_bits 40 r) (low_size 40 r)))
    (λ e. inside_within m t r e)

-- a state's check of an accumulator is the bound that the rules ask for
pub accumulator_within : (v : ℤ) → is_accumulator v ≡ true → Within 39 v
unfolding is_accumulator
accumulator_within v e = not_outside 39 v (not-true (outside 39 v) e)

pub within_accumulator : (v : ℤ) → Within 39 v → is_accumulator v ≡ true
unfolding is_accumulator
within_accumulator v h = rw (within_inside 39 v h)

-- sums and differences of such values fit
module _ (v r : ℤ) (h : Within 39 v) (l : Within 39 r) where
  pub sum_fits : SFits w64 (v +ℤ r)
  sum_fits = omega (whole, size v, size r, size (v +ℤ r), sum v r)

  pub difference_fits : SFits w64 (v -ℤ r)
  difference_fits = omega (whole, size v, size r, size (v -ℤ r), less v r)

-- ---- shifts

-- the check of a shift is the bound that `shift` asks for
pub allowed_size : (n : ℤ) → shift_allowed n ≡ true → nat_abs n ≤ 16
unfolding shift_allowed
allowed_size n e =
    let h = both (le_z (negsuc 15) n) (le_z n (pos 16)) e in
    omega (whole, size n, abs_is n)

-- a value of 40 bits, shifted, has at most 57
pub shift_within : (v n : ℤ) → Within 39 v → nat_abs n ≤ 16 → Within 56 (shift_of v n)
unfolding shift_of
shift_within v n h l =
    let k = nat_abs n in
    let wide : nat_abs v ≤ 2 ^ 39 = omega (whole, size v, abs_is v) in
    let z = v *ℤ pos (2 ^ k) in
    by_test (Within 56) (lt_z n (pos 0)) (λ e. omega (arith, size z, abs_is z, product_le v (pos (2 ^ k)) wide (pow_mono l)))
    (λ e. omega (arith, mag_shr v (2 ^ k)))
