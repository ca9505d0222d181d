-- Sums and steps have 16 bits, the circular step takes the cases of its definition, and its i64 sums fit: by arithmetic. Assumes nothing.
use Rattle.std.proofs.Common.{◌≡◌, ℕ, ◌+◌, ◌^◌, ◌<◌, true, false, leb, ℤ, pos, ◌+ℤ◌, ◌-ℤ◌, sym, refl, ◌∙◌, mod-lt, arith, lit<, to_z-of_z, w16, w64, Fits, SFits, to_z, of_z, leb-true}
use lib.Signed.{lt_z, mag}
use Rattle.integers.specs.Bits.{low_bits}
use Rattle.integers.proofs.Whole.{whole, size, sum, less, both, by_test, lt_yes, no_lt}
use Rattle.integers.proofs.Fitting.{word_plain}
use Rattle.integers.proofs.Low.{low_size}
use Rattle.address.specs.declared.step.Buffer.{Buffer}
use Rattle.address.specs.Step.{address_sum, stepped_of, is_within, size_of, corrected_of, circular_of}

-- ---- addresses of 16 bits

pub sum_below : (a w : ℕ) → address_sum a w < 2 ^ 16
unfolding address_sum
sum_below a w = mod-lt (a + w) (lit< tt)

pub stepped_below : (a : ℕ) (step : ℤ) → stepped_of a step < 2 ^ 16
unfolding stepped_of
stepped_below a step = low_size 16 (pos a +ℤ step)

pub circular_below : (buffer : Buffer) (old : ℕ) (step : ℤ) → circular_of buffer old step < 2 ^ 16
unfolding circular_of
circular_below buffer old step = low_size 16 _

-- ---- sums that fit

module _ {a : ℕ} {step : ℤ} (h : Fits w16 a) (l : SFits w16 step) where
  pub sum_small : mag (pos a +ℤ step) < 2 ^ 17
  sum_small = omega (whole, size (pos a +ℤ step), sum (pos a) step, size step, h.fits, l.sfits)

  pub sum_fits : SFits w64 (pos a +ℤ step)
  sum_fits = omega (arith, sum_small)

module _ {s e : ℕ} (h : Fits w16 s) (l : Fits w16 e) where
  pub apart_fits : SFits w64 (pos e -ℤ pos s)
  apart_fits = omega (whole, size (pos e -ℤ pos s), less (pos e) (pos s), h.fits, l.fits)

  pub size_small : mag (size_of s e) < 2 ^ 17
  size_small = omega (whole, size (size_of s e), sum (pos e -ℤ pos s) (pos 1), less (pos e) (pos s), h.fits, l.fits)

  pub size_fits : SFits w64 (size_of s e)
  size_fits = omega (arith, size_small)

bytes_fit : (to n : ℤ) → mag to < 2 ^ 17 → mag n < 2 ^ 17 → SFits w64 (to -ℤ n) × SFits w64 (to +ℤ n)
bytes_fit to n h l = (omega (whole, size (to -ℤ n), less to n, size to, size n), omega (whole, size (to +ℤ n), sum to n, size to, size n))

-- ---- the cases

-- what the code knows of its local `to`: it is the unreduced sum
pub record Known (buffer : Buffer) (old : ℕ) (step to : ℤ) : Type 0 where
  pub start : Fits w16 buffer.start.0
  pub last : Fits w16 buffer.last.0
  pub small : mag (pos old +ℤ step) < 2 ^ 17
  pub to_is : to_z w64 (of_z w64 to) ≡ pos old +ℤ step

-- and where it has worked out the buffer's bytes
abbrev pub Sized : Buffer → ℤ → Type 0
Sized buffer bytes = to_z w64 (of_z w64 bytes) ≡ size_of buffer.start.0 buffer.last.0

module _ {buffer : Buffer} {old : ℕ} {step to : ℤ} (k : Known buffer old step to) where
  -- the code's tests are the definition's
  last_test : lt_z (to_z w64 buffer.last.0) (to_z w64 (of_z w64 to)) ≡ lt_z (pos buffer.last.0) (pos old +ℤ step)
  last_test = rw (k.to_is, word_plain k.last)

  start_test : lt_z (to_z w64 (of_z w64 to)) (to_z w64 buffer.start.0) ≡ lt_z (pos old +ℤ step) (pos buffer.start.0)
  start_test = rw (k.to_is, word_plain k.start)

  -- nothing is corrected unless the old address is within and the sum is not
  pub plain :
      (is_within buffer.start.0 buffer.last.0 old ≡ true → lt_z (to_z w64 (of_z w64 to)) (to_z w64 buffer.start.0) ≡ false)
      → (is_within buffer.start.0 buffer.last.0 old ≡ true → lt_z (to_z w64 buffer.last.0) (to_z w64 (of_z w64 to)) ≡ false)
      → stepped_of old step ≡ circular_of buffer old step
  unfolding circular_of corrected_of stepped_of
  plain low high =
      let sum = pos old +ℤ step in
      by_test (λ (z : ℤ). low_bits 16 sum ≡ low_bits 16 z) (is_within buffer.start.0 buffer.last.0 old)
      (λ within. rw (sym last_test ∙ high within, sym start_test ∙ low within)) (λ outside. refl)

  -- the buffer's bytes are taken off or added
  module _ (bytes : ℤ) (n : Sized buffer bytes) where
    pub to_fits : SFits w64 (to_z w64 (of_z w64 to) -ℤ to_z w64 (of_z w64 bytes)) × SFits w64 (to_z w64 (of_z w64 to) +ℤ to_z w64 (of_z w64 bytes))
    to_fits = rw (k.to_is, n) (bytes_fit (pos old +ℤ step) (size_of buffer.start.0 buffer.last.0) k.small (size_small k.start k.last))

    module _ (within : is_within buffer.start.0 buffer.last.0 old ≡ true) where
      pub above :
          lt_z (to_z w64 buffer.last.0) (to_z w64 (of_z w64 to)) ≡ true
          → low_bits 16 (to_z w64 (of_z w64 (to_z w64 (of_z w64 to) -ℤ to_z w64 (of_z w64 bytes)))) ≡ circular_of buffer old step
      unfolding circular_of corrected_of
      above t = rw (to_z-of_z to_fits.0, k.to_is, n, within, sym last_test ∙ t)

      pub below :
          lt_z (to_z w64 (of_z w64 to)) (to_z w64 buffer.start.0) ≡ true
          → low_bits 16 (to_z w64 (of_z w64 (to_z w64 (of_z w64 to) +ℤ to_z w64 (of_z w64 bytes)))) ≡ circular_of buffer old step
      unfolding circular_of corrected_of
      below t =
          let s : ℕ = buffer.start.0 in
          let e : ℕ = buffer.last.0 in
          let sum : ℤ = pos old +ℤ step in
          let under : lt_z sum (pos s) ≡ true = sym start_test ∙ t in
          let parts = both (leb s old) (leb old e) within in
          let high : lt_z (pos e) sum ≡ false = no_lt (pos e) sum (omega (whole, lt_yes sum (pos s) under, leb-true s old parts.0, leb-true old e parts.1)) in
          rw (to_z-of_z to_fits.1, k.to_is, n, within, high, under)
