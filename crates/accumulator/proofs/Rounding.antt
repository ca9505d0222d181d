-- A rounded store that needed no limiting is within half a unit of the value. Assumes nothing.
use Rattle.std.proofs.Common.{◌≡◌, ℕ, ◌≤◌, Bool, true, false, ◌&&◌, ◌||◌, eqb, ltb, ℤ, pos, ◌+ℤ◌, ◌-ℤ◌, ◌*ℤ◌, nat_abs, refl, arith, lit<, ltb-false, ltb-true, eqb-true}
use lib.Signed.{shr_z}
use Rattle.integers.specs.Floor.{remainder_of}
use Rattle.integers.specs.Bits.{low_bits, signed_of}
use Rattle.integers.proofs.Whole.{apart, sum, less, times, scaled, floor, abs_is, by_test, both, neither}
use Rattle.integers.proofs.Ranges.{not_outside, limited_inside}
use Rattle.integers.proofs.Low.{signed_low}
use Rattle.accumulator.specs.declared.mode.Mode.{Mode}
use Rattle.accumulator.specs.Store.{is_odd, rounds_up, rounded_of, needs_limiting, stored_word, store_of, HalfUnit}

-- where rounding adds 1 the remainder is 32,768 or more, and where it does not 32,768 or less
up_size : (m : Mode) (q : ℤ) (p : ℕ) → rounds_up m q p ≡ true → 32768 ≤ p
unfolding rounds_up
up_size m q p = go (ltb 32768 p) refl
  where
    go : (t : Bool) → ltb 32768 p ≡ t → (t || (eqb p 32768 && (m.rnd || is_odd q))) ≡ true → 32768 ≤ p
    go true e f = omega (arith, ltb-true 32768 p e)
    go false e f = omega (arith, eqb-true p 32768 (both (eqb p 32768) (m.rnd || is_odd q) f).0)

down_size : (m : Mode) (q : ℤ) (p : ℕ) → rounds_up m q p ≡ false → p ≤ 32768
unfolding rounds_up
down_size m q p e = ltb-false 32768 p (neither (ltb 32768 p) (eqb p 32768 && (m.rnd || is_odd q)) e).0

-- the quotient, rounded, is within half a unit
round_near : (m : Mode) (v : ℤ) → nat_abs (pos 65536 *ℤ rounded_of m v -ℤ v) ≤ 32768
unfolding rounded_of low_bits remainder_of
round_near m v =
    let q = shr_z v 65536 in
    let p = v -ℤ q *ℤ pos 65536 in
    by_test (λ z. nat_abs (pos 65536 *ℤ z -ℤ v) ≤ 32768) (rounds_up m q (nat_abs p))
    (λ e.
    let z = q +ℤ pos 1 in
    let d = pos 65536 *ℤ z -ℤ v in
    omega
    (arith, abs_is d, apart d, less (pos 65536 *ℤ z) v, scaled 65536 z, sum q (pos 1), abs_is p, apart p, less v (q *ℤ pos 65536), times q 65536, floor v 65536 (lit< tt), up_size m q (nat_abs p) e))
    (λ e.
    let d = pos 65536 *ℤ q -ℤ v in
    omega
    (arith, abs_is d, apart d, less (pos 65536 *ℤ q) v, scaled 65536 q, abs_is p, apart p, less v (q *ℤ pos 65536), times q 65536, floor v 65536 (lit< tt), down_size m q (nat_abs p) e))

-- where no limiting is needed the word, read as signed, is the result, whatever SATDW is
pub word_signed : (m : Mode) (q : ℤ) → needs_limiting q ≡ false → signed_of 16 (stored_word m q) ≡ q
unfolding needs_limiting stored_word
word_signed m q e =
    by_test (λ z. signed_of 16 (low_bits 16 z) ≡ q) m.satdw (λ f. rw (limited_inside 15 q e) (signed_low 15 q (not_outside 15 q e)))
    (λ f. signed_low 15 q (not_outside 15 q e))

pub half_unit : (m : Mode) (v : ℤ) → (store_of m true v).limiting ≡ false → HalfUnit (store_of m true v).word v
unfolding store_of
half_unit m v e = record { near = rw (word_signed m (rounded_of m v) e) (round_near m v) }
