-- Sums and differences of accumulators and products fit an i64. Assumes nothing.
use Prim.Native.Nat.{ℕ, ◌+◌, ◌%◌, ◌^◌, ◌≤◌, ◌<◌}
use native.Mathlib.Nat.{lt_of_lt_of_le}
use lib.Dec.{lit≤}
use mathlib.Core.Bool.{true}
use mathlib.Core.Path.{◌≡◌, ap, ◌∙◌}
use native.Mathlib.Omega.{arith}
use lib.IntN.{ℤ, pos, neg_ℤ, nat_abs, ◌+ℤ◌, ◌-ℤ◌, ◌*ℤ◌}
use lib.Signed.{mag, le_z}
use mir.Syntax.{w16, w64}
use mir.Val.{SFits, to_z}
use mir.Facts.{to_z_pos}
use Rattle.integers.specs.Bits.{low_bits, signed_of}
use Rattle.integers.proofs.Whole.{whole, size, sum, less, times, scaled, abs_is}
use Rattle.integers.proofs.Low.{low_size, low_up}
use Rattle.integers.proofs.Modulo.{wrapped}
use Rattle.accumulator.specs.Limit.{is_accumulator}
use Rattle.accumulator.specs.Shift.{shift_allowed}
use Rattle.accumulator.proofs.Sizes.{accumulator_within, within_accumulator, signed_size, allowed_size, shift_within}
use Rattle.effects.specs.Operations.{byte_shift, loaded_value}

-- a sum of two accumulators
pub sum_fits : (x y : ℤ) → is_accumulator x ≡ true → is_accumulator y ≡ true → SFits w64 (x +ℤ y)
sum_fits x y a b =
    let k : mag x < 2 ^ 39 = accumulator_within x a in
    let l : mag y < 2 ^ 39 = accumulator_within y b in
    omega (whole, k, l, size x, size y, size (x +ℤ y), sum x y)

-- ---- a prefetch's step

-- a byte, read with 16 bits
pub byte_plain : (c : ℕ) → c < 256 → to_z w16 c ≡ pos c
byte_plain c h = to_z_pos w16 (lt_of_lt_of_le h (lit≤ tt))

pub less_three_fits : (c : ℕ) → c < 256 → SFits w16 (to_z w16 c -ℤ pos 3)
less_three_fits c h = rw (byte_plain c h) (omega (whole, h, size (pos c -ℤ pos 3), less (pos c) (pos 3)))

pub step_fits : (c : ℕ) → c < 256 → SFits w16 (pos 2 *ℤ (to_z w16 c -ℤ pos 3))
step_fits c h =
    rw (byte_plain c h)
    (omega (whole, h, size (pos 2 *ℤ (pos c -ℤ pos 3)), scaled 2 (pos c -ℤ pos 3), less (pos c) (pos 3), size (pos c -ℤ pos 3)))

-- ---- a difference of words

-- what y added to wraps back to x is x - y reduced to 16 bits
pub wraps_back : (x y r : ℕ) → x < 2 ^ 16 → y < 2 ^ 16 → r < 2 ^ 16 → (r + y) % 2 ^ 16 ≡ x → r ≡ low_bits 16 (pos x -ℤ pos y)
wraps_back x y r a b l e =
    let z : ℤ = pos x -ℤ pos y in
    let whole_sum : pos y +ℤ z ≡ pos x = omega (whole, sum (pos y) z, less (pos x) (pos y)) in
    let low : ℕ = low_bits 16 z in
    let wraps : (y + low) % 2 ^ 16 ≡ x % 2 ^ 16 = wrapped 16 y z ∙ ap (low_bits 16) whole_sum ∙ low_up 16 x in
    let small : low < 2 ^ 16 = low_size 16 z in
    omega (arith, a, b, l, e, wraps, small)

-- ---- shifts

-- a shift's byte is one of -8 .. 7
pub byte_allowed : (b2 : ℕ) → b2 < 16 → shift_allowed (byte_shift b2) ≡ true
unfolding shift_allowed byte_shift
byte_allowed b2 h =
    let n : ℤ = pos b2 -ℤ pos 8 in
    let low : le_z (neg_ℤ (pos 16)) n ≡ true = omega (whole, h, less (pos b2) (pos 8)) in
    let high : le_z n (pos 16) ≡ true = omega (whole, h, less (pos b2) (pos 8)) in
    rw (low, high)

pub byte_shift_size : (b2 : ℕ) → b2 < 16 → nat_abs (byte_shift b2) ≤ 16
byte_shift_size b2 h = allowed_size (byte_shift b2) (byte_allowed b2 h)

-- a word times 65,536 is below 2^31
pub word_size : (x : ℕ) → x < 2 ^ 16 → nat_abs (signed_of 16 x *ℤ pos 65536) ≤ 2 ^ 31
word_size x h = omega (whole, signed_size x h, times (signed_of 16 x) 65536, abs_is (signed_of 16 x), abs_is (signed_of 16 x *ℤ pos 65536))

pub word_accumulator : (x : ℕ) → x < 2 ^ 16 → is_accumulator (signed_of 16 x *ℤ pos 65536) ≡ true
word_accumulator x h =
    let v : ℤ = signed_of 16 x *ℤ pos 65536 in
    within_accumulator v (omega (whole, word_size x h, abs_is v, size v))

-- what kinds 12 and 13 load is of 57 bits, and its sum with an accumulator fits
pub loaded_within : (x b2 : ℕ) → x < 2 ^ 16 → b2 < 16 → mag (loaded_value x b2) < 2 ^ 56
unfolding loaded_value
loaded_within x b2 h l =
    shift_within (signed_of 16 x *ℤ pos 65536) (byte_shift b2) (accumulator_within _ (word_accumulator x h)) (byte_shift_size b2 l)

pub load_fits : (v z : ℤ) → is_accumulator v ≡ true → mag z < 2 ^ 56 → SFits w64 (v +ℤ z)
load_fits v z a l =
    let k : mag v < 2 ^ 39 = accumulator_within v a in
    omega (whole, k, l, size v, size z, size (v +ℤ z), sum v z)
