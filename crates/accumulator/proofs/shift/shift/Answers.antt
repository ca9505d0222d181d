-- `shift::shift` meets its contract: the amount is the size of n, and 1 << k is 2^k for k up to 16. Assumes nothing.
use Rattle.std.proofs.Common.{◌≡◌, ℕ, ◌^◌, ◌≤◌, true, false, ℤ, pos, negsuc, ◌-ℤ◌, ◌*ℤ◌, nat_abs, refl, le_trans, lt_of_le_of_lt, lit<, lit≤, pow_mono, to_z-of_z, w64, SFits, of_z}
use lib.Signed.{lt_z}
use Rattle.integers.specs.Range.{Within}
use Rattle.integers.proofs.Whole.{whole, size, less, abs_is, product_le}
use Rattle.integers.proofs.Fitting.{fits_abs, floor_plain, power_plain}
use Rattle.accumulator.specs.Shift.{shift_of}
use Rattle.accumulator.proofs.Sizes.{accumulator_within, allowed_size}
use Rattle.accumulator.proofs.shift.shift.Goals as goal
use Rattle.accumulator.proofs.shift.shift.Goals.{Else-n-lt0, Start, Then-n-lt0}

-- the amount as the machine has it, of n below zero and of n from zero on
left_amount : (n : ℤ) → lt_z n (pos 0) ≡ true → of_z w64 (pos 0 -ℤ n) ≡ nat_abs n
left_amount (pos k) t = absurd (omega whole)
left_amount (negsuc k) t = omega whole

right_amount : (n : ℤ) → lt_z n (pos 0) ≡ false → of_z w64 n ≡ nat_abs n
right_amount (pos k) t = refl
right_amount (negsuc k) t = absurd (omega whole)

-- v times 1 << k
times_fits : (v : ℤ) {k : ℕ} → Within 39 v → k ≤ 16 → SFits w64 (v *ℤ pos (2 ^ k))
times_fits v {k} h l =
    let wide : nat_abs v ≤ 2 ^ 39 = omega (whole, size v, abs_is v) in
    fits_abs (v *ℤ pos (2 ^ k)) (product_le v (pos (2 ^ k)) wide (pow_mono l)) (lit< tt)

-- what is asked, as bounds
value : (c : Start) → Within 39 c.args.v
value c = accumulator_within c.args.v c.requires.v_value

amount : (c : Start) → nat_abs c.args.n ≤ 16
amount c = allowed_size c.args.n c.requires.n_value

-- the test, of the number itself
below-zero : (c : Then-n-lt0) → lt_z c.args.n (pos 0) ≡ true
below-zero c = simp (to_z-of_z c.ranges.n) at c.if-n-lt0.true

from_zero : (c : Else-n-lt0) → lt_z c.args.n (pos 0) ≡ false
from_zero c = simp (to_z-of_z c.ranges.n) at c.if-n-lt0.false

pub overflow_sub-result : goal.overflow_sub-result
overflow_sub-result c =
    let n = c.args.n in
    simp (to_z-of_z c.ranges.n) (omega (whole, size (pos 0 -ℤ n), less (pos 0) n, abs_is n, amount (goal.at.overflow_sub-result c).Start))

pub overflow_shl-result : goal.overflow_shl-result
overflow_shl-result c =
    simp (to_z-of_z c.ranges.n, left_amount c.args.n (below-zero (goal.at.overflow_shl-result c).Then-n-lt0)) (lt_of_le_of_lt (amount (goal.at.overflow_shl-result c).Start) (lit< tt))

pub overflow_mul-result : goal.overflow_mul-result
overflow_mul-result c =
    simp (to_z-of_z c.ranges.v, to_z-of_z c.ranges.n, left_amount c.args.n (below-zero (goal.at.overflow_mul-result c).Then-n-lt0), power_plain (le_trans (amount (goal.at.overflow_mul-result c).Start) (lit≤ tt)))
    (times_fits c.args.v (value (goal.at.overflow_mul-result c).Start) (amount (goal.at.overflow_mul-result c).Start))

pub overflow_shr-result : goal.overflow_shr-result
overflow_shr-result c = simp (right_amount c.args.n (from_zero (goal.at.overflow_shr-result c).Else-n-lt0)) (lt_of_le_of_lt (amount (goal.at.overflow_shr-result c).Start) (lit< tt))

pub returns-then-n-lt0 : goal.returns-then-n-lt0
unfolding shift_of
returns-then-n-lt0 c =
    rw (to_z-of_z (overflow_mul-result c), below-zero (goal.at.returns-then-n-lt0 c).Then-n-lt0)
    (simp (to_z-of_z c.ranges.v, to_z-of_z c.ranges.n, left_amount c.args.n (below-zero (goal.at.returns-then-n-lt0 c).Then-n-lt0), power_plain (le_trans (amount (goal.at.returns-then-n-lt0 c).Start) (lit≤ tt))))

pub returns-else-n-lt0 : goal.returns-else-n-lt0
unfolding shift_of
returns-else-n-lt0 c =
    rw (from_zero (goal.at.returns-else-n-lt0 c).Else-n-lt0)
    (simp (to_z-of_z c.ranges.v, right_amount c.args.n (from_zero (goal.at.returns-else-n-lt0 c).Else-n-lt0)) (floor_plain (2 ^ nat_abs c.args.n) c.ranges.v))
