-- Remainders and low bits: their size, what they are of a number above and below zero, and the number of k bits that is read back from its low
-- k bits. Assumes nothing.
use mathlib.Core.Path.{◌≡◌}
use Prim.Native.Nat.{ℕ, suc, ◌+◌, ◌-◌, ◌%◌, ◌^◌, ◌<◌}
use native.Mathlib.Nat.{div-add-mod', mod-lt, mod-eq_of_lt, pow-suc}
use native.Mathlib.Omega.{arith}
use borrow.Author.Tests.{ltb-true, ltb-false, lt-ltb, le-ltb}
use lib.Dec.{ltb}
use lib.Pow.{pow_pos}
use lib.IntN.{ℤ, pos, negsuc, nat_abs, ◌-ℤ◌, ◌*ℤ◌}
use lib.Signed.{shr_z}
use Rattle.integers.specs.Floor.{remainder_of}
use Rattle.integers.specs.Bits.{low_bits, signed_of}
use Rattle.integers.specs.Range.{Within}
use Rattle.integers.proofs.Whole.{whole, up, down, apart, size, less, times, floor, abs_is, by_test}

-- ---- the remainder

pub remainder_range : (v : ℤ) (m : ℕ) → 0 < m → (up (remainder_of v m) < m) × (down (remainder_of v m) ≡ 0)
unfolding remainder_of
remainder_range v m h = omega (arith, less v (shr_z v m *ℤ pos m), times (shr_z v m) m, floor v m h, apart (v -ℤ shr_z v m *ℤ pos m))

pub remainder_size : (v : ℤ) (m : ℕ) → 0 < m → nat_abs (remainder_of v m) < m
remainder_size v m h = omega (arith, remainder_range v m h, abs_is (remainder_of v m))

-- of a number from zero on, and below zero
pub remainder_up : (n m : ℕ) → 0 < m → nat_abs (remainder_of (pos n) m) ≡ n % m
unfolding remainder_of
remainder_up n m h =
    let q = shr_z (pos n) m in
    omega (arith, div-add-mod' n m, mod-lt n h, abs_is (pos n -ℤ q *ℤ pos m), apart (pos n -ℤ q *ℤ pos m), less (pos n) (q *ℤ pos m), times q m)

pub remainder_down : (n m : ℕ) → 0 < m → nat_abs (remainder_of (negsuc n) m) + n % m + 1 ≡ m
unfolding remainder_of
remainder_down n m h =
    let q = shr_z (negsuc n) m in
    omega (arith, div-add-mod' n m, mod-lt n h, abs_is (negsuc n -ℤ q *ℤ pos m), apart (negsuc n -ℤ q *ℤ pos m), less (negsuc n) (q *ℤ pos m), times q m)

-- ---- the low k bits

pub low_size : (k : ℕ) (v : ℤ) → low_bits k v < 2 ^ k
unfolding low_bits
low_size k v = remainder_size v (2 ^ k) (pow_pos k)

pub low_up : (k n : ℕ) → low_bits k (pos n) ≡ n % 2 ^ k
unfolding low_bits
low_up k n = remainder_up n (2 ^ k) (pow_pos k)

pub low_down : (k n : ℕ) → low_bits k (negsuc n) + n % 2 ^ k + 1 ≡ 2 ^ k
unfolding low_bits
low_down k n = remainder_down n (2 ^ k) (pow_pos k)

-- ---- read as signed. The number has j + 1 bits

top : (j : ℕ) → suc j - 1 ≡ j
top j = omega arith

pub signed_within : (j x : ℕ) → x < 2 ^ suc j → Within j (signed_of (suc j) x)
unfolding signed_of
signed_within j x h =
    rw (top j)
    (by_test (Within j) (ltb x (2 ^ j)) (λ e. omega (arith, ltb-true x (2 ^ j) e))
    (λ e. omega (arith, ltb-false x (2 ^ j) e, size (pos x -ℤ pos (2 ^ suc j)), less (pos x) (pos (2 ^ suc j)), pow-suc 2 j)))

-- the low bits of a number that has no more, read as signed, are the number
pub signed_low : (j : ℕ) (z : ℤ) → Within j z → signed_of (suc j) (low_bits (suc j) z) ≡ z
unfolding signed_of
signed_low j (pos n) h =
    let small : n < 2 ^ suc j = omega (arith, pow-suc 2 j) in
    rw (top j, low_up (suc j) n, mod-eq_of_lt small, lt-ltb n (2 ^ j) h)
signed_low j (negsuc n) h =
    let x = low_bits (suc j) (negsuc n) in
    let small : n < 2 ^ suc j = omega (arith, pow-suc 2 j) in
    let all : x + n + 1 ≡ 2 ^ suc j = rw (mod-eq_of_lt small) at (low_down (suc j) n) in
    rw (top j, le-ltb x (2 ^ j) (omega (arith, pow-suc 2 j))) (omega (whole, less (pos x) (pos (2 ^ suc j))))
