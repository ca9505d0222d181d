-- A mask of k ones leaves the low k bits; a bit that is shifted and joined to the bits below it is added. Assumes nothing.
use mathlib.Core.Path.{◌≡◌, sym, ap, ◌∙◌}
use mathlib.Core.Bool.{Bool, true, false}
use Prim.Native.Nat.{ℕ, suc, ◌+◌, ◌*◌, ◌-◌, ◌/◌, ◌%◌, ◌^◌, ◌≤◌, ◌<◌, zero-le}
use native.Mathlib.Nat.{le_refl, lt_of_le_of_lt, lt_of_lt_of_le, add-mul, div-add-mod', div-lt_iff_lt-mul, mod-lt}
use native.Mathlib.Omega.{arith}
use lib.Dec.{lit<}
use lib.Bits.{bit_and, bit_or, and_mask, or_shifted}
use lib.Pow.{shl_exact, pow_pos, pow_mono}
use lib.Arith.{digits_mod}
use lib.IntN.{ℤ, pos, negsuc, nat_abs}
use mir.Syntax.{w64}
use mir.Val.{SFits, to_z, of_z, bool_byte}
use mir.Facts.{to_z_pos}
use Rattle.integers.specs.Floor.{remainder_of}
use Rattle.integers.specs.Bits.{low_bits}
use Rattle.integers.proofs.Low.{remainder_up, remainder_down}

-- ---- masks

-- the bits of a whole number, by m that divides 2^64
pub bits_remainder : (z : ℤ) (m n : ℕ) → 0 < m → n * m ≡ 2 ^ 64 → SFits w64 z → of_z w64 z % m ≡ nat_abs (remainder_of z m)
bits_remainder (pos a) m n h e f = sym (remainder_up a m h)
bits_remainder (negsuc a) m n h e f =
    let x = nat_abs (remainder_of (negsuc a) m) in
    let q = a / m in
    let few : q < n = (div-lt_iff_lt-mul h).1 (omega (arith, f.sfits)) in
    let k = n - suc q in
    let all : k + suc q ≡ n = omega arith in
    let parts : k * m + suc q * m ≡ n * m = sym (add-mul k (suc q) m) ∙ ap (λ (y : ℕ). y * m) all in
    let bits : 2 ^ 64 - suc a ≡ k * m + x = omega (arith, div-add-mod' a m, remainder_down a m h) in
    rw bits (digits_mod k (omega (arith, remainder_down a m h)))

-- a mask of k ones on an i64: `mask z 16 (2 ^ 48) (lit≤ tt) refl fits` for z & 0xffff
pub mask : (z : ℤ) (k n : ℕ) → k ≤ 63 → n * 2 ^ k ≡ 2 ^ 64 → SFits w64 z → to_z w64 (bit_and (of_z w64 z) (2 ^ k - 1)) ≡ pos (low_bits k z)
unfolding low_bits
mask z k n h e f =
    rw (and_mask (of_z w64 z) k)
    (to_z_pos w64 (lt_of_lt_of_le (mod-lt (of_z w64 z) (pow_pos k)) (pow_mono h)) ∙ ap pos (bits_remainder z (2 ^ k) n (pow_pos k) e f))

-- ---- single bits

pub bit_size : (b : Bool) → bool_byte b ≤ 1
bit_size true = le_refl 1
bit_size false = zero-le

-- a bit put at place k of a word
pub put : (b : Bool) (k : ℕ) → k < 16 → bool_byte b * 2 ^ k % 2 ^ 16 ≡ bool_byte b * 2 ^ k
put b k h = shl_exact 1 k 16 (lt_of_le_of_lt (bit_size b) (lit< tt)) (omega arith)

-- and joined to the bits below it
pub join : (b : Bool) (k : ℕ) {x n : ℕ} → k < 16 → n < 2 ^ k → x ≡ n → bit_or (bool_byte b * 2 ^ k % 2 ^ 16) x ≡ bool_byte b * 2 ^ k + n
join b k {x} {n} h l e = rw (put b k h, e) (or_shifted (bool_byte b) k n l)
