-- The reversal: it splits anywhere, reads its own bits alone, undoes itself; its bits; the index and the next address: by induction over the width.
-- Assumes nothing.
use Rattle.std.proofs.Common.{◌≡◌, ℕ, zero, suc, ◌+◌, ◌-◌, ◌*◌, ◌/◌, ◌%◌, ◌^◌, ◌<◌, ◌≤◌, Bool, true, false, eqb, ltb, sym, refl, ap, ◌∙◌, add_assoc, mul-le-mul_right, mod-lt, mul_assoc, div-lt_iff_lt-mul, add-mul, suc-add, pow-suc, div-add-mod', zero-add, zero-mul, div-one, arith, lit<, pow_pos, pow-add, shr-shr, ltb-false, ltb-true, eqb-true}
use native.Mathlib.Nat.{mod-le, pow-succ'}
use borrow.Author.Tests.{not-false}
use lib.Bits.{bit_and, and_mask}
use lib.Pow.{high, low, field, mod-mod-pow}
use Rattle.address.specs.Reversal.{rev, width_of, is_power, index_of, next_index, next_of}
use Rattle.address.proofs.Widths.{width_le, width_power}

-- ---- the reversal of b bits

pub rev_below : (b j : ℕ) → rev b j < 2 ^ b
unfolding rev
rev_below zero j = lit< tt
rev_below (suc b) j =
    let top : j % 2 * 2 ^ b ≤ 1 * 2 ^ b = mul-le-mul_right (2 ^ b) (omega arith) in
    omega (arith, pow-suc 2 b, rev_below b (j / 2))

-- the low a bits are reversed to the top, the b above them below that
pub rev_split : (a b j : ℕ) → rev (a + b) j ≡ rev a j * 2 ^ b + rev b (j / 2 ^ a)
unfolding rev
rev_split zero b j = rw (zero-add b, div-one j, zero-mul (2 ^ b), zero-add (rev b j))
rev_split (suc a) b j =
    let one_more : suc a ≡ 1 + a = omega arith in
    let above : j / 2 / 2 ^ a ≡ j / 2 ^ suc a = rw one_more (shr-shr j 1 a) in
    rw (suc-add a b, rev_split a b (j / 2), pow-add 2 a b, add-mul, mul_assoc, above) (sym (add_assoc _ _ _))

-- bits above the b are not read
pub rev_low : (b j : ℕ) → rev b (j % 2 ^ b) ≡ rev b j
unfolding rev
rev_low zero j = refl
rev_low (suc b) j =
    let one_more : suc b ≡ b + 1 = omega arith in
    let lowest : j % 2 ^ suc b % 2 ≡ j % 2 = rw one_more (mod-mod-pow j b 1) in
    let rest : j % 2 ^ suc b / 2 ≡ j / 2 % 2 ^ b = rw one_more (field j b 1) in
    rw (lowest, rest, rev_low b (j / 2))

rev_first : (b j : ℕ) → rev (suc b) j ≡ j % 2 * 2 ^ b + rev b (j / 2)
unfolding rev
rev_first b j = refl

pub rev_one : (j : ℕ) → rev 1 j ≡ j % 2
unfolding rev
rev_one j = omega arith

-- rev of rev is the number itself
pub rev_rev : (b j : ℕ) → j < 2 ^ b → rev b (rev b j) ≡ j
rev_rev zero j h = omega (arith, rev_below 0 (rev 0 j), h)
rev_rev (suc b) j h =
    let half = j / 2 in
    let turned = j % 2 * 2 ^ b + rev b half in
    let one_more : suc b ≡ b + 1 = omega arith in
    let parts : rev (suc b) turned ≡ rev b turned * 2 + rev 1 (turned / 2 ^ b) = rw one_more (rev_split b 1 turned) in
    let below : rev b turned ≡ half =
    sym (rev_low b turned)
    ∙ ap (λ (x : ℕ). rev b x) (low (j % 2) b (rev_below b half))
    ∙ rev_rev b half (omega (arith, pow-suc 2 b)) in
    let top : rev 1 (turned / 2 ^ b) ≡ j % 2 % 2 = rw (high (j % 2) b (rev_below b half)) (rev_one (j % 2)) in
    rw (rev_first b j) (omega (arith, parts, below, top))

-- ---- the bits: bit i of rev b j is bit b - 1 - i of j

-- bit i of a number whose b low bits are r, with i below b, is bit i of r
bit_low : (x r b i : ℕ) → r < 2 ^ b → i < b → (x * 2 ^ b + r) / 2 ^ i % 2 ≡ r / 2 ^ i % 2
bit_low x r b i h l =
    let n = x * 2 ^ b + r in
    let d = b - i - 1 in
    let whole : d + 1 + i ≡ b = omega arith in
    let cut : n % 2 ^ b ≡ n % 2 ^ (d + 1 + i) = ap (λ (w : ℕ). n % 2 ^ w) (sym whole) in
    let part : r / 2 ^ i ≡ n / 2 ^ i % 2 ^ (d + 1) = ap (λ (m : ℕ). m / 2 ^ i) (sym (low x b h) ∙ cut) ∙ field n (d + 1) i in
    sym (ap (λ (m : ℕ). m % 2) part ∙ mod-mod-pow (n / 2 ^ i) d 1)

pub rev_bit : (b i j : ℕ) → i < b → rev b j / 2 ^ i % 2 ≡ j / 2 ^ (b - 1 - i) % 2
unfolding rev
rev_bit zero i j h = absurd (omega arith)
rev_bit (suc b) i j h = go (ltb i b) refl (λ k. rev_bit b i (j / 2) k)
  where
    n : ℕ
    n = j % 2 * 2 ^ b + rev b (j / 2)

    go :
        (t : Bool) → ltb i b ≡ t → (i < b → rev b (j / 2) / 2 ^ i % 2 ≡ j / 2 / 2 ^ (b - 1 - i) % 2)
        → n / 2 ^ i % 2 ≡ j / 2 ^ (suc b - 1 - i) % 2
    go true l below =
        let k = ltb-true i b l in
        let place : suc b - 1 - i ≡ 1 + (b - 1 - i) = omega arith in
        bit_low (j % 2) (rev b (j / 2)) b i (rev_below b (j / 2)) k ∙ below k ∙ rw place (ap (λ (m : ℕ). m % 2) (shr-shr j 1 (b - 1 - i)))
    go false l below =
        let top : i ≡ b = omega (arith, ltb-false i b l) in
        let place : suc b - 1 - b ≡ 0 = omega arith in
        rw (top, place, high (j % 2) b (rev_below b (j / 2))) (omega arith)

-- ---- the index

-- a mask of b + 1 ones is the remainder by 2N
pub index_mask : (b a : ℕ) → bit_and a (2 * 2 ^ b - 1) ≡ a % (2 * 2 ^ b)
index_mask b a = rw (← pow-succ' 2 b) (and_mask a (suc b))

pub index_below : (b a : ℕ) → index_of (2 ^ b) a < 2 ^ b
unfolding index_of
index_below b a = omega (arith, mod-lt a {m = 2 * 2 ^ b} (omega (arith, pow_pos b)))

pub index_within : (n a : ℕ) → 2 * index_of n a ≤ a
unfolding index_of
index_within n a = omega (arith, mod-le a (2 * n))

pub next_index_below : (b j : ℕ) → next_index b j < 2 ^ b
unfolding next_index
next_index_below b j = rev_below b ((rev b j + 1) % 2 ^ b)

-- ---- the next address

-- 2N divides 65,536, so the address at index k is one of 16 bits
pub place_fits : (b a k : ℕ) → b ≤ 10 → a < 2 ^ 16 → k < 2 ^ b → a - 2 * index_of (2 ^ b) a + 2 * k < 2 ^ 16
unfolding index_of
place_fits b a k h l n =
    let m = 2 * 2 ^ b in
    let some : 0 < m = omega (arith, pow_pos b) in
    let bits : 15 - b + suc b ≡ 16 = omega arith in
    let all : 2 ^ (15 - b) * m ≡ 65536 = rw (← pow-succ' 2 b, ← pow-add 2 (15 - b) (suc b), bits) in
    let few : a / m < 2 ^ (15 - b) = (div-lt_iff_lt-mul some).1 (rw all l) in
    let most : (a / m + 1) * m ≤ 2 ^ (15 - b) * m = mul-le-mul_right m (omega arith) in
    omega (arith, add-mul (a / m) 1 m, div-add-mod' a m, mod-lt a some)

pub next_below : (n a : ℕ) → a < 2 ^ 16 → next_of n a < 2 ^ 16
unfolding next_of
next_below n a h =
    let b = width_of n in
    place_fits b a (next_index b (index_of (2 ^ b) a)) (width_le n) h (next_index_below b (index_of (2 ^ b) a))

-- for every N accepted, with N written as n: j = (address mod 2N) / 2, k = rev((rev(j) + 1) mod N), address − 2j + 2k
pub next_is :
    (n a : ℕ) → is_power n ≡ true
    → (let reversed = rev (width_of n) in
    let j = a % (2 * n) / 2 in
    let k = reversed ((reversed j + 1) % n) in
    next_of n a ≡ a - 2 * j + 2 * k)
unfolding next_of next_index index_of
next_is n a h = rw (width_power n h)

-- and of any other N the address stays
pub next_stays : (n a : ℕ) → is_power n ≡ false → next_of n a ≡ a
unfolding next_of next_index index_of rev is_power
next_stays n a h =
    let none : width_of n ≡ 0 = eqb-true (width_of n) 0 (not-false (eqb (width_of n) 0) h) in
    rw none (omega arith)
