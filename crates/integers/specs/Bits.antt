-- Bits of a number, and numbers made of bits.
use Rattle.std.specs.Prelude.{Bool, cond, ◌≡◌, ℕ, ◌-◌, ◌/◌, ◌%◌, ◌^◌, eqb, ltb, ℤ, pos, nat_abs, ◌-ℤ◌}
use Rattle.integers.specs.Floor.{remainder_of}

-- the low k bits of v
unfoldable pub low_bits : ℕ → ℤ → ℕ
low_bits k v = nat_abs (remainder_of v (2 ^ k))

-- x and y are equal modulo 2^k: their low k bits are
pub record SameModulo (k : ℕ) (x y : ℤ) : Type 0 where
  pub low : low_bits k x ≡ low_bits k y

-- x, of k bits, read as signed
unfoldable pub signed_of : ℕ → ℕ → ℤ
signed_of k x = cond (ltb x (2 ^ (k - 1))) (pos x) (pos x -ℤ pos (2 ^ k))

-- the number in the bits of n from bit i on, `size` of them
abbrev pub bits_at : ℕ → ℕ → ℕ → ℕ
bits_at i size n = n / 2 ^ i % 2 ^ size

-- bit i of n is 1
abbrev pub bit_at : ℕ → ℕ → Bool
bit_at i n = eqb (bits_at i 1 n) 1
