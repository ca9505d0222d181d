-- The numbers -2^k .. 2^k - 1, which are those of k + 1 bits, signed.
use Rattle.std.specs.Prelude.{Bool, cond, ◌||◌, ℕ, ◌<◌, ◌-◌, ◌^◌, ℤ, pos, neg_ℤ}
use Rattle.std.specs.Int.Signed.{mag, lt_z}

-- a negative number as papers write it: minus 12 is -12
abbrev pub minus : ℕ → ℤ
minus n = neg_ℤ (pos n)

-- the least of them
unfoldable pub lowest : ℕ → ℤ
lowest k = minus (2 ^ k)

-- the greatest of them
unfoldable pub highest : ℕ → ℤ
highest k = pos (2 ^ k - 1)

-- z is none of them
unfoldable pub outside : ℕ → ℤ → Bool
outside k z = lt_z z (lowest k) || lt_z (highest k) z

-- of z outside them, the nearer limit
unfoldable pub nearer : ℕ → ℤ → ℤ
nearer k z = cond (lt_z z (pos 0)) (lowest k) (highest k)

-- z limited to them: outside them the nearer limit
unfoldable pub limited_to : ℕ → ℤ → ℤ
limited_to k z = cond (outside k z) (nearer k z) z

-- z is one of them, as a bound of one number: `mag` is n both of n and of -(n + 1)
abbrev pub Within : ℕ → ℤ → Type 0
Within k z = mag z < 2 ^ k
