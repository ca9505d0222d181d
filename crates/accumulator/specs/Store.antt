-- The store of v as a word. No flag changes.
use Rattle.std.specs.Prelude.{ℕ, ◌≤◌, Bool, cond, ◌&&◌, ◌||◌, ℤ, pos, ◌+ℤ◌, ◌-ℤ◌, ◌*ℤ◌, ◌==◌, nat_lt, unsigned_abs}
use Rattle.integers.specs.Floor.{floor_of}
use Rattle.integers.specs.Bits.{low_bits, signed_of}
use Rattle.integers.specs.Range.{outside, limited_to}
use Rattle.accumulator.specs.declared.mode.Mode.{Mode}
use Rattle.accumulator.specs.declared.store.Stored.{Stored}

-- truncated is floor of v / 65,536
abbrev pub truncated_of : ℤ → ℤ
truncated_of v = floor_of v 65536

-- the quotient q is odd
unfoldable pub is_odd : ℤ → Bool
is_odd q = low_bits 1 q == 1

-- rounded adds 1 to the quotient q if the remainder p is above 32,768; at 32,768 with RND 1, and with RND 0 only to an odd quotient
unfoldable pub rounds_up : Mode → ℤ → ℕ → Bool
rounds_up m q p = nat_lt 32768 p || (p == 32768 && (m.rnd || is_odd q))

-- rounded: the quotient q of v / 65,536, or 1 more; the remainder is v's low 16 bits
unfoldable pub rounded_of : Mode → ℤ → ℤ
rounded_of m v =
    let q = truncated_of v in
    cond (rounds_up m q (low_bits 16 v)) (q +ℤ pos 1) q

-- the result before SATDW
abbrev pub before_limiting : Mode → Bool → ℤ → ℤ
before_limiting m rounded v = cond rounded (rounded_of m v) (truncated_of v)

-- limiting is needed: the result before SATDW is outside -32,768 .. 32,767
unfoldable pub needs_limiting : ℤ → Bool
needs_limiting q = outside 15 q

-- SATDW then limits to -32,768 .. 32,767; without it the low 16 bits are kept
unfoldable pub stored_word : Mode → ℤ → ℕ
stored_word m q = low_bits 16 (cond m.satdw (limited_to 15 q) q)

-- the word stored, and whether limiting was needed
unfoldable pub store_of : Mode → Bool → ℤ → Stored
store_of m rounded v = record { word = stored_word m (before_limiting m rounded v); limiting = needs_limiting (before_limiting m rounded v) }

-- 65,536 × the word, read as signed, differs from v by at most 32,768
pub record HalfUnit (word : ℕ) (v : ℤ) : Type 0 where
  pub near : unsigned_abs (pos 65536 *ℤ signed_of 16 word -ℤ v) ≤ 32768
