-- The bytes of an operation: one of them, two as a word, all the same.
use Rattle.std.specs.Prelude.{ℕ, ◌+◌, ◌*◌, List, [], ◌∷◌, Bool, true, false, ◌&&◌, eqb, get_or}

-- byte i
abbrev pub byte : List ℕ → ℕ → ℕ
byte s i = get_or s i 0

-- the 16 bits at i, low byte first
abbrev pub word : List ℕ → ℕ → ℕ
word s i = byte s i + 256 * byte s (i + 1)

-- the same bytes
abbrev pub is_same : List ℕ → List ℕ → Bool
is_same [] [] = true
is_same [] (c ∷ t) = false
is_same (b ∷ s) [] = false
is_same (b ∷ s) (c ∷ t) = eqb b c && is_same s t
