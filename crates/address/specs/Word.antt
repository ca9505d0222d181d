-- A byte address is never taken for a word number: the two, and the one conversion between them.
use Rattle.std.specs.Prelude.{ℕ, ◌+◌, ◌-◌, ◌*◌, ◌/◌}

-- word i has address 1000 hex + 2i
abbrev pub address_of : ℕ → ℕ
address_of i = 0x1000 + 2 * i

-- the word that address a lies in; 0 of an address below all words
unfoldable pub word_of : ℕ → ℕ
word_of a = (a - address_of 0) / 2
