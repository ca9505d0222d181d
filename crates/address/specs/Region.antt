-- Regions of memory, and traps 1 and 2. `end` is the number of the word after the last, so a count of words may be one.
use Rattle.std.specs.Prelude.{ℕ, ◌%◌, Bool, cond, ◌&&◌, ◌==◌, nat_le, nat_lt}
use Rattle.address.specs.Word.{address_of, word_of}
use Rattle.address.specs.declared.region.Region.{Region}

-- X reads must fall in the first part, x words
abbrev pub x_part : ℕ → Region
x_part x = record { first = record { 0 = 0 }; end = record { 0 = x } }

-- Y reads in the rest
abbrev pub y_part : ℕ → ℕ → Region
y_part x words = record { first = record { 0 = x }; end = record { 0 = words } }

-- others anywhere in memory
abbrev pub all_words : ℕ → Region
all_words words = record { first = record { 0 = 0 }; end = record { 0 = words } }

-- address a lies in one of the words first .. end - 1
unfoldable pub is_inside : Region → ℕ → Bool
is_inside region a = nat_le (address_of 0) a && (nat_le region.first.0 (word_of a) && nat_lt (word_of a) region.end.0)

-- traps, first that applies: 1 odd address, 2 outside its region; 0 none
unfoldable pub access_trap : Region → ℕ → ℕ
access_trap region a = cond (a % 2 == 1) 1 (cond (is_inside region a) 0 2)
