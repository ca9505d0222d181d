-- Text in ASCII codes: numbers in decimal, words in hexadecimal, fields, check numbers.
use Rattle.std.specs.Prelude.{ℕ, zero, suc, ◌+◌, ◌*◌, ◌/◌, ◌%◌, ◌^◌, Bool, true, false, cond, List, [], ◌∷◌, ◌++◌, eqb, ltb, ℤ, pos, negsuc}
use Rattle.endings.specs.Ending.{digit_of}

-- ---- numbers

-- a number in decimal, of at most so many digits: those of its tenth, where it is not below 10, and its last
abbrev pub decimal_up_to : ℕ → ℕ → List ℕ
decimal_up_to zero n = []
decimal_up_to (suc k) n = cond (ltb n 10) [] (decimal_up_to k (n / 10)) ++ (digit_of n ∷ [])

-- a number of 64 bits in decimal: such a number has at most 20 digits
unfoldable pub number_text : ℕ → List ℕ
number_text n = decimal_up_to 20 n

-- a signed number: `-` before one below zero
unfoldable pub signed_text : ℤ → List ℕ
signed_text (pos n) = number_text n
signed_text (negsuc n) = 45 ∷ number_text (n + 1)

-- a hexadecimal digit, 0 to 9 and upper-case A to F
abbrev pub hex_digit_of : ℕ → ℕ
hex_digit_of d = cond (ltb d 10) (48 + d) (55 + d)

-- a word in four hexadecimal digits
unfoldable pub word_text : ℕ → List ℕ
word_text x = hex_digit_of (x / 4096 % 16) ∷ hex_digit_of (x / 256 % 16) ∷ hex_digit_of (x / 16 % 16) ∷ hex_digit_of (x % 16) ∷ []

-- a name that zeros fill up: the bytes before the first zero
abbrev pub before_zero : List ℕ → List ℕ
before_zero [] = []
before_zero (b ∷ s) = cond (eqb b 0) [] (b ∷ before_zero s)

-- ---- fields

-- a field: a space and a text
abbrev pub field_of : List ℕ → List ℕ
field_of text = 32 ∷ text

-- a flag, 0 or 1
abbrev pub flag_text : Bool → List ℕ
flag_text true = 49 ∷ []
flag_text false = 48 ∷ []

-- a field for each item of a list, by the text of an item
abbrev pub fields_of : {A : Type 0} → (A → List ℕ) → List A → List ℕ
fields_of text [] = []
fields_of text (n ∷ s) = field_of (text n) ++ fields_of text s

-- ---- the check of a list

-- for each x in order h becomes (31 h + x) modulo 2^32
abbrev pub check_from : ℕ → List ℕ → ℕ
check_from h [] = h
check_from h (x ∷ s) = check_from ((31 * h + x) % 2 ^ 32) s

-- h starts at 0
abbrev pub check_of : List ℕ → ℕ
check_of s = check_from 0 s

-- the check as a field, in decimal
abbrev pub check_field : List ℕ → List ℕ
check_field s = field_of (number_text (check_of s))
