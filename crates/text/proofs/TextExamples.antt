-- Texts worked out by hand from CASES.md: digits, signs, upper case, width of hexadecimal, checks. Assumes nothing.
use mathlib.Core.Path.{◌≡◌, refl}
use mathlib.Core.Bool.{true, false}
use mathlib.Core.List.{[], ◌∷◌}
use lib.IntN.{pos}
use Rattle.integers.specs.Range.{minus}
use Rattle.text.specs.Text.{number_text, signed_text, word_text, before_zero, field_of, flag_text, fields_of, check_of, check_field}

-- ---- numbers and words

-- 0: `0`
zero : number_text 0 ≡ 48 ∷ []
unfolding number_text
zero = refl

-- one digit: `9`
nine : number_text 9 ≡ 57 ∷ []
unfolding number_text
nine = refl

-- two digits: `10`
ten : number_text 10 ≡ 49 ∷ 48 ∷ []
unfolding number_text
ten = refl

-- the largest of 64 bits has 20 digits: `18446744073709551615`
largest : number_text 18446744073709551615 ≡ 49 ∷ 56 ∷ 52 ∷ 52 ∷ 54 ∷ 55 ∷ 52 ∷ 52 ∷ 48 ∷ 55 ∷ 51 ∷ 55 ∷ 48 ∷ 57 ∷ 53 ∷ 53 ∷ 49 ∷ 54 ∷ 49 ∷ 53 ∷ []
unfolding number_text
largest = refl

-- below zero: `-1`
minus_one : signed_text (minus 1) ≡ 45 ∷ 49 ∷ []
unfolding signed_text number_text
minus_one = refl

-- the lowest of 64 bits: `-9223372036854775808`
lowest_number : signed_text (minus 9223372036854775808) ≡ 45 ∷ 57 ∷ 50 ∷ 50 ∷ 51 ∷ 51 ∷ 55 ∷ 50 ∷ 48 ∷ 51 ∷ 54 ∷ 56 ∷ 53 ∷ 52 ∷ 55 ∷ 55 ∷ 53 ∷ 56 ∷ 48 ∷ 56 ∷ []
unfolding signed_text number_text
lowest_number = refl

-- from zero on there is no sign: `6`
positive : signed_text (pos 6) ≡ 54 ∷ []
unfolding signed_text number_text
positive = refl

-- zero has no sign
signed_zero : signed_text (pos 0) ≡ 48 ∷ []
unfolding signed_text number_text
signed_zero = refl

-- four digits: `0000`
word_zero : word_text 0 ≡ 48 ∷ 48 ∷ 48 ∷ 48 ∷ []
unfolding word_text
word_zero = refl

-- upper-case: `ABCD`
word_upper : word_text 0xABCD ≡ 65 ∷ 66 ∷ 67 ∷ 68 ∷ []
unfolding word_text
word_upper = refl

-- the last digit is the lowest: `01F0`
word_low : word_text 0x01F0 ≡ 48 ∷ 49 ∷ 70 ∷ 48 ∷ []
unfolding word_text
word_low = refl

-- ---- fields

-- a flag that is set, one that is clear: ` 1`, ` 0`
flag_set : field_of (flag_text true) ≡ 32 ∷ 49 ∷ []
flag_set = refl

flag_clear : field_of (flag_text false) ≡ 32 ∷ 48 ∷ []
flag_clear = refl

-- a field for each number, in order: ` 3 12`
number_fields : fields_of number_text (3 ∷ 12 ∷ []) ≡ 32 ∷ 51 ∷ 32 ∷ 49 ∷ 50 ∷ []
unfolding number_text
number_fields = refl

-- words: ` 0003 00FF`
word_fields : fields_of word_text (3 ∷ 0xFF ∷ []) ≡ 32 ∷ 48 ∷ 48 ∷ 48 ∷ 51 ∷ 32 ∷ 48 ∷ 48 ∷ 70 ∷ 70 ∷ []
unfolding word_text
word_fields = refl

-- a name up to its zeros: `done`
name_done : before_zero (100 ∷ 111 ∷ 110 ∷ 101 ∷ 0 ∷ 0 ∷ []) ≡ 100 ∷ 111 ∷ 110 ∷ 101 ∷ []
name_done = refl

-- ---- checks

-- 31 x + y
check_two : check_of (2 ∷ 3 ∷ []) ≡ 65
check_two = refl

-- modulo 2^32: 31 (2^32 - 1) + 1 leaves 2^32 - 30
check_wraps : check_of (4294967295 ∷ 1 ∷ []) ≡ 4294967266
check_wraps = refl

-- nothing
check_none : check_of [] ≡ 0
check_none = refl

-- as a field: ` 65`
check_field_lem : check_field (2 ∷ 3 ∷ []) ≡ 32 ∷ 54 ∷ 53 ∷ []
unfolding number_text
check_field_lem = refl
