-- The endings of a run; the names, numbers and codes of endings.
use Rattle.std.specs.Prelude.{ℕ, ◌+◌, ◌-◌, ◌/◌, ◌%◌, Bool, true, cond, ◌&&◌, List, [], ◌∷◌, ◌++◌, ltb, leb, length, replicate}
use Rattle.std.specs.Fmt.{decimal}
use Rattle.endings.specs.declared.ending.Ending.{Ending}
use Rattle.endings.specs.declared.ending.Ending.TheVariants.{Done, Spent, Trap, Refused}

-- a run ends done, spent, trap1..trap7 or refused1..refused7
unfoldable pub is_run_ending : Ending → Bool
is_run_ending Done = true
is_run_ending Spent = true
is_run_ending (Trap n) = leb 1 n && leb n 7
is_run_ending (Refused n) = leb 1 n && leb n 7

-- trap1..trap7, refused1..refused7; done and spent have no number
unfoldable pub number_of : Ending → ℕ
number_of Done = 0
number_of Spent = 0
number_of (Trap n) = n
number_of (Refused n) = n

-- the ASCII code of a number's last digit
abbrev pub digit_of : ℕ → ℕ
digit_of n = 48 + n % 10

-- a number in decimal, one digit or two: right for 0 to 99; of a larger number the last two digits
unfoldable pub decimal_of : ℕ → List ℕ
decimal_of n = cond (ltb n 10) (digit_of n ∷ []) (digit_of (n / 10) ∷ digit_of n ∷ [])

-- filled up with zeros to so many bytes
abbrev pub filled_to : ℕ → List ℕ → List ℕ
filled_to size text = text ++ replicate (size - length text) 0

-- done, spent, trap and its number, refused and its number, in ASCII, filled up with zeros to nine bytes
unfoldable pub name_of : Ending → List ℕ
name_of Done = filled_to 9 (100 ∷ 111 ∷ 110 ∷ 101 ∷ [])
name_of Spent = filled_to 9 (115 ∷ 112 ∷ 101 ∷ 110 ∷ 116 ∷ [])
name_of (Trap n) = filled_to 9 ((116 ∷ 114 ∷ 97 ∷ 112 ∷ []) ++ decimal_of n)
name_of (Refused n) = filled_to 9 ((114 ∷ 101 ∷ 102 ∷ 117 ∷ 115 ∷ 101 ∷ 100 ∷ []) ++ decimal_of n)

-- done, spent, trap and its number, refused and its number, in ASCII, the number in decimal with all its digits
abbrev pub text_of : Ending → List ℕ
text_of Done = 100 ∷ 111 ∷ 110 ∷ 101 ∷ []
text_of Spent = 115 ∷ 112 ∷ 101 ∷ 110 ∷ 116 ∷ []
text_of (Trap n) = (116 ∷ 114 ∷ 97 ∷ 112 ∷ []) ++ decimal n
text_of (Refused n) = (114 ∷ 101 ∷ 102 ∷ 117 ∷ 115 ∷ 101 ∷ 100 ∷ []) ++ decimal n

-- a code of two hex digits: 00 done, 10 spent, 2n trap n, 3n refusal n
unfoldable pub code_of : Ending → ℕ
code_of Done = 0x00
code_of Spent = 0x10
code_of (Trap n) = 0x20 + n % 16
code_of (Refused n) = 0x30 + n % 16
