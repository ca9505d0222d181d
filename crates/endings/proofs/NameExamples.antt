-- The endings of a run; the names of endings in ASCII, written out by hand, and their numbers and codes. Assumes nothing.
use mathlib.Core.Bool.{true, false}
use mathlib.Core.Path.{◌≡◌, refl}
use mathlib.Core.List.{[], ◌∷◌, map}
use Rattle.endings.specs.Ending.{is_run_ending, number_of, decimal_of, name_of, code_of}
use Rattle.endings.specs.declared.ending.Ending.TheVariants.{Done, Spent, Trap, Refused}

-- done, spent, trap1, trap7, refused1, refused7; trap0, trap8, refused0, refused8 and refused15 end no run
run_endings :
    (map is_run_ending (Done ∷ Spent ∷ Trap 1 ∷ Trap 7 ∷ Refused 1 ∷ Refused 7 ∷ []) ≡ true ∷ true ∷ true ∷ true ∷ true ∷ true ∷ [])
    × (map is_run_ending (Trap 0 ∷ Trap 8 ∷ Refused 0 ∷ Refused 8 ∷ Refused 15 ∷ []) ≡ false ∷ false ∷ false ∷ false ∷ false ∷ [])
unfolding is_run_ending
run_endings = (refl, refl)

-- done, spent
done_spent :
    (name_of Done ≡ 100 ∷ 111 ∷ 110 ∷ 101 ∷ 0 ∷ 0 ∷ 0 ∷ 0 ∷ 0 ∷ [])
    × (name_of Spent ≡ 115 ∷ 112 ∷ 101 ∷ 110 ∷ 116 ∷ 0 ∷ 0 ∷ 0 ∷ 0 ∷ [])
unfolding name_of
done_spent = (refl, refl)

-- trap1, trap7
traps :
    map name_of (Trap 1 ∷ Trap 7 ∷ [])
    ≡ (116 ∷ 114 ∷ 97 ∷ 112 ∷ 49 ∷ 0 ∷ 0 ∷ 0 ∷ 0 ∷ [])
    ∷ (116 ∷ 114 ∷ 97 ∷ 112 ∷ 55 ∷ 0 ∷ 0 ∷ 0 ∷ 0 ∷ [])
    ∷ []
unfolding name_of decimal_of
traps = refl

-- refused1, refused9, refused10, refused15
refusals :
    map name_of (Refused 1 ∷ Refused 9 ∷ Refused 10 ∷ Refused 15 ∷ [])
    ≡ (114 ∷ 101 ∷ 102 ∷ 117 ∷ 115 ∷ 101 ∷ 100 ∷ 49 ∷ 0 ∷ [])
    ∷ (114 ∷ 101 ∷ 102 ∷ 117 ∷ 115 ∷ 101 ∷ 100 ∷ 57 ∷ 0 ∷ [])
    ∷ (114 ∷ 101 ∷ 102 ∷ 117 ∷ 115 ∷ 101 ∷ 100 ∷ 49 ∷ 48 ∷ [])
    ∷ (114 ∷ 101 ∷ 102 ∷ 117 ∷ 115 ∷ 101 ∷ 100 ∷ 49 ∷ 53 ∷ [])
    ∷ []
unfolding name_of decimal_of
refusals = refl

-- 0, 9, 10, 99; of 123 the last two digits
decimals : map decimal_of (0 ∷ 9 ∷ 10 ∷ 99 ∷ 123 ∷ []) ≡ (48 ∷ []) ∷ (57 ∷ []) ∷ (49 ∷ 48 ∷ []) ∷ (57 ∷ 57 ∷ []) ∷ (50 ∷ 51 ∷ []) ∷ []
unfolding decimal_of
decimals = refl

numbers_codes :
    (map number_of (Done ∷ Spent ∷ Trap 7 ∷ Refused 1 ∷ Refused 15 ∷ []) ≡ 0 ∷ 0 ∷ 7 ∷ 1 ∷ 15 ∷ [])
    × (map code_of (Done ∷ Spent ∷ Trap 1 ∷ Trap 7 ∷ Refused 1 ∷ Refused 15 ∷ []) ≡ 0x00 ∷ 0x10 ∷ 0x21 ∷ 0x27 ∷ 0x31 ∷ 0x3f ∷ [])
unfolding number_of code_of
numbers_codes = (refl, refl)
