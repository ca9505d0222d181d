-- The two bytes of a number in the name of a trap and of a refusal. Assumes nothing.
use Prim.Native.Nat.{ℕ, ◌/◌, ◌%◌, ◌<◌, ◌≤◌, ◌^◌}
use mathlib.Core.Path.{◌≡◌, refl, sym}
use mathlib.Core.Bool.{Bool, true, false, cond}
use mathlib.Core.List.{List, [], ◌∷◌, ◌++◌}
use lib.Dec.{ltb}
use lib.ListN.{get_or}
use native.Mathlib.Omega.{arith}
use borrow.Author.Tests.{ltb-true, ltb-false}
use Rattle.std.specs.Fmt.{decimal}
use Rattle.std.proofs.lemmas.Fmt.{decimal_digit, decimal_step}
use Rattle.endings.specs.Ending.{digit_of, decimal_of, filled_to, name_of, text_of, number_of}
use Rattle.endings.specs.declared.ending.Ending.{Ending}
use Rattle.endings.specs.declared.ending.Ending.TheVariants.{Done, Spent, Trap, Refused}

-- what holds of any one digit and of any two holds of a number in decimal
decimal_holds : (P : List ℕ → Type 0) → ((x : ℕ) → P (x ∷ [])) → ((x y : ℕ) → P (x ∷ y ∷ [])) → (n : ℕ) → P (decimal_of n)
unfolding decimal_of
decimal_holds P one two n =
    elim (ltb n 10) as (λ below. P (cond below (digit_of n ∷ []) (digit_of (n / 10) ∷ digit_of n ∷ []))) [ true ↦ one (digit_of n) | false ↦ two (digit_of (n / 10)) (digit_of n) ]

-- of one digit or two it is what std writes
by_digits : (n : ℕ) → n < 100 → (t : Bool) → ltb n 10 ≡ t → cond t (digit_of n ∷ []) (digit_of (n / 10) ∷ digit_of n ∷ []) ≡ decimal n
by_digits n h true e =
    let below : n < 10 = ltb-true n 10 e in
    let one : n % 10 ≡ n = omega arith in
    rw one (sym (decimal_digit n below))
by_digits n h false e =
    let past : 10 ≤ n = ltb-false n 10 e in
    let small : n < 2 ^ 64 = omega arith in
    let tens : n / 10 % 10 ≡ n / 10 = omega arith in
    let first : n / 10 < 10 = omega arith in
    rw (tens, decimal_step n past small, decimal_digit (n / 10) first)

decimal_two : (n : ℕ) → n < 100 → decimal_of n ≡ decimal n
unfolding decimal_of
decimal_two n h = by_digits n h (ltb n 10) refl

-- "trap", then the digits filled up to two, then zeros
abbrev trap : List ℕ → List ℕ
trap d = 116 ∷ 114 ∷ 97 ∷ 112 ∷ get_or d 0 0 ∷ get_or d 1 0 ∷ 0 ∷ 0 ∷ 0 ∷ []

-- "refused", then the digits filled up to two
abbrev refused : List ℕ → List ℕ
refused d = 114 ∷ 101 ∷ 102 ∷ 117 ∷ 115 ∷ 101 ∷ 100 ∷ get_or d 0 0 ∷ get_or d 1 0 ∷ []

pub trap_name : (n : ℕ) → trap (filled_to 2 (decimal_of n)) ≡ name_of (Trap n)
unfolding name_of
trap_name = decimal_holds (λ d. trap (filled_to 2 d) ≡ filled_to 9 ((116 ∷ 114 ∷ 97 ∷ 112 ∷ []) ++ d)) (λ x. refl) (λ x y. refl)

pub refused_name : (n : ℕ) → refused (filled_to 2 (decimal_of n)) ≡ name_of (Refused n)
unfolding name_of
refused_name = decimal_holds (λ d. refused (filled_to 2 d) ≡ filled_to 9 ((114 ∷ 101 ∷ 102 ∷ 117 ∷ 115 ∷ 101 ∷ 100 ∷ []) ++ d)) (λ x. refl) (λ x y. refl)

-- an ending's name is its text and zeros, where its number has one digit or two
pub name_text : (e : Ending) → number_of e < 100 → name_of e ≡ filled_to 9 (text_of e)
unfolding name_of number_of
name_text Done h = refl
name_text Spent h = refl
name_text (Trap n) h = rw (decimal_two n h) refl
name_text (Refused n) h = rw (decimal_two n h) refl
