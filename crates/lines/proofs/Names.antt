-- A loop to the first zero of a name: the bytes before it, and then those that are left. Assumes nothing.
use Prim.Native.Nat.{ℕ, suc, ◌+◌, ◌≤◌, ◌<◌}
use mathlib.Core.Path.{◌≡◌, sym, ◌∙◌}
use mathlib.Core.List.{List, [], ◌∷◌, ◌++◌, append-nil}
use native.Mathlib.Numerals.{add-one}
use borrow.Author.Tests.{eq-eqb, ne_eqb}
use lib.ListN.{length, get_or, take, drop, drop_of_length-le}
use lib.Seq.{take-suc, drop-cons, append_snoc}
use Rattle.text.specs.Text.{before_zero}

-- what is found so far
abbrev pub NameSoFar : List ℕ → ℕ → Type 0
NameSoFar s n = before_zero s ≡ take n s ++ before_zero (drop n s)

pub name_more : (s : List ℕ) (n : ℕ) → n < length s → (get_or s n 0 ≡ 0 → ⊥) → NameSoFar s n → NameSoFar s (n + 1)
name_more s n l some h =
    let left : before_zero (drop n s) ≡ get_or s n 0 ∷ before_zero (drop (suc n) s) = rw (drop-cons s n 0 l, ne_eqb (get_or s n 0) 0 some) in
    h ∙ rw (left, add-one, take-suc s n 0 l) (sym (append_snoc (take n s) (get_or s n 0) (before_zero (drop (suc n) s))))

pub name_stop : (s : List ℕ) (n : ℕ) → n < length s → get_or s n 0 ≡ 0 → NameSoFar s n → take n s ≡ before_zero s
name_stop s n l none h =
    let left : before_zero (drop n s) ≡ [] = rw (drop-cons s n 0 l, eq-eqb (get_or s n 0) 0 none) in
    sym (h ∙ rw (left, append-nil))

pub name_end : (s : List ℕ) (n : ℕ) → length s ≤ n → NameSoFar s n → take n s ≡ before_zero s
name_end s n l h = sym (h ∙ rw (drop_of_length-le s l, append-nil))
