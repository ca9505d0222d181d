-- The texts of numbers are those that the library prints; the fields of a list's beginning. Assumes nothing.
use Prim.Native.Nat.{ℕ, suc, ◌+◌, ◌%◌, ◌^◌, ◌<◌, ◌*◌}
use mathlib.Core.Path.{◌≡◌, refl, sym, ap, ◌∙◌}
use mathlib.Core.List.{List, [], ◌∷◌, ◌++◌, append_assoc, append-nil}
use native.Mathlib.Omega.{arith}
use native.Mathlib.Numerals.{add-one}
use borrow.Author.Tests.{lt-ltb, le-ltb}
use lib.IntN.{ℤ, pos, negsuc}
use lib.ListN.{length, get_or, take}
use lib.Seq.{take-suc}
use lib.Signed.{mag}
use Rattle.std.specs.Fmt.{decimal, signed_decimal}
use Rattle.std.proofs.lemmas.Fmt.{AppendsLastDigit, decimal_from_appends, length-decimal-le}
use Rattle.text.specs.Text.{decimal_up_to, number_text, signed_text, field_of, fields_of, check_from}

appends : AppendsLastDigit decimal_up_to
appends =
    record {
      one = λ k n h. let last : 48 + n % 10 ≡ 48 + n = omega arith in rw (lt-ltb n 10 h, last);
      more = λ k n h. rw (le-ltb n 10 h);
    }

-- a number of 64 bits
pub number_is : (n : ℕ) → n < 2 ^ 64 → decimal n ≡ number_text n
unfolding number_text
number_is n h = sym (decimal_from_appends decimal_up_to appends 20 n h (length-decimal-le 20 n (omega arith) (omega arith) h))

-- a signed number of 64 bits
pub signed_is : (z : ℤ) → mag z < 2 ^ 63 → signed_decimal z ≡ signed_text z
unfolding signed_text
signed_is (pos n) h = number_is n (omega arith)
signed_is (negsuc n) h =
    let next : n + 1 ≡ suc n = add-one n in
    let same : decimal (suc n) ≡ number_text (n + 1) = ap decimal (sym next) ∙ number_is (n + 1) (omega arith) in
    ap (λ (s : List ℕ). 45 ∷ s) same

-- the fields of one list after another
pub fields_append : {A : Type 0} (text : A → List ℕ) (a b : List A) → fields_of text (a ++ b) ≡ fields_of text a ++ fields_of text b
fields_append text [] b = refl
fields_append text (x ∷ a) b = rw (fields_append text a b) (sym (append_assoc (field_of (text x)) (fields_of text a) (fields_of text b)))

-- one item more
pub fields_more : {A : Type 0} (text : A → List ℕ) (s : List A) (i : ℕ) (x : A) → i < length s → x ≡ get_or s i x
    → fields_of text (take (i + 1) s) ≡ fields_of text (take i s) ++ field_of (text x)
fields_more text s i x h e =
    let more : take (i + 1) s ≡ take i s ++ (x ∷ []) = rw (add-one, take-suc s i x h, ← e) in
    rw (more, fields_append text (take i s) (x ∷ []), append-nil)

-- the check of one list after another
pub check_append : (h : ℕ) (a b : List ℕ) → check_from (check_from h a) b ≡ check_from h (a ++ b)
check_append h [] b = refl
check_append h (x ∷ a) b = check_append ((31 * h + x) % 2 ^ 32) a b
