-- Lists of bytes that the test finds the same are equal, every list is the same as itself, and std compares so. Assumes nothing.
use Prim.Native.Nat.{ℕ}
use mathlib.Core.Path.{◌≡◌, refl}
use mathlib.Core.Bool.{true}
use mathlib.Core.List.{List, [], ◌∷◌}
use borrow.Author.Tests.{eqb-true, eq-eqb}
use lib.Dec.{eqb}
use Rattle.std.specs.Str.{bytes_eq}
use Rattle.integers.proofs.Whole.{never, both}
use Rattle.operations.specs.Bytes.{is_same}

pub same_true : (s t : List ℕ) → is_same s t ≡ true → s ≡ t
same_true [] [] e = refl
same_true [] (c ∷ t) e = never e
same_true (b ∷ s) [] e = never e
same_true (b ∷ s) (c ∷ t) e =
    let h = both (eqb b c) (is_same s t) e in
    rw (eqb-true b c h.0, same_true s t h.1)

pub same_refl : (s : List ℕ) → is_same s s ≡ true
same_refl [] = refl
same_refl (b ∷ s) = rw (eq-eqb b b refl, same_refl s)

-- std's comparison of two lists of bytes
pub same_bytes : (s t : List ℕ) → is_same s t ≡ bytes_eq s t
same_bytes [] [] = refl
same_bytes [] (c ∷ t) = refl
same_bytes (b ∷ s) [] = refl
same_bytes (b ∷ s) (c ∷ t) = rw (same_bytes s t)
