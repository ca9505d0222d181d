-- Bytes read into a slice from one place on: its beginning up to past them. Assumes nothing.
use Prim.Native.Nat.{ℕ, ◌+◌, ◌≤◌}
use mathlib.Core.Path.{◌≡◌, sym, ap, ◌∙◌}
use mathlib.Core.List.{List, ◌++◌}
use lib.ListN.{length, take}
use borrow.Rule.Slice.PartMut.{put_mid}
use Rattle.std.proofs.Math.Seq.{take-append-add}
use Rattle.std.proofs.lemmas.List.{take-append-le, length-take-le}

pub read_more : (a k n : ℕ) (xs ys : List ℕ) → a ≤ length xs → n ≤ length ys → take (a + n) (put_mid a k xs ys) ≡ take a xs ++ take n ys
read_more a k n xs ys l h =
    let front : length (take a xs) ≡ a = length-take-le a xs l in
    ap (λ (m : ℕ). take (m + n) (put_mid a k xs ys)) (sym front) ∙ take-append-add (take a xs) _ n ∙ ap (λ (s : List ℕ). take a xs ++ s) (take-append-le n ys _ h)
