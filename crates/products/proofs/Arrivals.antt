-- Words that arrive: of each prefetch where there is a read, or their difference. Assumes nothing.
use Rattle.std.proofs.Common.{◌≡◌, ℕ, ◌+◌, ◌%◌, ◌^◌, ◌<◌, Bool, true, false, cond, ◌||◌, eqb, List, set, refl, eq-eqb, ne_eqb, eqb-true}
use Rattle.operations.specs.Decode.{action_of}
use Rattle.operations.specs.declared.operation.Action.TheVariants.{Ed, Edac, Movsac}
use Rattle.operations.specs.declared.operation.Prefetch.TheVariants.{Pointer, Sum}
use Rattle.effects.specs.Mac.{loaded, is_distance, difference_of, arrived}
use Rattle.effects.proofs.Sums.{wraps_back}
use Rattle.form.specs.Words.{field, kind_in, prefetch_in, mac_in}

-- one word
module _ (from to x c sum : ℕ) (w : List ℕ) where
  pub load_some : (from ≡ 0 → ⊥) → set w to x ≡ loaded (prefetch_in from c sum) to x w
  load_some some = rw (ne_eqb from 0 some) (go (eqb from sum))
    where
      go : (b : Bool) → set w to x ≡ loaded (cond b Sum (Pointer from c)) to x w
      go true = refl
      go false = refl

  pub load_none : from ≡ 0 → w ≡ loaded (prefetch_in from c sum) to x w
  load_none none = rw (eq-eqb from 0 none)

-- kinds 5 and 6 by the kind
distance_kind : (kind : ℕ) → is_distance (action_of kind) ≡ (eqb kind 5 || eqb kind 6)
distance_kind kind = go (eqb kind 1) (eqb kind 2) (eqb kind 3) (eqb kind 4) refl refl refl refl
  where
    go : (a b c d : Bool) → eqb kind 1 ≡ a → eqb kind 2 ≡ b → eqb kind 3 ≡ c → eqb kind 4 ≡ d → is_distance (action_of kind) ≡ (eqb kind 5 || eqb kind 6)
    go true b c d h i j k = rw (eqb-true kind 1 h)
    go false true c d h i j k = rw (eqb-true kind 2 i)
    go false false true d h i j k = rw (eqb-true kind 3 j)
    go false false false true h i j k = rw (eqb-true kind 4 k)
    go false false false false h i j k = rw (h, i, j, k) (rest (eqb kind 5) (eqb kind 6))
      where
        rest : (e f : Bool) → is_distance (cond e Ed (cond f Edac Movsac)) ≡ (e || f)
        rest true f = refl
        rest false true = refl
        rest false false = refl

-- both words, or their difference
module _ (code : List ℕ) (at x y : ℕ) (w : List ℕ) where
  pub arrived_words : (eqb (kind_in code at) 5 || eqb (kind_in code at) 6) ≡ false
      → loaded (prefetch_in (field code at 6) (field code at 7) 13) (field code at 9) y (loaded (prefetch_in (field code at 4) (field code at 5) 12) (field code at 8) x w)
      ≡ arrived (mac_in code at) x y w
  unfolding arrived
  arrived_words t = rw (distance_kind (kind_in code at), t)

  pub arrived_difference : (r : ℕ) → (eqb (kind_in code at) 5 || eqb (kind_in code at) 6) ≡ true
      → x < 2 ^ 16 → y < 2 ^ 16 → r < 2 ^ 16 → (r + y) % 2 ^ 16 ≡ x → set w (field code at 8) r ≡ arrived (mac_in code at) x y w
  unfolding arrived difference_of
  arrived_difference r t hx hy hr e = rw (distance_kind (kind_in code at), t, wraps_back x y r hx hy hr e)
