-- If the combined SA is clear, the combined A is the exact sum of the products of all stretches. Assumes nothing.
use Prim.Native.Nat.{ℕ, zero, suc, ◌+◌, ◌-◌, ◌<◌, ◌≤◌}
use mathlib.Core.Bool.{Bool, false}
use mathlib.Core.List.{List, [], ◌++◌}
use mathlib.Core.Path.{◌≡◌, refl, sym, ap, ◌∙◌}
use native.Mathlib.Nat.{le_refl}
use native.Mathlib.Omega.{arith}
use lib.IntN.{+ℤ_idl}
use lib.ListN.{take}
use lib.Seq.{take-add, take-length}
use Rattle.integers.proofs.Whole.{neither}
use Rattle.accumulator.specs.Mode.{mode_of}
use Rattle.combine.specs.Boards.{board_at, any_set, sum_start, combined_of}
use Rattle.combine.specs.Dot.{Pair, dot_of, BoardCall, pairs_on}
use Rattle.combine.specs.Call.{Cut, HandsOver}
use Rattle.combine.specs.declared.board.Board.{Board}
use Rattle.combine.proofs.Boards.{sum_up, added_exact}
use Rattle.combine.proofs.Stretches.{dot_append, stretch_exact}

-- the pairs of the first n stretches, one after the other
unfoldable joined : (ℕ → BoardCall) → ℕ → List Pair
joined call zero = []
joined call (suc n) = joined call n ++ pairs_on (call n)

module _ (mode : ℕ) (boards : List Board) (call : ℕ → BoardCall) where
  abbrev integer : Bool
  integer = (mode_of mode).integer

  -- where no board's SA is set, their A are the exact sums of their stretches
  joined_exact : (n : ℕ) → ((i : ℕ) → i < n → HandsOver mode (board_at boards i) (call i)) → any_set boards n ≡ false
      → sum_up boards n ≡ dot_of integer (joined call n)
  unfolding any_set joined dot_of
  joined_exact zero h e = refl
  joined_exact (suc n) h e =
      let t = neither (any_set boards n) (board_at boards n).sa e in
      let handed = h n (omega arith) in
      let clear = ap (λ (b : Board). b.sa) (sym handed.is) ∙ t.1 in
      let here : (board_at boards n).a ≡ dot_of integer (pairs_on (call n)) =
      ap (λ (b : Board). b.a) handed.is ∙ stretch_exact mode (call n) handed.fits clear in
      let before : sum_up boards n ≡ dot_of integer (joined call n) = joined_exact n (λ i l. h i (omega arith)) t.0 in
      rw (before, here) (sym (dot_append integer (joined call n) (pairs_on (call n))))

  combined_exact : (count : ℕ) → ((i : ℕ) → i < count → HandsOver mode (board_at boards i) (call i))
      → (combined_of (mode_of mode) boards count).saturation ≡ false
      → (combined_of (mode_of mode) boards count).value ≡ dot_of integer (joined call count)
  unfolding combined_of
  combined_exact count h e =
      let t = added_exact (mode_of mode) boards (sum_start boards count) count e in
      t.1 ∙ +ℤ_idl (sum_up boards count) ∙ joined_exact count h t.0

-- the stretches that a list is cut into, one after the other, are the list
module _ (whole : List Pair) (cut : ℕ → ℕ) (call : ℕ → BoardCall) (count : ℕ) (h : Cut whole cut call count) where
  cut_prefix : (n : ℕ) → n ≤ count → joined call n ≡ take (cut n) whole
  unfolding joined
  cut_prefix zero l = rw h.begins
  cut_prefix (suc n) l =
      let up : cut n ≤ cut (suc n) = h.ascends n (omega arith) in
      let width : cut n + (cut (suc n) - cut n) ≡ cut (suc n) = omega arith in
      rw (cut_prefix n (omega arith), h.parts n (omega arith)) (sym (take-add (cut n) (cut (suc n) - cut n) whole) ∙ ap (λ (k : ℕ). take k whole) width)

  cut_joined : joined call count ≡ whole
  cut_joined = cut_prefix count (le_refl count) ∙ ap (λ (k : ℕ). take k whole) h.ends ∙ take-length whole

  -- one list of pairs, cut anywhere and run on the boards
  pub cut_exact : (mode : ℕ) (boards : List Board) → ((i : ℕ) → i < count → HandsOver mode (board_at boards i) (call i))
      → (combined_of (mode_of mode) boards count).saturation ≡ false → (combined_of (mode_of mode) boards count).value ≡ dot_of (mode_of mode).integer whole
  cut_exact mode boards runs clear = combined_exact mode boards call count runs clear ∙ ap (dot_of (mode_of mode).integer) cut_joined
