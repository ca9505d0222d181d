-- The first boards of a list: `all` and `any` of them by the list, and the list of the first alone. Assumes nothing.
use Prim.Native.Nat.{ℕ, zero, suc, ◌<◌, ◌≤◌}
use mathlib.Core.Bool.{◌&&◌, ◌||◌, and_assoc, and-true, or_assoc, or-false}
use mathlib.Core.List.{List, [], ◌∷◌}
use mathlib.Core.Path.{◌≡◌, refl, sym}
use native.Mathlib.Omega.{arith}
use lib.ListN.{length, take}
use Rattle.std.specs.List.{list_all, list_any}
use Rattle.std.proofs.lemmas.List.{get_or-take, length-take-le}
use Rattle.accumulator.specs.Limit.{is_accumulator}
use Rattle.accumulator.specs.declared.limit.Accumulator.{Accumulator}
use Rattle.accumulator.specs.declared.mode.Mode.{Mode}
use Rattle.combine.specs.Boards.{no_board, board_at, are_accumulators, any_set, sum_start, added_up, combined_of}
use Rattle.combine.specs.declared.board.Board.{Board}

-- ---- from the front

all_front : (b : Board) (l : List Board) (n : ℕ) → are_accumulators (b ∷ l) (suc n) ≡ (is_accumulator b.a && are_accumulators l n)
unfolding are_accumulators
all_front b l zero = sym (and-true (is_accumulator b.a))
all_front b l (suc n) = rw (all_front b l n) (and_assoc (is_accumulator b.a) (are_accumulators l n) (is_accumulator (board_at l n).a))

pub all_are : (l : List Board) → list_all (λ b. is_accumulator b.a) l ≡ are_accumulators l (length l)
unfolding are_accumulators
all_are [] = refl
all_are (b ∷ l) = rw (all_front b l (length l), all_are l)

any_front : (b : Board) (l : List Board) (n : ℕ) → any_set (b ∷ l) (suc n) ≡ (b.sa || any_set l n)
unfolding any_set
any_front b l zero = sym (or-false b.sa)
any_front b l (suc n) = rw (any_front b l n) (or_assoc b.sa (any_set l n) (board_at l n).sa)

pub any_is : (l : List Board) → list_any (λ b. b.sa) l ≡ any_set l (length l)
unfolding any_set
any_is [] = refl
any_is (b ∷ l) = rw (any_front b l (length l), any_is l)

-- ---- the first alone

module _ (n : ℕ) (l : List Board) where
  first_board : (i : ℕ) → i < n → board_at (take n l) i ≡ board_at l i
  first_board i h = get_or-take n l i no_board h

  first_all : (k : ℕ) → k ≤ n → are_accumulators (take n l) k ≡ are_accumulators l k
  unfolding are_accumulators
  first_all zero h = refl
  first_all (suc k) h = rw (first_all k (omega arith), first_board k (omega arith))

  first_any : (k : ℕ) → k ≤ n → any_set (take n l) k ≡ any_set l k
  unfolding any_set
  first_any zero h = refl
  first_any (suc k) h = rw (first_any k (omega arith), first_board k (omega arith))

  first_up : (m : Mode) (start : Accumulator) (k : ℕ) → k ≤ n → added_up m (take n l) start k ≡ added_up m l start k
  unfolding added_up
  first_up m start zero h = refl
  first_up m start (suc k) h = rw (first_up m start k (omega arith), first_board k (omega arith))

  module _ (there : n ≤ length l) where
    pub first_are : are_accumulators (take n l) (length (take n l)) ≡ are_accumulators l n
    first_are = rw (length-take-le n l there) (first_all n (omega arith))

    pub first_combined : (m : Mode) → combined_of m (take n l) (length (take n l)) ≡ combined_of m l n
    unfolding combined_of
    first_combined m = rw (length-take-le n l there, first_any n (omega arith)) (first_up m (sum_start l n) n (omega arith))
