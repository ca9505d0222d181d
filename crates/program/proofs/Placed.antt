-- What the placement of DO and REPEAT gives: room for a loop, no REPEAT at its end, inner loops that end before it. Assumes nothing.
use Prim.Native.Nat.{ℕ, zero, suc, ◌+◌, ◌-◌, ◌≤◌, ◌<◌}
use mathlib.Core.Bool.{Bool, true, false, not}
use mathlib.Core.List.{List}
use mathlib.Core.Logic.{⊎_elim}
use mathlib.Core.Path.{◌≡◌, refl, subst}
use native.Mathlib.Nat.{eq-or-lt_of_le, le_of_suc-le-suc, le_step, le_refl, not-suc-le-zero}
use native.Mathlib.Omega.{arith}
use borrow.Author.Tests.{ltb-true, leb-true, not-true}
use lib.Dec.{ltb, leb}
use lib.ListN.{length, get_or, get_or-map}
use Rattle.integers.proofs.Whole.{both}
use Rattle.operations.specs.declared.operation.Operation.{Operation}
use Rattle.operations.specs.declared.operation.Operation.TheVariants.{EndEarly}
use Rattle.program.specs.Placement.{role_of, role_at, is_plain, is_repeat, last_of, ends_below, all_of, is_inner, is_nested, is_placed_as, is_placed_at, is_placed}
use Rattle.program.specs.declared.placement.Role.{Role}
use Rattle.program.specs.declared.placement.Role.TheVariants.{Plain, Repeats, Loops}

-- ---- tests that hold of 0, 1, .., n - 1

all_each : (f : ℕ → Bool) (n i : ℕ) → i < n → all_of f n ≡ true → f i ≡ true
all_each f zero i l h = absurd (not-suc-le-zero l)
all_each f (suc n) i l h =
    let (before, here) = both (all_of f n) (f n) h in
    ⊎_elim (λ e. rw e here) (λ k. all_each f n i k before) (eq-or-lt_of_le (le_of_suc-le-suc l))

pub all_of_lem : (f : ℕ → Bool) (n : ℕ) → ((i : ℕ) → i < n → f i ≡ true) → all_of f n ≡ true
all_of_lem f zero h = refl
all_of_lem f (suc n) h = rw (all_of_lem f n (λ i l. h i (le_step l)), h n (le_refl (suc n)))

-- ---- roles

-- the role of operation i
pub role_is : (p : List Operation) (i : ℕ) → role_at p i ≡ role_of (get_or p i EndEarly)
role_is p i = get_or-map role_of p i EndEarly

-- a role that has a last operation is a loop's
pub lasting : (r : Role) → 0 < last_of r → r ≡ Loops (last_of r)
lasting Plain l = absurd (omega arith)
lasting Repeats l = absurd (omega arith)
lasting (Loops last) l = refl

ends_before : (e : ℕ) (r : Role) → 0 < e → ends_below e r ≡ true → last_of r < e
ends_before e Plain l h = l
ends_before e Repeats l h = l
ends_before e (Loops last) l h = ltb-true last e h

-- ---- a program whose DOs and REPEATs stand where they may

-- a loop at d up to e
pub record LoopPlaced (p : List Operation) (d e : ℕ) : Type 0 where
  pub room : d + 2 ≤ e
  pub ends : e < length p
  pub last : is_repeat (role_at p e) ≡ false
  pub inner : (k : ℕ) → d < k → k ≤ e → last_of (role_at p k) < e

module _ (p : List Operation) (placed : is_placed p ≡ true) where
  placed_as : (i : ℕ) (r : Role) → i < length p → role_at p i ≡ r → is_placed_as p i r ≡ true
  unfolding is_placed
  placed_as i r l e = subst (λ (x : Role). is_placed_as p i x ≡ true) e (all_each (is_placed_at p) (length p) i l placed)

  pub loop_placed : (d e : ℕ) → d < length p → role_at p d ≡ Loops e → LoopPlaced p d e
  loop_placed d e l is =
      let (room, rest) = both (leb (d + 2) e) _ (placed_as d (Loops e) l is) in
      let (ends, rest') = both (ltb e (length p)) _ rest in
      let (last, nested) = both (not (is_repeat (role_at p e))) (is_nested p d e) rest' in
      let wide : d + 2 ≤ e = leb-true (d + 2) e room in
      record {
        room = wide;
        ends = ltb-true e (length p) ends;
        last = not-true (is_repeat (role_at p e)) last;
        inner =
            λ k lo hi.
            let at : d + 1 + (k - (d + 1)) ≡ k = omega arith in
            ends_before e (role_at p k) (omega arith)
            (subst (λ (j : ℕ). ends_below e (role_at p j) ≡ true) at (all_each (is_inner p d e) (e - d) (k - (d + 1)) (omega arith) nested));
      }

  -- the last operation of a DO is one of the program; so is 0, which stands for no DO
  pub last_below : (i : ℕ) → i < length p → last_of (role_at p i) < length p
  last_below i l = go (role_at p i) refl
    where
      go : (r : Role) → role_at p i ≡ r → last_of r < length p
      go Plain is = omega arith
      go Repeats is = omega arith
      go (Loops e) is = (loop_placed i e l is).ends

  -- a REPEAT stands before an operation that is neither DO nor REPEAT
  pub repeat_placed : (i : ℕ) → i < length p → role_at p i ≡ Repeats → (i + 1 < length p) × (is_plain (role_at p (i + 1)) ≡ true)
  repeat_placed i l is =
      let (inside, plain) = both (ltb (i + 1) (length p)) (is_plain (role_at p (i + 1))) (placed_as i Repeats l is) in
      (ltb-true (i + 1) (length p) inside, plain)
