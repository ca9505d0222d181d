-- A joined program is accepted: its fields are listed, its DOs and REPEATs stand where they may. Assumes nothing.
use Prim.Native.Nat.{ℕ, ◌+◌, ◌-◌, ◌≤◌, ◌<◌}
use mathlib.Core.Bool.{Bool, true, false, not}
use mathlib.Core.List.{List}
use mathlib.Core.Path.{◌≡◌, refl, subst}
use native.Mathlib.Nat.{add_assoc, zero-add}
use native.Mathlib.Omega.{arith}
use borrow.Author.Tests.{ltb-true, ltb-false, lt-ltb, le-leb}
use lib.Dec.{ltb}
use lib.ListN.{length}
use Rattle.integers.proofs.Whole.{both}
use Rattle.operations.specs.Listed.{is_register, is_word, is_count, is_listed}
use Rattle.operations.specs.declared.operation.Operation.{Operation}
use Rattle.program.specs.Placement.{role_of, role_at, is_plain, is_repeat, last_of, ends_below, is_inner, is_placed_as, is_placed_at, is_placed}
use Rattle.program.specs.declared.placement.Role.{Role}
use Rattle.program.specs.declared.placement.Role.TheVariants.{Plain, Repeats, Loops as Looped}
use Rattle.program.proofs.Placed.{role_is, all_of_lem, loop_placed, last_below, repeat_placed}
use Rattle.machine.specs.Step.{operation_at}
use Rattle.join.specs.Join.{moved_operation, joined}
use Rattle.join.proofs.Moved.{by_moved, moved_role, joined_length, first_operation, second_operation, PartOf, part_role, first_part, second_part}

-- a program whose count, fields and placement are accepted
pub record Accepted (p : List Operation) : Type 0 where
  pub some : 0 < length p
  pub few : length p ≤ 4032
  pub listed : (i : ℕ) → i < length p → is_listed (operation_at p i) ≡ true
  pub placed : is_placed p ≡ true

-- ---- roles, moved

moved_plain : (n : ℕ) (r : Role) → is_plain r ≡ true → is_plain (moved_role n r) ≡ true
moved_plain n Plain h = h
moved_plain n Repeats h = h
moved_plain n (Looped last) h = h

moved_repeat : (n : ℕ) (r : Role) → is_repeat r ≡ false → not (is_repeat (moved_role n r)) ≡ true
moved_repeat n Plain h = refl
moved_repeat n Repeats h = rw h
moved_repeat n (Looped last) h = refl

moved_ends : (n e : ℕ) (r : Role) → last_of r < e → ends_below (n + e) (moved_role n r) ≡ true
moved_ends n e Plain l = refl
moved_ends n e Repeats l = refl
moved_ends n e (Looped last) l = lt-ltb (n + last) (n + e) (omega arith)

-- ---- a placed program that stands in another

module _ (p r : List Operation) (n : ℕ) (placed : is_placed r ≡ true) (h : PartOf p r n) where
  roles : (i : ℕ) → i < length r → role_at p (n + i) ≡ moved_role n (role_at r i)
  roles = part_role p r n h

  part_loop : (i e : ℕ) → i < length r → role_at r i ≡ Looped e → is_placed_as p (n + i) (Looped (n + e)) ≡ true
  part_loop i e l is =
      let fits : n + length r ≤ length p = h.fits in
      let loop = loop_placed r placed i e l is in
      let inner : (j : ℕ) → j < n + e - (n + i) → is_inner p (n + i) (n + e) j ≡ true =
      λ j k.
      let at : n + i + 1 + j ≡ n + (i + 1 + j) = omega arith in
      rw (at, roles (i + 1 + j) (omega (arith, loop.ends))) (moved_ends n e (role_at r (i + 1 + j)) (loop.inner (i + 1 + j) (omega arith) (omega arith))) in
      rw (
        le-leb (n + i + 2) (n + e) (omega (arith, loop.room)),
        lt-ltb (n + e) (length p) (omega (arith, loop.ends)),
        roles e loop.ends,
        moved_repeat n (role_at r e) loop.last,
        all_of_lem (is_inner p (n + i) (n + e)) (n + e - (n + i)) inner,
      )

  part_repeat : (i : ℕ) → i < length r → role_at r i ≡ Repeats → is_placed_as p (n + i) Repeats ≡ true
  part_repeat i l is =
      let fits : n + length r ≤ length p = h.fits in
      let (more, plain) = repeat_placed r placed i l is in
      rw (lt-ltb (n + i + 1) (length p) (omega arith), add_assoc n i 1, roles (i + 1) more) (moved_plain n (role_at r (i + 1)) plain)

  part_placed : (i : ℕ) → i < length r → is_placed_at p (n + i) ≡ true
  part_placed i l = rw (roles i l) (go (role_at r i) refl)
    where
      go : (x : Role) → role_at r i ≡ x → is_placed_as p (n + i) (moved_role n x) ≡ true
      go Plain is = refl
      go Repeats is = part_repeat i l is
      go (Looped e) is = part_loop i e l is

-- ---- fields

-- a last operation inside a file's limit is a word
listed_moved : (n : ℕ) (o : Operation) → n + last_of (role_of o) < 65536 → is_listed o ≡ true → is_listed (moved_operation n o) ≡ true
unfolding is_listed
listed_moved n =
    by_moved n (λ o o'. n + last_of (role_of o) < 65536 → is_listed o ≡ true → is_listed o' ≡ true) (λ o e z l ok. ok)
    (λ count last l ok. rw ((both (is_count count) (is_word last) ok).0, lt-ltb (n + last) 65536 l))
    (λ r last l ok. rw ((both (is_register r) (is_word last) ok).0, lt-ltb (n + last) 65536 l))

-- ---- the whole

module _ (p q : List Operation) where
  -- what holds of the first's operations and of the second's holds of all
  each : (P : ℕ → Type 0) → ((i : ℕ) → i < length p → P i) → ((i : ℕ) → i < length q → P (length p + i))
      → (i : ℕ) → i < length (joined p q) → P i
  each P first second i l = go (ltb i (length p)) refl
    where
      go : (t : Bool) → ltb i (length p) ≡ t → P i
      go true e = first i (ltb-true i (length p) e)
      go false e =
          let after : length p ≤ i = ltb-false i (length p) e in
          let at : length p + (i - length p) ≡ i = omega arith in
          subst P at (second (i - length p) (omega (arith, joined_length p q)))

  module _ (ok : Accepted p) (ok' : Accepted q) (few : length p + length q ≤ 4032) where
    pub joined_accepted : Accepted (joined p q)
    unfolding is_placed
    joined_accepted =
        record {
          some = omega (arith, joined_length p q, ok.some);
          few = rw (joined_length p q) few;
          listed =
              each (λ (i : ℕ). is_listed (operation_at (joined p q) i) ≡ true) (λ i l. rw (first_operation p q i l) (ok.listed i l))
              (λ i l.
              rw (second_operation p q i)
              (listed_moved (length p) (operation_at q i) (rw (← role_is q i) (omega (arith, last_below q ok'.placed i l))) (ok'.listed i l)));
          placed =
              all_of_lem (is_placed_at (joined p q)) (length (joined p q))
              (each (λ (i : ℕ). is_placed_at (joined p q) i ≡ true)
              (λ i l. rw (zero-add i) at (part_placed (joined p q) p 0 ok.placed (first_part p q) i l))
              (λ i l. part_placed (joined p q) q (length p) ok'.placed (second_part p q) i l));
        }
