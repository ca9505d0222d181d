-- The operations of a joined program and their roles: each part stands in it, moved. Assumes nothing.
use Prim.Native.Nat.{ℕ, ◌+◌, ◌≤◌, ◌<◌}
use mathlib.Core.List.{List, map}
use mathlib.Core.Path.{◌≡◌, refl, sym, ap, ◌∙◌}
use native.Mathlib.Nat.{zero-add}
use native.Mathlib.Omega.{arith}
use lib.ListN.{length, length-append, length-map, get_or-map, get_or-append}
use lib.Seq.{get_or-append-add}
use Rattle.operations.specs.declared.operation.Operation.{Operation}
use Rattle.operations.specs.declared.operation.Operation.TheVariants.{MacClass as MacOperation, AddAccumulators, Subtract, Negate, Shift, Lac, Add, Sac}
use Rattle.operations.specs.declared.operation.Operation.TheVariants.{SacR, Literal, Load, Store, Repeat, RepeatRegister, Do, DoRegister, EndEarly, SetMode}
use Rattle.operations.specs.declared.operation.Operation.TheVariants.{ClearSaturation}
use Rattle.program.specs.Placement.{role_of, role_at, last_of}
use Rattle.program.specs.declared.placement.Role.{Role}
use Rattle.program.specs.declared.placement.Role.TheVariants.{Plain, Repeats, Loops as Looped}
use Rattle.program.proofs.Placed.{role_is}
use Rattle.machine.specs.Step.{operation_at}
use Rattle.join.specs.Join.{moved_operation, joined}

-- the role of a moved operation
abbrev pub moved_role : ℕ → Role → Role
moved_role n Plain = Plain
moved_role n Repeats = Repeats
moved_role n (Looped last) = Looped (n + last)

pub moved_last : (n : ℕ) (r : Role) → 0 < last_of r → last_of (moved_role n r) ≡ n + last_of r
moved_last n Plain l = absurd (omega arith)
moved_last n Repeats l = absurd (omega arith)
moved_last n (Looped last) l = refl

-- moving changes an operation only where it is a DO: what holds of one that stays, and of both kinds of DO, holds of all
pub by_moved : (n : ℕ) (P : Operation → Operation → Type 0)
    → ((o : Operation) → moved_role n (role_of o) ≡ role_of o → last_of (role_of o) ≡ 0 → P o o)
    → ((count last : ℕ) → P (Do count last) (Do count (n + last))) → ((r last : ℕ) → P (DoRegister r last) (DoRegister r (n + last)))
    → (o : Operation) → P o (moved_operation n o)
unfolding moved_operation
by_moved n P still literal register (MacOperation k) = still (MacOperation k) refl refl
by_moved n P still literal register (AddAccumulators t) = still (AddAccumulators t) refl refl
by_moved n P still literal register (Subtract t) = still (Subtract t) refl refl
by_moved n P still literal register (Negate t) = still (Negate t) refl refl
by_moved n P still literal register (Shift t r) = still (Shift t r) refl refl
by_moved n P still literal register (Lac t b2 o) = still (Lac t b2 o) refl refl
by_moved n P still literal register (Add t b2 o) = still (Add t b2 o) refl refl
by_moved n P still literal register (Sac t b2 o) = still (Sac t b2 o) refl refl
by_moved n P still literal register (SacR t b2 o) = still (SacR t b2 o) refl refl
by_moved n P still literal register (Literal r v) = still (Literal r v) refl refl
by_moved n P still literal register (Load r p post) = still (Load r p post) refl refl
by_moved n P still literal register (Store r p post) = still (Store r p post) refl refl
by_moved n P still literal register (Repeat count) = still (Repeat count) refl refl
by_moved n P still literal register (RepeatRegister r) = still (RepeatRegister r) refl refl
by_moved n P still literal register (Do count last) = literal count last
by_moved n P still literal register (DoRegister r last) = register r last
by_moved n P still literal register EndEarly = still EndEarly refl refl
by_moved n P still literal register (SetMode word) = still (SetMode word) refl refl
by_moved n P still literal register ClearSaturation = still ClearSaturation refl refl

moved_role_lem : (n : ℕ) (o : Operation) → role_of (moved_operation n o) ≡ moved_role n (role_of o)
moved_role_lem n = by_moved n (λ o o'. role_of o' ≡ moved_role n (role_of o)) (λ o e z. sym e) (λ count last. refl) (λ r last. refl)

pub joined_length : (p q : List Operation) → length (joined p q) ≡ length p + length q
unfolding joined
joined_length p q =
    length-append p (map (moved_operation (length p)) q) ∙ ap (λ (n : ℕ). length p + n) (length-map q (moved_operation (length p)))

module _ (p q : List Operation) where
  pub first_operation : (i : ℕ) → i < length p → operation_at (joined p q) i ≡ operation_at p i
  unfolding joined
  first_operation i l = get_or-append p (map (moved_operation (length p)) q) EndEarly i l

  pub second_operation : (i : ℕ) → operation_at (joined p q) (length p + i) ≡ moved_operation (length p) (operation_at q i)
  unfolding joined moved_operation
  second_operation i =
      get_or-append-add p (map (moved_operation (length p)) q) i EndEarly ∙ get_or-map (moved_operation (length p)) q i EndEarly

-- ---- a program that stands in another from operation n on, moved

pub record PartOf (whole part : List Operation) (n : ℕ) : Type 0 where
  pub fits : n + length part ≤ length whole
  pub operations : (i : ℕ) → i < length part → operation_at whole (n + i) ≡ moved_operation n (operation_at part i)

pub part_role : (whole part : List Operation) (n : ℕ) → PartOf whole part n → (i : ℕ) → i < length part
    → role_at whole (n + i) ≡ moved_role n (role_at part i)
part_role whole part n h i l =
    role_is whole (n + i) ∙ ap role_of (h.operations i l) ∙ moved_role_lem n (operation_at part i) ∙ ap (moved_role n) (sym (role_is part i))

-- moved by 0 an operation stays
moved_by_none : (o : Operation) → moved_operation 0 o ≡ o
moved_by_none = by_moved 0 (λ o o'. o' ≡ o) (λ o e z. refl) (λ count last. ap (Do count) (zero-add last)) (λ r last. ap (DoRegister r) (zero-add last))

-- the two parts of a joined program
module _ (p q : List Operation) where
  pub first_part : PartOf (joined p q) p 0
  first_part =
      record {
        fits = omega (arith, joined_length p q);
        operations = λ i l. ap (operation_at (joined p q)) (zero-add i) ∙ first_operation p q i l ∙ sym (moved_by_none (operation_at p i));
      }

  pub second_part : PartOf (joined p q) q (length p)
  second_part = record { fits = omega (arith, joined_length p q); operations = λ i l. second_operation p q i }
