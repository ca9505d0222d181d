-- The ranges of the words of kinds 11 to 18, from their being listed. Assumes nothing.
use Prim.Native.Nat.{ℕ, ◌%◌, ◌≤◌, ◌<◌}
use mathlib.Core.Path.{◌≡◌, refl, sym, ◌∙◌}
use mathlib.Core.Bool.{Bool, true, false, cond, ◌&&◌}
use mathlib.Core.List.{List}
use native.Mathlib.Omega.{arith}
use borrow.Author.Tests.{ltb-true, leb-true, leb-false}
use lib.Dec.{eqb, leb, ltb}
use lib.ListN.{get_or}
use Rattle.integers.proofs.Whole.{both}
use Rattle.accumulator.specs.declared.mode.Target.{Target}
use Rattle.operations.specs.declared.operation.PostModification.{PostModification}
use Rattle.operations.specs.declared.operation.PostModification.TheVariants.{None as Stays, Increment, Decrement}
use Rattle.operations.specs.declared.operation.Operand.{Operand}
use Rattle.operations.specs.declared.operation.Operand.TheVariants.{Register, Memory}
use Rattle.operations.specs.declared.operation.Operation.{Operation}
use Rattle.operations.specs.declared.operation.Operation.TheVariants.{Lac, Add, Sac, SacR, Load, Store}
use Rattle.operations.specs.Encode.{post_byte, pointer_byte, form_byte, encode_of}
use Rattle.operations.specs.Decode.{target_of, post_of, operand_of}
use Rattle.operations.specs.Listed.{is_register, is_word, is_listed_operand, is_listed}
use Rattle.form.specs.Words.{words_of_bytes, words_for, field, kind_in}
use Rattle.form.specs.Form.{Encoded}
use Rattle.form.proofs.Fields.{encoded_field}
use Rattle.form.proofs.ByKind.{shift_operation, transfer_operation, literal_operation, pointer_operation}

-- ---- operands

operand_listed : (s : ℕ) (o : Operand) → is_listed_operand s o ≡ true → (s < 16) × (pointer_byte o < 14)
operand_listed s (Register r) e = let t = both (ltb s 16) (is_register r) e in (ltb-true s 16 t.0, ltb-true r 14 t.1)
operand_listed s (Memory p post) e = let t = both (ltb s 16) (is_register p) e in (ltb-true s 16 t.0, ltb-true p 14 t.1)

pointer_same : (r form : ℕ) → pointer_byte (operand_of r form) ≡ r
pointer_same r form = go (eqb form 0)
  where
    go : (t : Bool) → pointer_byte (cond t (Register r) (Memory r (post_of form))) ≡ r
    go true = refl
    go false = refl

post_range : (p : PostModification) → (0 < post_byte p % 16) × (post_byte p % 16 ≤ 3)
post_range Stays = (omega arith, omega arith)
post_range Increment = (omega arith, omega arith)
post_range Decrement = (omega arith, omega arith)

form_range : (o : Operand) → form_byte o % 16 ≤ 3
form_range (Register r) = omega arith
form_range (Memory p post) = (post_range post).1

-- ---- kinds 12 to 15

module _ (t : Target) (s : ℕ) (o : Operand) where
  abbrev one_of : Bool → Bool → Bool → Operation
  one_of lac add sac = cond lac (Lac t s o) (cond add (Add t s o) (cond sac (Sac t s o) (SacR t s o)))

  transfer_listed : (lac add sac : Bool) → is_listed (one_of lac add sac) ≡ is_listed_operand s o
  unfolding is_listed
  transfer_listed true add sac = refl
  transfer_listed false true sac = refl
  transfer_listed false false true = refl
  transfer_listed false false false = refl

  transfer_form : (lac add sac : Bool) → get_or (words_for (one_of lac add sac)) 6 0 ≡ form_byte o % 16
  unfolding words_for words_of_bytes encode_of
  transfer_form true add sac = refl
  transfer_form false true sac = refl
  transfer_form false false true = refl
  transfer_form false false false = refl

-- ---- kinds 17 and 18

module _ (r p : ℕ) (post : PostModification) where
  abbrev either_of : Bool → Operation
  either_of load = cond load (Load r p post) (Store r p post)

  pointer_listed : (load : Bool) → is_listed (either_of load) ≡ is_register r && is_register p
  unfolding is_listed
  pointer_listed true = refl
  pointer_listed false = refl

  pointer_form : (load : Bool) → get_or (words_for (either_of load)) 6 0 ≡ post_byte post % 16
  unfolding words_for words_of_bytes encode_of
  pointer_form true = refl
  pointer_form false = refl

-- ---- the words' ranges

-- register and form of an operand
pub record OperandFields (code : List ℕ) (at : ℕ) : Type 0 where
  pub pointer : field code at 4 < 14
  pub form : field code at 6 ≤ 3

module _ {code : List ℕ} {at : ℕ} (e : Encoded code at) where
  abbrev kind : ℕ
  kind = kind_in code at

  abbrev from : Operand
  from = operand_of (field code at 4) (field code at 6)

  -- 11: the register with the shift
  pub shift_register : kind ≡ 11 → field code at 4 < 14
  unfolding is_listed
  shift_register k = ltb-true (field code at 4) 14 (rw (shift_operation code at k) at e.listed)

  -- 16: the register
  pub literal_register : kind ≡ 16 → field code at 1 < 14
  unfolding is_listed
  literal_register k =
      ltb-true (field code at 1) 14 (both (is_register (field code at 1)) (is_word (field code at 11)) (rw (literal_operation code at k) at e.listed)).0

  -- 12 to 15: the shift and the operand
  transfer_parts : 11 < kind → kind ≤ 15 → is_listed_operand (field code at 2) from ≡ true
  transfer_parts low high =
      sym (transfer_listed (target_of (field code at 1)) (field code at 2) from (eqb kind 12) (eqb kind 13) (eqb kind 14))
      ∙ rw (transfer_operation code at low high) at e.listed

  pub transfer_shift : 11 < kind → kind ≤ 15 → field code at 2 < 16
  transfer_shift low high = (operand_listed (field code at 2) from (transfer_parts low high)).0

  transfer_fields : 11 < kind → kind ≤ 15 → OperandFields code at
  transfer_fields low high =
      let form : field code at 6 ≡ form_byte from % 16 =
      encoded_field e 6 (omega arith)
      ∙ rw (transfer_operation code at low high) (transfer_form (target_of (field code at 1)) (field code at 2) from (eqb kind 12) (eqb kind 13) (eqb kind 14)) in
      record {
        pointer = rw (pointer_same (field code at 4) (field code at 6)) at (operand_listed (field code at 2) from (transfer_parts low high)).1;
        form = omega (arith, form, form_range from);
      }

  -- 17 and 18: the register, the pointer, and a form that is memory
  pointer_parts : 16 < kind → kind ≤ 18 → (field code at 1 < 14) × (field code at 4 < 14)
  pointer_parts low high =
      let t =
      both (is_register (field code at 1)) (is_register (field code at 4))
      (sym (pointer_listed (field code at 1) (field code at 4) (post_of (field code at 6)) (eqb kind 17)) ∙ rw (pointer_operation code at low high) at e.listed) in
      (ltb-true (field code at 1) 14 t.0, ltb-true (field code at 4) 14 t.1)

  pub move_register : 16 < kind → kind ≤ 18 → field code at 1 < 14
  move_register low high = (pointer_parts low high).0

  move_form : 16 < kind → kind ≤ 18 → (0 < field code at 6) × (field code at 6 ≤ 3)
  move_form low high =
      let post : PostModification = post_of (field code at 6) in
      let form : field code at 6 ≡ post_byte post % 16 =
      encoded_field e 6 (omega arith) ∙ rw (pointer_operation code at low high) (pointer_form (field code at 1) (field code at 4) post (eqb kind 17)) in
      (omega (arith, form, post_range post), omega (arith, form, post_range post))

  pub move_memory : 16 < kind → kind ≤ 18 → field code at 6 ≡ 0 → ⊥
  move_memory low high z = omega (arith, z, move_form low high)

  -- 12 to 15, 17 and 18
  pub operand_fields : 11 < kind → kind ≤ 18 → (kind ≡ 16 → ⊥) → OperandFields code at
  operand_fields low high other = go (leb kind 15) refl
    where
      go : (t : Bool) → leb kind 15 ≡ t → OperandFields code at
      go true l = transfer_fields low (leb-true kind 15 l)
      go false l =
          let above : 16 < kind = omega (arith, leb-false kind 15 l, other) in
          record { pointer = (pointer_parts above high).1; form = (move_form above high).1 }
