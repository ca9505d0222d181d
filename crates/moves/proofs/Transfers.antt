-- What kinds 12 to 18 leave, by their words. Assumes nothing.
use Prim.Native.Nat.{ℕ, ◌≤◌, ◌<◌}
use mathlib.Core.Path.{◌≡◌, refl}
use mathlib.Core.Bool.{Bool, true, false, ◌&&◌, ◌||◌, not}
use mathlib.Core.List.{List}
use native.Mathlib.Omega.{arith}
use borrow.Author.Tests.{eqb-true, eqb-false, ltb-true, leb-true, eq-eqb, ne_eqb, not-true}
use lib.Dec.{eqb, leb, ltb}
use lib.IntN.{ℤ, pos, ◌+ℤ◌}
use lib.ListN.{length, get_or, set}
use Rattle.integers.proofs.Whole.{whole, sum, neither, both}
use Rattle.accumulator.specs.Mode.{mode_of}
use Rattle.accumulator.specs.declared.mode.Target.{Target}
use Rattle.std.specs.Prelude.{Some, None, Ok, Err}
use Rattle.address.specs.Trap.{trap_number}
use Rattle.address.specs.declared.trap.Trap.{Trap}
use Rattle.address.proofs.Traps.{trap_some}
use Rattle.operations.specs.Decode.{target_of, post_of, operand_of}
use Rattle.operations.specs.declared.operation.Operand.TheVariants.{Memory}
use Rattle.state.specs.declared.settings.Settings.{Settings}
use Rattle.state.specs.declared.state.Core.{Core}
use Rattle.effects.specs.Access.{word_at, changed}
use Rattle.effects.specs.Effect.{Work, results, stores, unless_trap}
use Rattle.effects.specs.Operations.{loaded_value, load_work, store_work, move_work, work_of}
use Rattle.effects.specs.declared.access.Access.{Access}
use Rattle.effects.specs.declared.access.Place.TheVariants.{Register}
use Rattle.effects.specs.declared.effect.Value.TheVariants.{Word}
use Rattle.effects.specs.declared.pointer.Purpose.TheVariants.{Read as Reading, Store as Storing}
use Rattle.machine.specs.Write.{value_word, put_register, put_memory}
use Rattle.form.specs.Words.{field, kind_in, coded_at}
use Rattle.form.specs.Form.{Encoded}
use Rattle.form.proofs.ByKind.{lac_operation, add_operation, sac_operation, sac_r_operation, literal_operation, load_operation, store_operation}
use Rattle.form.proofs.Ranges.{OperandFields, operand_fields, move_memory}
use Rattle.fields.specs.Carried.{core_with, carried_of, Carries}
use Rattle.fields.proofs.Accumulators.{target_value}
use Rattle.fields.proofs.Targets.{encoded_target}
use Rattle.moves.specs.Transfer.{is_load, is_store, access_in, stored_by}

-- ---- one of three kinds

-- what each gives
pub by_three : {X : Type 0} (k a b c : ℕ) → (eqb k a || eqb k b || eqb k c) ≡ true → (k ≡ a → X) → (k ≡ b → X) → (k ≡ c → X) → X
by_three {X} k a b c e x y z = first (eqb k a) refl
  where
    second : (t : Bool) → eqb k a ≡ false → eqb k b ≡ t → X
    second true h d = y (eqb-true k b d)
    second false h d = z (eqb-true k c (rw (h, d) at e))

    first : (t : Bool) → eqb k a ≡ t → X
    first true d = x (eqb-true k a d)
    first false d = second (eqb k b) d refl

-- but for the moves, kinds 12 to 15
pub load_transfers : (k : ℕ) → is_load k ≡ true → (k ≡ 17 → ⊥) → (11 < k) × (k ≤ 15)
load_transfers k e other =
    by_three k 12 13 17 e (λ z. (omega arith, omega arith)) (λ z. (omega arith, omega arith)) (λ z. absurd (other z))

pub store_transfers : (k : ℕ) → is_store k ≡ true → (k ≡ 18 → ⊥) → (11 < k) × (k ≤ 15)
store_transfers k e other =
    by_three k 14 15 18 e (λ z. (omega arith, omega arith)) (λ z. (omega arith, omega arith)) (λ z. absurd (other z))

-- of kinds 12 to 18, those that are neither 16 nor loads are stores
pub else_stores : (k : ℕ) → 11 < k → k ≤ 18 → (k ≡ 16 → ⊥) → is_load k ≡ false → is_store k ≡ true
else_stores k low high literal e =
    let first = neither (eqb k 12 || eqb k 13) (eqb k 17) e in
    let two = neither (eqb k 12) (eqb k 13) first.0 in
    let above : 13 < k = omega (arith, eqb-false k 12 two.0, eqb-false k 13 two.1) in
    go (eqb k 14) (eqb k 15) refl refl (λ x y. let rest : 15 < k = omega (arith, x, y) in omega (arith, literal, eqb-false k 17 first.1))
  where
    go : (s t : Bool) → eqb k 14 ≡ s → eqb k 15 ≡ t → ((k ≡ 14 → ⊥) → (k ≡ 15 → ⊥) → k ≡ 18) → (s || t || eqb k 18) ≡ true
    go true t d f h = refl
    go false true d f h = refl
    go false false d f h = eq-eqb k 18 (h (eqb-false k 14 d) (eqb-false k 15 f))

-- a form that is memory
memory_form : (r form : ℕ) → (form ≡ 0 → ⊥) → operand_of r form ≡ Memory r (post_of form)
memory_form r form some = rw (ne_eqb form 0 some)

-- LAC adds to nothing
nothing_added : (z : ℤ) → pos 0 +ℤ z ≡ z
nothing_added z = omega (whole, sum (pos 0) z)

module _ {code : List ℕ} {at : ℕ} (e : Encoded code at) where
  abbrev kind : ℕ
  kind = kind_in code at

  -- register and form of its operand
  fields_at : (n : ℕ) → (ltb 11 n && leb n 18 && not (eqb n 16)) ≡ true → kind ≡ n → OperandFields code at
  fields_at n t k =
      let parts = both (ltb 11 n && leb n 18) (not (eqb n 16)) t in
      let range = both (ltb 11 n) (leb n 18) parts.0 in
      operand_fields e (rw k (ltb-true 11 n range.0)) (rw k (leb-true n 18 range.1)) (rw k (eqb-false n 16 (not-true (eqb n 16) parts.1)))

  pub load_fields : is_load kind ≡ true → OperandFields code at
  load_fields l = by_three kind 12 13 17 l (fields_at 12 refl) (fields_at 13 refl) (fields_at 17 refl)

  pub store_fields : is_store kind ≡ true → OperandFields code at
  store_fields l = by_three kind 14 15 18 l (fields_at 14 refl) (fields_at 15 refl) (fields_at 18 refl)

  -- ---- the work of each kind

  module _ (settings : Settings) (mode : ℕ) (acc : List ℤ) (w memory : List ℕ) where
    abbrev target : Target
    target = target_of (field code at 1)

    abbrev work : Core → Work
    work c = work_of settings (mode_of mode) (coded_at code at) (core_with c w acc) memory

    -- what is loaded
    abbrev from : Access
    from = access_in settings Reading code at w (length memory)

    abbrev word : ℕ
    word = word_at from.place w memory

    abbrev loaded : ℤ
    loaded = loaded_value word (field code at 2)

    -- where it is stored
    abbrev to : Access
    to = access_in settings Storing code at w (length memory)

    -- an exact result, unless the read has a trap
    abbrev sums : ℤ → Work
    sums z = unless_trap w from.trap (results (changed from.change w) target z)

    lac_work : kind ≡ 12 → (c : Core) → work c ≡ sums loaded
    unfolding work_of load_work
    lac_work k c = rw (lac_operation code at k, nothing_added loaded)

    add_work : kind ≡ 13 → (c : Core) → work c ≡ sums (get_or acc (field code at 1) (pos 0) +ℤ loaded)
    unfolding work_of load_work
    add_work k c = rw (add_operation code at k, target_value c acc w (field code at 1) (encoded_target e (omega arith)))

    load_work_lem : kind ≡ 17 → (c : Core) → work c ≡ unless_trap w from.trap (stores (changed from.change w) (Register (field code at 1)) (Word word))
    unfolding work_of move_work
    load_work_lem k c =
        rw (load_operation code at k, memory_form (field code at 4) (field code at 6) (move_memory e (omega arith) (omega arith)))

    store_work_lem : is_store kind ≡ true → (c : Core) → work c ≡ unless_trap w to.trap (stores (changed to.change w) to.place (stored_by code at acc w))
    unfolding work_of store_work
    store_work_lem l c =
        by_three kind 14 15 18 l
        (λ k. rw (sac_operation code at k, k, target_value c acc w (field code at 1) (encoded_target e (omega arith))))
        (λ k. rw (sac_r_operation code at k, k, target_value c acc w (field code at 1) (encoded_target e (omega arith))))
        (λ k. rw (store_operation code at k, k, memory_form (field code at 4) (field code at 6) (move_memory e (omega arith) (omega arith))))

    -- ---- what each leaves

    -- a trap, and nothing else
    module _ (trap : Trap) where
      blocks : (done : Core → Work) → ((c : Core) → work c ≡ unless_trap w (trap_number trap) (done c)) → Carries settings mode code at acc w memory w memory (Err trap)
      unfolding carried_of put_register put_memory
      blocks done does c = rw (does c, ne_eqb (trap_number trap) 0 (trap_some trap))

      pub load_blocks : is_load kind ≡ true → trap_number trap ≡ from.trap → Carries settings mode code at acc w memory w memory (Err trap)
      load_blocks l same =
          by_three kind 12 13 17 l
          (λ k. blocks (λ c. results (changed from.change w) target loaded) (rw same (lac_work k)))
          (λ k. blocks (λ c. results (changed from.change w) target (get_or acc (field code at 1) (pos 0) +ℤ loaded)) (rw same (add_work k)))
          (λ k. blocks (λ c. stores (changed from.change w) (Register (field code at 1)) (Word word)) (rw same (load_work_lem k)))

      pub store_blocks : is_store kind ≡ true → trap_number trap ≡ to.trap → Carries settings mode code at acc w memory w memory (Err trap)
      store_blocks l same = blocks (λ c. stores (changed to.change w) to.place (stored_by code at acc w)) (rw same (store_work_lem l))

    -- loads without a trap
    module _ (w' : List ℕ) (free : 0 ≡ from.trap) where
      pub lac_leaves : kind ≡ 12 → w' ≡ changed from.change w → Carries settings mode code at acc w memory w' memory (Ok (Some loaded))
      unfolding carried_of put_register put_memory
      lac_leaves k registers c = rw (lac_work k c, ← free, registers)

      pub add_leaves : kind ≡ 13 → w' ≡ changed from.change w
          → Carries settings mode code at acc w memory w' memory (Ok (Some (get_or acc (field code at 1) (pos 0) +ℤ loaded)))
      unfolding carried_of put_register put_memory
      add_leaves k registers c = rw (add_work k c, ← free, registers)

      pub load_leaves : kind ≡ 17 → w' ≡ set (changed from.change w) (field code at 1) word → Carries settings mode code at acc w memory w' memory (Ok None)
      unfolding carried_of value_word put_register put_memory
      load_leaves k registers c = rw (load_work_lem k c, ← free, registers)

    -- the literal
    pub literal_leaves : (w' : List ℕ) → kind ≡ 16 → w' ≡ set w (field code at 1) (field code at 11) → Carries settings mode code at acc w memory w' memory (Ok None)
    unfolding work_of carried_of value_word put_register put_memory
    literal_leaves w' k registers c = rw (literal_operation code at k, registers)

    -- stores without a trap
    pub store_leaves : (w' memory' : List ℕ) → is_store kind ≡ true → 0 ≡ to.trap
        → w' ≡ put_register to.place (value_word (mode_of mode) (stored_by code at acc w)) (changed to.change w)
        → memory' ≡ put_memory to.place (value_word (mode_of mode) (stored_by code at acc w)) memory
        → Carries settings mode code at acc w memory w' memory' (Ok None)
    unfolding carried_of
    store_leaves w' memory' l free registers words c = rw (store_work_lem l c, ← free, registers, words)
