-- What an operation does to A: kind 3 with target A adds the product of its pair, an operation that does not write A leaves it. Assumes nothing.
use Prim.Native.Nat.{ℕ}
use mathlib.Core.Bool.{Bool, true, false, ◌&&◌}
use mathlib.Core.List.{List}
use mathlib.Core.Path.{◌≡◌, refl, sym, ◌∙◌}
use borrow.Author.Tests.{eqb-true, eq-eqb}
use lib.Dec.{eqb, ltb}
use lib.IntN.{ℤ, pos, neg_ℤ, ◌+ℤ◌, ◌-ℤ◌}
use lib.ListN.{length}
use Rattle.integers.specs.Bits.{signed_of}
use Rattle.integers.proofs.Whole.{by_test, never}
use Rattle.accumulator.specs.Shift.{shift_of, shift_allowed}
use Rattle.accumulator.specs.declared.mode.Mode.{Mode}
use Rattle.accumulator.specs.declared.mode.Target.{Target}
use Rattle.accumulator.specs.declared.mode.Target.TheVariants.{A, B}
use Rattle.operations.specs.Encode.{target_byte, action_byte, encode_of}
use Rattle.operations.specs.Listed.{is_listed_mac, is_listed}
use Rattle.operations.proofs.Operations.{low_nibble, high_nibble, factors_nibbles}
use Rattle.operations.specs.declared.operation.Action.{Action}
use Rattle.operations.specs.declared.operation.Action.TheVariants.{Clr, Mpy, Mac, Msc, Ed, Edac, Movsac}
use Rattle.operations.specs.declared.operation.Operand.{Operand}
use Rattle.operations.specs.declared.operation.Operand.TheVariants.{Memory as Pointed}
use Rattle.operations.specs.declared.operation.PostModification.{PostModification}
use Rattle.operations.specs.declared.operation.MacClass.{MacClass}
use Rattle.operations.specs.declared.operation.Operation.{Operation}
use Rattle.operations.specs.declared.operation.Operation.TheVariants.{MacClass as MacOperation, AddAccumulators, Subtract, Negate, Shift, Lac, Add, Sac}
use Rattle.operations.specs.declared.operation.Operation.TheVariants.{SacR, Literal, Load, Store, Repeat, RepeatRegister, Do, DoRegister, EndEarly, SetMode}
use Rattle.operations.specs.declared.operation.Operation.TheVariants.{ClearSaturation}
use Rattle.state.specs.State.{register, accumulator_of, other_of}
use Rattle.state.specs.declared.settings.Settings.{Settings}
use Rattle.state.specs.declared.state.Core.{Core}
use Rattle.effects.specs.Access.{operand_access, word_at}
use Rattle.effects.specs.Effect.{Work}
use Rattle.effects.specs.Mac.{exact_by, mac_product, mac_square, mac_exact, mac_accesses, mac_trap, mac_work}
use Rattle.effects.specs.Operations.{shift_work, loaded_value, load_work, store_work, scaled_of, move_work, loop_work, work_of}
use Rattle.effects.specs.declared.pointer.Purpose.TheVariants.{Read, Store as Storing}
use Rattle.effects.specs.declared.effect.Exact.{Exact}
use Rattle.effects.specs.declared.effect.Exact.TheVariants.{Keep, Replace}
use Rattle.effects.specs.declared.effect.Value.{Value}
use Rattle.effects.specs.declared.effect.Value.TheVariants.{Word, Scaled}
use Rattle.machine.specs.Control.{control_of, clears}
use Rattle.machine.proofs.ControlKinds.{by_kind}
use Rattle.combine.specs.Dot.{pair_product, byte_of, is_writing_kind, writes_a, adds_to_a, pair_of}

-- an exact result that writes r to A, or leaves A
abbrev pub Meets : ℤ → Bool → Exact → Type 0
Meets r true Keep = ⊥
Meets r true (Replace A x) = x ≡ r
Meets r true (Replace B x) = ⊥
Meets r false Keep = Unit {0}
Meets r false (Replace A x) = ⊥
Meets r false (Replace B x) = Unit {0}

-- a result for the target leaves A where the target is not A
other_meets : (r x : ℤ) (t : Target) → (eqb (target_byte t) 0 ≡ true → false ≡ true) → Meets r false (Replace t x)
other_meets r x A h = never (h refl)
other_meets r x B h = tt

-- kind 3's pair, of registers m and n
mac_pair : (k : MacClass) (w : List ℕ) → is_listed_mac k ≡ true → pair_of (MacOperation k) w ≡ record { m = register w k.m; n = register w k.n }
unfolding pair_of encode_of
mac_pair k w listed =
    let t = factors_nibbles k listed in
    rw (low_nibble k.m k.n t.0, high_nibble k.m k.n t.1)

module _ (s : Settings) (m : Mode) (signed : m.unsigned ≡ false) (c : Core) (memory : List ℕ) where
  -- A with the product of an operation's pair
  abbrev pub sum_by : Operation → ℤ
  sum_by o = c.a +ℤ pair_product m.integer (pair_of o c.w)

  -- ---- kinds 1 to 7

  mac_meets : (action : Action) (t : Target) (r p square : ℤ) → c.a +ℤ p ≡ r
      → ((is_writing_kind (action_byte action) && eqb (target_byte t) 0) ≡ true → (eqb (action_byte action) 3 && eqb (target_byte t) 0) ≡ true)
      → Meets r (eqb (action_byte action) 3 && eqb (target_byte t) 0) (exact_by action t (accumulator_of c t) p square)
  unfolding exact_by
  mac_meets Clr t r p square e h = other_meets r (pos 0) t h
  mac_meets Mpy t r p square e h = other_meets r p t h
  mac_meets Mac A r p square e h = e
  mac_meets Mac B r p square e h = tt
  mac_meets Msc t r p square e h = other_meets r (accumulator_of c t -ℤ p) t h
  mac_meets Ed t r p square e h = other_meets r square t h
  mac_meets Edac t r p square e h = other_meets r (accumulator_of c t +ℤ square) t h
  mac_meets Movsac t r p square e h = tt

  -- an operation whose work is this meets what it is to do to A
  abbrev MeetsBy : Operation → Work → Type 0
  MeetsBy o work = work.effect.trap ≡ 0 → Meets (sum_by o) (adds_to_a o) work.effect.exact

  mac_work_lem : (k : MacClass) → is_listed_mac k ≡ true → (writes_a (MacOperation k) ≡ true → adds_to_a (MacOperation k) ≡ true)
      → MeetsBy (MacOperation k) (mac_work s m k c memory)
  unfolding mac_work mac_exact writes_a adds_to_a encode_of
  mac_work_lem k listed h =
      let x = mac_accesses s k c.w (length memory) in
      by_test (MeetsBy (MacOperation k)) (eqb (mac_trap x) 0)
      (λ e z.
      mac_meets k.action k.target (sum_by (MacOperation k)) (mac_product m k c.w) (mac_square m k c.w)
      (rw (mac_pair k c.w listed, signed)) h)
      (λ e z. never (sym e ∙ eq-eqb (mac_trap x) 0 z))

  -- ---- the other kinds

  -- work that leaves A
  abbrev Leaves : ℤ → Work → Type 0
  Leaves r work = Meets r false work.effect.exact

  module _ (r : ℤ) where
    shift_leaves : (t : Target) (n : ℤ) → (eqb (target_byte t) 0 ≡ true → false ≡ true) → Leaves r (shift_work t n c)
    unfolding shift_work
    shift_leaves t n h = by_test (Leaves r) (shift_allowed n) (λ e. other_meets r (shift_of (accumulator_of c t) n) t h) (λ e. tt)

    load_leaves : (t : Target) (v : ℤ) (b2 : ℕ) (from : Operand) → (eqb (target_byte t) 0 ≡ true → false ≡ true)
        → Leaves r (load_work s t v b2 from c memory)
    unfolding load_work
    load_leaves t v b2 from h =
        let a = operand_access s Read from c.w (length memory) in
        by_test (Leaves r) (eqb a.trap 0) (λ e. other_meets r (v +ℤ loaded_value (word_at a.place c.w memory) b2) t h) (λ e. tt)

    store_leaves : (to : Operand) (v : Value) → Leaves r (store_work s to v c memory)
    unfolding store_work
    store_leaves to v = by_test (Leaves r) (eqb (operand_access s Storing to c.w (length memory)).trap 0) (λ e. tt) (λ e. tt)

    move_leaves : (to p : ℕ) (post : PostModification) → Leaves r (move_work s to p post c memory)
    unfolding move_work
    move_leaves to p post = by_test (Leaves r) (eqb (operand_access s Read (Pointed p post) c.w (length memory)).trap 0) (λ e. tt) (λ e. tt)

    loop_leaves : Leaves r (loop_work c)
    unfolding loop_work
    loop_leaves = by_test (Leaves r) (ltb c.loops.depth 4) (λ e. tt) (λ e. tt)

  -- ---- all kinds

  pub work_meets : (o : Operation) → is_listed o ≡ true → (writes_a o ≡ true → adds_to_a o ≡ true) → MeetsBy o (work_of s m o c memory)
  unfolding work_of writes_a adds_to_a encode_of is_listed
  work_meets (MacOperation k) listed h = mac_work_lem k listed h
  work_meets (AddAccumulators t) listed h = λ z. other_meets (sum_by (AddAccumulators t)) (c.a +ℤ c.b) t h
  work_meets (Subtract t) listed h = λ z. other_meets (sum_by (Subtract t)) (accumulator_of c t -ℤ accumulator_of c (other_of t)) t h
  work_meets (Negate t) listed h = λ z. other_meets (sum_by (Negate t)) (neg_ℤ (accumulator_of c t)) t h
  work_meets (Shift t r) listed h = λ z. shift_leaves (sum_by (Shift t r)) t (signed_of 16 (register c.w r)) h
  work_meets (Lac t b2 o) listed h = λ z. load_leaves (sum_by (Lac t b2 o)) t (pos 0) b2 o h
  work_meets (Add t b2 o) listed h = λ z. load_leaves (sum_by (Add t b2 o)) t (accumulator_of c t) b2 o h
  work_meets (Sac t b2 o) listed h = λ z. store_leaves (sum_by (Sac t b2 o)) o (Scaled false (scaled_of c t b2))
  work_meets (SacR t b2 o) listed h = λ z. store_leaves (sum_by (SacR t b2 o)) o (Scaled true (scaled_of c t b2))
  work_meets (Literal r v) listed h = λ z. tt
  work_meets (Load r p post) listed h = λ z. move_leaves (sum_by (Load r p post)) r p post
  work_meets (Store r p post) listed h = λ z. store_leaves (sum_by (Store r p post)) (Pointed p post) (Word (register c.w r))
  work_meets (Repeat n) listed h = λ z. tt
  work_meets (RepeatRegister r) listed h = λ z. tt
  work_meets (Do n last) listed h = λ z. loop_leaves (sum_by (Do n last))
  work_meets (DoRegister r last) listed h = λ z. loop_leaves (sum_by (DoRegister r last))
  work_meets EndEarly listed h = λ z. tt
  work_meets (SetMode word) listed h = λ z. tt
  work_meets ClearSaturation listed h = λ z. tt

-- what adds to A clears no flag
pub adds_onward : (o : Operation) → (clears (control_of o) && adds_to_a o) ≡ false
unfolding adds_to_a
adds_onward o = rw (by_kind o).flags (go (byte_of o 0) (eqb (byte_of o 0) 25) refl)
  where
    go : (b : ℕ) (t : Bool) → eqb b 25 ≡ t → (t && (eqb b 3 && eqb (byte_of o 1) 0)) ≡ false
    go b true e = rw (eqb-true b 25 e)
    go b false e = refl
