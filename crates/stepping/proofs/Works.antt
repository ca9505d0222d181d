-- A step of kinds 1 to 18 put together: the work carried out, its result written, the next operation. Assumes nothing.
use Prim.Native.Nat.{ℕ, ◌≤◌, ◌<◌}
use mathlib.Core.Path.{◌≡◌, refl, sym, ap, ◌∙◌}
use mathlib.Core.Bool.{Bool, true, false, cond}
use mathlib.Core.List.{List}
use mathlib.Core.Logic.{⊎_elim}
use native.Mathlib.Decide.{dec_le}
use native.Mathlib.Nat.{eq-or-lt_of_le, lt_of_not-le}
use native.Mathlib.Omega.{arith}
use borrow.Author.Tests.{eq-eqb, ne_eqb, le-leb}
use lib.Dec.{eqb, leb, ltb}
use lib.IntN.{ℤ, pos, ◌+ℤ◌}
use lib.ListN.{length}
use Rattle.integers.specs.Bits.{signed_of}
use Rattle.integers.proofs.Whole.{by_test, never}
use Rattle.std.specs.Prelude.{Option, Some, Result, Ok}
use Rattle.accumulator.specs.Mode.{mode_of}
use Rattle.accumulator.specs.Shift.{shift_of, shift_allowed}
use Rattle.accumulator.specs.declared.mode.Mode.{Mode}
use Rattle.accumulator.specs.declared.mode.Target.{Target}
use Rattle.address.specs.Trap.{trap_number, failed_by}
use Rattle.address.specs.declared.trap.Trap.{Trap}
use Rattle.address.specs.declared.trap.Trap.TheVariants.{OddAddress, OutsideRegion, ShiftAmount, LoopDepth, LimitsLeft, OverflowA, OverflowB}
use Rattle.operations.specs.declared.operation.MacClass.{MacClass}
use Rattle.operations.specs.declared.operation.Operand.{Operand}
use Rattle.operations.specs.declared.operation.Operand.TheVariants.{Memory}
use Rattle.operations.specs.declared.operation.PostModification.{PostModification}
use Rattle.operations.specs.declared.operation.Operation.{Operation}
use Rattle.operations.specs.declared.operation.Operation.TheVariants.{MacClass as MacOperation, AddAccumulators, Subtract, Negate, Shift, Lac, Add, Sac}
use Rattle.operations.specs.declared.operation.Operation.TheVariants.{SacR, Literal, Load, Store, Repeat, RepeatRegister, Do, DoRegister, EndEarly, SetMode}
use Rattle.operations.specs.declared.operation.Operation.TheVariants.{ClearSaturation}
use Rattle.state.specs.State.{register, accumulator_of, other_of}
use Rattle.state.specs.declared.settings.Settings.{Settings}
use Rattle.state.specs.declared.state.Core.{Core}
use Rattle.effects.specs.Access.{operand_access, word_at, changed}
use Rattle.effects.specs.Effect.{Work, blocked, quiet, results, stores, unless_trap}
use Rattle.effects.specs.Mac.{mac_accesses, mac_trap, mac_registers, mac_exact, mac_work}
use Rattle.effects.specs.Operations.{shift_work, loaded_value, load_work, store_work, scaled_of, move_work, loop_work, work_of}
use Rattle.effects.specs.declared.access.Place.TheVariants.{Register as InRegister}
use Rattle.effects.specs.declared.effect.Exact.{Exact}
use Rattle.effects.specs.declared.effect.Exact.TheVariants.{Keep, Replace}
use Rattle.effects.specs.declared.effect.Value.{Value}
use Rattle.effects.specs.declared.effect.Value.TheVariants.{Word, Scaled}
use Rattle.effects.specs.declared.pointer.Purpose.TheVariants.{Read, Store as Storing}
use Rattle.machine.specs.Control.{control_of, controlled, advanced, state_controlled}
use Rattle.machine.specs.Step.{operation_at, completed, stepped}
use Rattle.machine.specs.Write.{value_word, put_register, put_memory, settle_of}
use Rattle.machine.specs.declared.control.Control.TheVariants.{None as Onward}
use Rattle.operations.specs.Decode.{post_of}
use Rattle.form.specs.Words.{field, kind_in, coded_at}
use Rattle.form.proofs.ByKind.{literal_operation, load_operation, store_operation}
use Rattle.fields.specs.Carried.{Carried, carried_of, exact_in, carried_in, core_with, Carries}
use Rattle.sequencer.specs.Lent.{lent_core, lent_state}
use Rattle.sequencer.specs.declared.flow.Flow.{Flow}

-- ---- a trap without effect leaves registers and memory

abbrev Stays : Mode → List ℕ → List ℕ → Work → Type 0
Stays m w memory work =
    (work.effect.trap ≡ 0 → ⊥) → ((carried_of m work memory).w ≡ w) × ((carried_of m work memory).memory ≡ memory)

module _ (m : Mode) (w memory : List ℕ) where
  blocked_stays : (trap : ℕ) → Stays m w memory (blocked w trap)
  unfolding carried_of put_register put_memory
  blocked_stays trap h = (refl, refl)

  stays_test : (t : Bool) (work : Work) (trap : ℕ) → work.effect.trap ≡ 0 → Stays m w memory (cond t work (blocked w trap))
  stays_test t work trap e = by_test (Stays m w memory) t {x = work} {y = blocked w trap} (λ x h. absurd (h e)) (λ x. blocked_stays trap)

module _ (s : Settings) (m : Mode) (c : Core) (memory : List ℕ) where
  mac_stays : (k : MacClass) → Stays m c.w memory (mac_work s m k c memory)
  unfolding mac_work
  mac_stays k =
      let a = mac_accesses s k c.w (length memory) in
      stays_test m c.w memory (eqb (mac_trap a) 0)
      (record {
        w = mac_registers k a c.w memory;
        effect = record { trap = 0; exact = mac_exact m k c; place = a.back.place; value = Scaled true (accumulator_of c (other_of k.target)) };
      }) (mac_trap a) refl

  shift_stays : (t : Target) (n : ℤ) → Stays m c.w memory (shift_work t n c)
  unfolding shift_work
  shift_stays t n = stays_test m c.w memory (shift_allowed n) (results c.w t (shift_of (accumulator_of c t) n)) 3 refl

  load_stays : (t : Target) (v : ℤ) (b2 : ℕ) (from : Operand) → Stays m c.w memory (load_work s t v b2 from c memory)
  unfolding load_work
  load_stays t v b2 from =
      let a = operand_access s Read from c.w (length memory) in
      stays_test m c.w memory (eqb a.trap 0) (results (changed a.change c.w) t (v +ℤ loaded_value (word_at a.place c.w memory) b2)) a.trap refl

  store_stays : (to : Operand) (v : Value) → Stays m c.w memory (store_work s to v c memory)
  unfolding store_work
  store_stays to v =
      let a = operand_access s Storing to c.w (length memory) in
      stays_test m c.w memory (eqb a.trap 0) (stores (changed a.change c.w) a.place v) a.trap refl

  move_stays : (to p : ℕ) (post : PostModification) → Stays m c.w memory (move_work s to p post c memory)
  unfolding move_work
  move_stays to p post =
      let a = operand_access s Read (Memory p post) c.w (length memory) in
      stays_test m c.w memory (eqb a.trap 0) (stores (changed a.change c.w) (InRegister to) (Word (word_at a.place c.w memory))) a.trap refl

  loop_stays : Stays m c.w memory (loop_work c)
  unfolding loop_work
  loop_stays = stays_test m c.w memory (ltb c.loops.depth 4) (quiet c.w) 4 refl

  pub trap_stays : (o : Operation) → Stays m c.w memory (work_of s m o c memory)
  unfolding work_of
  trap_stays (MacOperation k) = mac_stays k
  trap_stays (AddAccumulators t) = λ h. absurd (h refl)
  trap_stays (Subtract t) = λ h. absurd (h refl)
  trap_stays (Negate t) = λ h. absurd (h refl)
  trap_stays (Shift t r) = shift_stays t (signed_of 16 (register c.w r))
  trap_stays (Lac t b2 o) = load_stays t (pos 0) b2 o
  trap_stays (Add t b2 o) = load_stays t (accumulator_of c t) b2 o
  trap_stays (Sac t b2 o) = store_stays o (Scaled false (scaled_of c t b2))
  trap_stays (SacR t b2 o) = store_stays o (Scaled true (scaled_of c t b2))
  trap_stays (Literal r v) = λ h. absurd (h refl)
  trap_stays (Load r p post) = move_stays r p post
  trap_stays (Store r p post) = store_stays (Memory p post) (Word (register c.w r))
  trap_stays (Repeat n) = λ h. absurd (h refl)
  trap_stays (RepeatRegister r) = λ h. absurd (h refl)
  trap_stays (Do n last) = loop_stays
  trap_stays (DoRegister r last) = loop_stays
  trap_stays EndEarly = λ h. absurd (h refl)
  trap_stays (SetMode word) = λ h. absurd (h refl)
  trap_stays ClearSaturation = λ h. absurd (h refl)

-- ---- the step of an operation after which pc moves on

split : (t : Bool) (x y : Operation) → (t ≡ true → control_of x ≡ Onward) → (t ≡ false → control_of y ≡ Onward) → control_of (cond t x y) ≡ Onward
split true x y when_true when_false = when_true refl
split false x y when_true when_false = when_false refl

either : (t : Bool) (x y : Operation) → control_of x ≡ Onward → control_of y ≡ Onward → control_of (cond t x y) ≡ Onward
either t x y hx hy = split t x y (λ e. hx) (λ e. hy)

-- kinds up to 18
pub onward_kind : (code : List ℕ) (at : ℕ) → kind_in code at ≤ 18 → control_of (coded_at code at) ≡ Onward
unfolding control_of coded_at
onward_kind code at l =
    let k : ℕ = kind_in code at in
    split (leb k 7) _ _ (λ e. refl) (λ e.
    split (leb k 11) _ _ (λ e. either (eqb k 8) _ _ refl (either (eqb k 9) _ _ refl (either (eqb k 10) _ _ refl refl))) (λ e.
    split (leb k 15) _ _ (λ e. either (eqb k 12) _ _ refl (either (eqb k 13) _ _ refl (either (eqb k 14) _ _ refl refl))) (λ e.
    split (leb k 18) _ _ (λ e. either (eqb k 16) _ _ refl (either (eqb k 17) _ _ refl refl)) (λ e.
    never (sym e ∙ le-leb k 18 l)))))

-- kinds 16 to 18 have no result
abbrev keeps : Exact → Bool
keeps Keep = true
keeps (Replace t r) = false

unless_keeps : (w : List ℕ) (trap : ℕ) (work : Work) → work.effect.exact ≡ Keep → (unless_trap w trap work).effect.exact ≡ Keep
unless_keeps w trap work e = by_test (λ (x : Work). x.effect.exact ≡ Keep) (eqb trap 0) {x = work} {y = blocked w trap} (λ t. e) (λ t. refl)

module _ (code : List ℕ) (at : ℕ) (settings : Settings) (m : Mode) (c : Core) (memory : List ℕ) where
  literal_keeps : kind_in code at ≡ 16 → (work_of settings m (coded_at code at) c memory).effect.exact ≡ Keep
  unfolding work_of
  literal_keeps e = rw (literal_operation code at e)

  load_keeps : kind_in code at ≡ 17 → (work_of settings m (coded_at code at) c memory).effect.exact ≡ Keep
  unfolding work_of move_work
  load_keeps e =
      let a = operand_access settings Read (Memory (field code at 4) (post_of (field code at 6))) c.w (length memory) in
      rw (load_operation code at e)
      (unless_keeps c.w a.trap (stores (changed a.change c.w) (InRegister (field code at 1)) (Word (word_at a.place c.w memory))) refl)

  store_keeps : kind_in code at ≡ 18 → (work_of settings m (coded_at code at) c memory).effect.exact ≡ Keep
  unfolding work_of store_work
  store_keeps e =
      let a = operand_access settings Storing (Memory (field code at 4) (post_of (field code at 6))) c.w (length memory) in
      rw (store_operation code at e)
      (unless_keeps c.w a.trap (stores (changed a.change c.w) a.place (Word (register c.w (field code at 1)))) refl)

  moves_keep : 15 < kind_in code at → kind_in code at ≤ 18 → (work_of settings m (coded_at code at) c memory).effect.exact ≡ Keep
  moves_keep low high =
      ⊎_elim (λ e. literal_keeps (sym e))
      (λ l. ⊎_elim (λ e. load_keeps (sym e)) (λ k. store_keeps (omega arith)) (eq-or-lt_of_le l))
      (eq-or-lt_of_le low)

module _ (settings : Settings) (p : List Operation) (o : Operation) (f : Flow) (acc : List ℤ) (oflags sflags : List Bool) (w starts passes memory : List ℕ)
    (here : operation_at p f.pc ≡ o) where
  abbrev mode : Mode
  mode = mode_of f.mode

  abbrev work : Work
  work = work_of settings mode o (lent_core w acc oflags starts passes f) memory

  module _ (t : Target) (w' memory' : List ℕ) (e : Result (Option ℤ) Trap) (carries : carried_in w' memory' t e ≡ carried_of mode work memory) where
    trap_is : failed_by e ≡ work.effect.trap
    unfolding carried_of
    trap_is = ap (λ (x : Carried). x.trap) carries

    exact_is : exact_in t e ≡ work.effect.exact
    unfolding carried_of
    exact_is = ap (λ (x : Carried). x.exact) carries

    registers_are : w' ≡ put_register work.effect.place (value_word mode work.effect.value) work.w
    unfolding carried_of
    registers_are = ap (λ (x : Carried). x.w) carries

    memory_is : memory' ≡ put_memory work.effect.place (value_word mode work.effect.value) memory
    unfolding carried_of
    memory_is = ap (λ (x : Carried). x.memory) carries

    -- a trap 1 to 4
    pub step_trapped : (failed_by e ≡ 0 → ⊥)
        → record { state = lent_state w' acc oflags sflags starts passes f; memory = memory'; trap = failed_by e; counted = false }
        ≡ stepped p settings (lent_state w acc oflags sflags starts passes f) memory
    unfolding stepped
    step_trapped n =
        let stays = trap_stays settings mode (lent_core w acc oflags starts passes f) memory o (λ z. n (trap_is ∙ z)) in
        let ew : w' ≡ w = ap (λ (x : Carried). x.w) carries ∙ stays.0 in
        let em : memory' ≡ memory = ap (λ (x : Carried). x.memory) carries ∙ stays.1 in
        rw (here, ← trap_is, ne_eqb (failed_by e) 0 n, ew, em)

    -- no trap: the result is written and the next operation due
    pub step_done : (acc' : List ℤ) (oflags' sflags' : List Bool) (starts' passes' : List ℕ) (r : Flow) (trap : ℕ)
        → failed_by e ≡ 0
        → control_of o ≡ Onward
        → record { state = lent_state w' acc' oflags' sflags' starts passes f; trap = trap }
        ≡ settle_of settings.traps mode (exact_in t e) (lent_state w' acc oflags sflags starts passes f)
        → lent_core w' acc' oflags' starts' passes' r ≡ advanced p (lent_core w' acc' oflags' starts passes f)
        → record { state = lent_state w' acc' oflags' sflags' starts' passes' r; memory = memory'; trap = trap; counted = true }
        ≡ stepped p settings (lent_state w acc oflags sflags starts passes f) memory
    unfolding stepped completed state_controlled controlled
    step_done acc' oflags' sflags' starts' passes' r trap free onward written next =
        rw (
          here,
          eq-eqb work.effect.trap 0 (sym trap_is ∙ free),
          ← exact_is,
          ← registers_are,
          ← memory_is,
          onward,
          ← written,
          next,
        )

-- no trap has number 0
pub trap_some : (t : Trap) → trap_number t ≡ 0 → ⊥
trap_some OddAddress z = absurd (omega arith)
trap_some OutsideRegion z = absurd (omega arith)
trap_some ShiftAmount z = absurd (omega arith)
trap_some LoopDepth z = absurd (omega arith)
trap_some LimitsLeft z = absurd (omega arith)
trap_some OverflowA z = absurd (omega arith)
trap_some OverflowB z = absurd (omega arith)

-- an operation with a result names an accumulator
pub writes_low : (settings : Settings) (mode : ℕ) (code : List ℕ) (at : ℕ) (acc : List ℤ) (w memory w' memory' : List ℕ) (r : Option ℤ) (c : Core)
    → kind_in code at ≤ 18 → Carries settings mode code at acc w memory w' memory' (Ok r) → (x : ℤ) → r ≡ Some x → kind_in code at ≤ 15
unfolding carried_of
writes_low settings mode code at acc w memory w' memory' r c high carries x some =
    elim (dec_le (kind_in code at) 15) [
      | yes k ↦ k
      | no k ↦
          let exact = ap (λ (x : Carried). x.exact) (carries c) ∙ moves_keep code at settings (mode_of mode) (core_with c w acc) memory (lt_of_not-le k) high in
          never (ap keeps (rw some at exact))
    ]
