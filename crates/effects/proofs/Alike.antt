-- What a work depends on: of two cores with the same registers and as many loops, whose accumulators are alike, every operation makes works that are alike.
-- A work reads neither pc, repeat left, the mode word nor a flag. Assumes nothing.
use Prim.Native.Nat.{ℕ}
use mathlib.Core.Bool.{Bool, true, false, not, ◌||◌, or-true}
use mathlib.Core.List.{List}
use mathlib.Core.Logic.{◌⊎◌, inl, inr}
use mathlib.Core.Path.{◌≡◌, refl, sym, ap}
use lib.Dec.{eqb}
use lib.IntN.{ℤ, pos, neg_ℤ, ◌+ℤ◌, ◌-ℤ◌}
use lib.ListN.{length, get_or}
use Rattle.integers.specs.Bits.{signed_of}
use Rattle.integers.proofs.Whole.{same_test}
use Rattle.accumulator.specs.Shift.{shift_allowed}
use Rattle.accumulator.specs.declared.mode.Mode.{Mode}
use Rattle.accumulator.specs.declared.mode.Target.{Target}
use Rattle.accumulator.specs.declared.mode.Target.TheVariants.{A, B}
use Rattle.operations.specs.Encode.{action_byte, write_back_byte, encode_of}
use Rattle.operations.specs.declared.operation.Action.{Action}
use Rattle.operations.specs.declared.operation.Action.TheVariants.{Clr, Mpy, Mac, Msc, Ed, Edac, Movsac}
use Rattle.operations.specs.declared.operation.WriteBack.{WriteBack}
use Rattle.operations.specs.declared.operation.WriteBack.TheVariants.{None as NoWriteBack, Register as ToRegister, Memory as ToMemory}
use Rattle.operations.specs.declared.operation.Operand.{Operand}
use Rattle.operations.specs.declared.operation.MacClass.{MacClass}
use Rattle.operations.specs.declared.operation.Operation.{Operation}
use Rattle.operations.specs.declared.operation.Operation.TheVariants.{MacClass as MacOperation, AddAccumulators, Subtract, Negate, Shift, Lac, Add, Sac}
use Rattle.operations.specs.declared.operation.Operation.TheVariants.{SacR, Literal, Load, Store, Repeat, RepeatRegister, Do, DoRegister, EndEarly, SetMode}
use Rattle.operations.specs.declared.operation.Operation.TheVariants.{ClearSaturation}
use Rattle.state.specs.State.{register, accumulator_of, other_of, go_to}
use Rattle.state.specs.declared.settings.Settings.{Settings}
use Rattle.state.specs.declared.state.Loops.{Loops}
use Rattle.state.specs.declared.state.Core.{Core}
use Rattle.effects.specs.Access.{operand_access, back_access, changed}
use Rattle.effects.specs.Effect.{Work, blocked, results, stores}
use Rattle.effects.specs.Mac.{exact_by, mac_product, mac_square, mac_exact, mac_accesses, mac_trap, mac_work}
use Rattle.effects.specs.Operations.{shift_work, load_work, store_work, scaled_of, move_work, loop_work, work_of}
use Rattle.effects.specs.declared.access.Place.{Place}
use Rattle.effects.specs.declared.access.Place.TheVariants.{Nowhere}
use Rattle.effects.specs.declared.pointer.Purpose.TheVariants.{Read, Store as Storing}
use Rattle.effects.specs.declared.effect.Exact.{Exact}
use Rattle.effects.specs.declared.effect.Exact.TheVariants.{Keep, Replace}
use Rattle.effects.specs.declared.effect.Value.{Value}
use Rattle.effects.specs.declared.effect.Value.TheVariants.{Word, Scaled}

-- ---- works alike

-- a relation between accumulators that sums, differences and opposites keep
pub record Congruence (R : ℤ → ℤ → Type 0) : Type 0 where
  pub self : (v : ℤ) → R v v
  pub sum : {u u' v v' : ℤ} → R u u' → R v v' → R (u +ℤ v) (u' +ℤ v')
  pub less : {u u' v v' : ℤ} → R u u' → R v v' → R (u -ℤ v) (u' -ℤ v')
  pub opposite : {v v' : ℤ} → R v v' → R (neg_ℤ v) (neg_ℤ v')

-- exact results for the same accumulator
pub data ExactsAlike (R : ℤ → ℤ → Type 0) : Exact → Exact → Type 0 where
  keep : ExactsAlike R Keep Keep
  replace : (t : Target) {r r' : ℤ} → R r r' → ExactsAlike R (Replace t r) (Replace t r')

-- values rounded alike
pub data ValuesAlike (R : ℤ → ℤ → Type 0) : Value → Value → Type 0 where
  word : (x : ℕ) → ValuesAlike R (Word x) (Word x)
  scaled : (rounded : Bool) {v v' : ℤ} → R v v' → ValuesAlike R (Scaled rounded v) (Scaled rounded v')

-- the same registers, trap and place; a value that is stored is the same
pub record WorksAlike (R : ℤ → ℤ → Type 0) (u v : Work) : Type 0 where
  pub registers : u.w ≡ v.w
  pub trap : u.effect.trap ≡ v.effect.trap
  pub exact : ExactsAlike R u.effect.exact v.effect.exact
  pub place : u.effect.place ≡ v.effect.place
  pub value : ValuesAlike R u.effect.value v.effect.value
  pub stored : (u.effect.place ≡ Nowhere) ⊎ (u.effect.value ≡ v.effect.value)

-- kinds 11, 14, 15 and those with a write-back read all of an accumulator, not its sums alone
unfoldable pub reads_whole : Operation → Bool
reads_whole o = eqb (get_or (encode_of o) 0 0) 11 || (eqb (get_or (encode_of o) 0 0) 14 || (eqb (get_or (encode_of o) 0 0) 15 || not (eqb (get_or (encode_of o) 6 0) 0)))

module _ (R : ℤ → ℤ → Type 0) (law : Congruence R) where
  blocked_alike : (w : List ℕ) (trap : ℕ) → WorksAlike R (blocked w trap) (blocked w trap)
  blocked_alike w trap = record { registers = refl; trap = refl; exact = keep; place = refl; value = word 0; stored = inr refl }

  results_alike : (w : List ℕ) (t : Target) {r r' : ℤ} → R r r' → WorksAlike R (results w t r) (results w t r')
  results_alike w t h = record { registers = refl; trap = refl; exact = replace t h; place = refl; value = word 0; stored = inr refl }

  value_self : (v : Value) → ValuesAlike R v v
  value_self (Word x) = word x
  value_self (Scaled rounded v) = scaled rounded (law.self v)

  stores_alike : (w : List ℕ) (place : Place) (v : Value) → WorksAlike R (stores w place v) (stores w place v)
  stores_alike w place v = record { registers = refl; trap = refl; exact = keep; place = refl; value = value_self v; stored = inr refl }

  exact_by_lem : (action : Action) (t : Target) {v v' : ℤ} (p square : ℤ) → R v v' → ExactsAlike R (exact_by action t v p square) (exact_by action t v' p square)
  unfolding exact_by
  exact_by_lem Clr t p square h = replace t (law.self _)
  exact_by_lem Mpy t p square h = replace t (law.self _)
  exact_by_lem Mac t p square h = replace t (law.sum h (law.self p))
  exact_by_lem Msc t p square h = replace t (law.less h (law.self p))
  exact_by_lem Ed t p square h = replace t (law.self _)
  exact_by_lem Edac t p square h = replace t (law.sum h (law.self square))
  exact_by_lem Movsac t p square h = keep

  whole_mac : (k : MacClass) → not (eqb (write_back_byte k.back) 0) ≡ true → reads_whole (MacOperation k) ≡ true
  unfolding reads_whole encode_of
  whole_mac k e = rw (e, or-true (eqb (action_byte k.action) 15), or-true (eqb (action_byte k.action) 14), or-true (eqb (action_byte k.action) 11))

  -- ---- two cores

  module _ (s : Settings) (m : Mode) (memory : List ℕ) (c : Core) (a b : ℤ) (pc : ℕ) (l : Loops) (left mode : ℕ) (oa ob : Bool)
      (depth : l.depth ≡ c.loops.depth) (like-a : R c.a a) (like-b : R c.b b) where
    -- the same registers; all else another's
    abbrev c' : Core
    c' = record { w = c.w; a = a; b = b; pc = pc; loops = l; repeat = left; mode = mode; oa = oa; ob = ob }

    like : (t : Target) → R (accumulator_of c t) (accumulator_of c' t)
    like A = like-a
    like B = like-b

    -- what write-back stores, where it stores, is the same
    back_stored : (back : WriteBack) {v v' : ℤ} → (not (eqb (write_back_byte back) 0) ≡ true → v ≡ v')
        → ((back_access s back c.w (length memory)).place ≡ Nowhere) ⊎ (Scaled true v ≡ Scaled true v')
    unfolding back_access
    back_stored NoWriteBack same = inl refl
    back_stored ToRegister same = inr (ap (Scaled true) (same refl))
    back_stored ToMemory same = inr (ap (Scaled true) (same refl))

    mac_alike : (k : MacClass) → (not (eqb (write_back_byte k.back) 0) ≡ true → (t : Target) → accumulator_of c t ≡ accumulator_of c' t)
        → WorksAlike R (mac_work s m k c memory) (mac_work s m k c' memory)
    unfolding mac_work mac_accesses mac_exact
    mac_alike k same =
        let x = mac_accesses s k c.w (length memory) in
        same_test (WorksAlike R) (eqb (mac_trap x) 0)
        (λ e.
        record {
          registers = refl;
          trap = refl;
          exact = exact_by_lem k.action k.target (mac_product m k c.w) (mac_square m k c.w) (like k.target);
          place = refl;
          value = scaled true (like (other_of k.target));
          stored = back_stored k.back (λ e. same e (other_of k.target));
        })
        (λ e. blocked_alike c.w (mac_trap x))

    shift_alike : (t : Target) (n : ℤ) → accumulator_of c t ≡ accumulator_of c' t → WorksAlike R (shift_work t n c) (shift_work t n c')
    unfolding shift_work
    shift_alike t n same =
        same_test (WorksAlike R) (shift_allowed n) (λ e. rw same (results_alike c.w t (law.self _))) (λ e. blocked_alike c.w 3)

    load_alike : (t : Target) {v v' : ℤ} (b2 : ℕ) (from : Operand) → R v v' → WorksAlike R (load_work s t v b2 from c memory) (load_work s t v' b2 from c' memory)
    unfolding load_work
    load_alike t b2 from h =
        let x = operand_access s Read from c.w (length memory) in
        same_test (WorksAlike R) (eqb x.trap 0) (λ e. results_alike (changed x.change c.w) t (law.sum h (law.self _)))
        (λ e. blocked_alike c.w x.trap)

    store_alike : (to : Operand) (v : Value) → WorksAlike R (store_work s to v c memory) (store_work s to v c' memory)
    unfolding store_work
    store_alike to v =
        let x = operand_access s Storing to c.w (length memory) in
        same_test (WorksAlike R) (eqb x.trap 0) (λ e. stores_alike (changed x.change c.w) x.place v) (λ e. blocked_alike c.w x.trap)

    -- a value of an accumulator
    sac_alike : (to : Operand) (rounded : Bool) (t : Target) (b2 : ℕ) → accumulator_of c t ≡ accumulator_of c' t
        → WorksAlike R (store_work s to (Scaled rounded (scaled_of c t b2)) c memory) (store_work s to (Scaled rounded (scaled_of c' t b2)) c' memory)
    sac_alike to rounded t b2 same = rw (← same) (store_alike to (Scaled rounded (scaled_of c t b2)))

    self_alike : (u : Work) → WorksAlike R u u
    self_alike u =
        record { registers = refl; trap = refl; exact = exact_self u.effect.exact; place = refl; value = value_self u.effect.value; stored = inr refl }
      where
        exact_self : (e : Exact) → ExactsAlike R e e
        exact_self Keep = keep
        exact_self (Replace t r) = replace t (law.self r)

    loop_alike : WorksAlike R (loop_work c) (loop_work c')
    unfolding loop_work
    loop_alike = rw depth (self_alike (loop_work c))

    pub work_alike : (o : Operation) → (reads_whole o ≡ true → (t : Target) → accumulator_of c t ≡ accumulator_of c' t)
        → WorksAlike R (work_of s m o c memory) (work_of s m o c' memory)
    unfolding work_of move_work reads_whole encode_of
    work_alike (MacOperation k) same = mac_alike k (λ e. same (whole_mac k e))
    work_alike (AddAccumulators t) same = results_alike c.w t (law.sum like-a like-b)
    work_alike (Subtract t) same = results_alike c.w t (law.less (like t) (like (other_of t)))
    work_alike (Negate t) same = results_alike c.w t (law.opposite (like t))
    work_alike (Shift t r) same = shift_alike t (signed_of 16 (register c.w r)) (same refl t)
    work_alike (Lac t b2 from) same = load_alike t b2 from (law.self (pos 0))
    work_alike (Add t b2 from) same = load_alike t b2 from (like t)
    work_alike (Sac t b2 to) same = sac_alike to false t b2 (same refl t)
    work_alike (SacR t b2 to) same = sac_alike to true t b2 (same refl t)
    work_alike (Literal r v) same = self_alike _
    work_alike (Load r p post) same = self_alike _
    work_alike (Store r p post) same = store_alike _ (Word (register c.w r))
    work_alike (Repeat n) same = self_alike _
    work_alike (RepeatRegister r) same = self_alike _
    work_alike (Do n last) same = loop_alike
    work_alike (DoRegister r last) same = loop_alike
    work_alike EndEarly same = self_alike _
    work_alike (SetMode x) same = self_alike _
    work_alike ClearSaturation same = self_alike _

-- ---- equal accumulators

equal_works : (u v : Work) → WorksAlike (λ x y. x ≡ y) u v → u ≡ v
equal_works u v h =
    λ i. record { w = h.registers i; effect = record { trap = h.trap i; exact = equal_exact h.exact i; place = h.place i; value = equal_value h.value i } }
  where
    equal_exact : {e e' : Exact} → ExactsAlike (λ x y. x ≡ y) e e' → e ≡ e'
    equal_exact keep = refl
    equal_exact (replace t h) = ap (Replace t) h

    equal_value : {e e' : Value} → ValuesAlike (λ x y. x ≡ y) e e' → e ≡ e'
    equal_value (word x) = refl
    equal_value (scaled rounded h) = ap (Scaled rounded) h

-- a work reads neither pc nor repeat left, and of the loops their number alone
pub work_elsewhere : (s : Settings) (m : Mode) (memory : List ℕ) (c : Core) (pc : ℕ) (l : Loops) (left : ℕ) → l.depth ≡ c.loops.depth → (o : Operation)
    → work_of s m o (go_to c pc l left) memory ≡ work_of s m o c memory
work_elsewhere s m memory c pc l left depth o =
    sym (equal_works _ _ (work_alike (λ x y. x ≡ y) equality s m memory c c.a c.b pc l left c.mode c.oa c.ob depth refl refl o (λ e. same)))
  where
    equality : Congruence (λ (x y : ℤ). x ≡ y)
    equality =
        record {
          self = λ v. refl;
          sum = λ h k. rw (h, k);
          less = λ h k. rw (h, k);
          opposite = λ h. ap neg_ℤ h;
        }

    same : (t : Target) → accumulator_of c t ≡ accumulator_of (go_to c pc l left) t
    same A = refl
    same B = refl
