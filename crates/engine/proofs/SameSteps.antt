-- A step of the engine with both saturations off and trap word 0, and the step of the ledger that goes on, keep what they have in common. Assumes nothing.
use Prim.Native.Nat.{ℕ}
use mathlib.Core.Bool.{Bool, false, cond, and-false}
use mathlib.Core.List.{List}
use mathlib.Core.Path.{◌≡◌, refl, sym, ap, ◌∙◌, subst}
use lib.Dec.{eqb}
use lib.IntN.{ℤ}
use Rattle.integers.specs.Bits.{low_bits, SameModulo}
use Rattle.integers.proofs.Whole.{neither, same_test}
use Rattle.accumulator.specs.Mode.{mode_of, saturates}
use Rattle.accumulator.specs.Limit.{overflows, write_of}
use Rattle.accumulator.specs.declared.mode.Target.{Target}
use Rattle.accumulator.specs.declared.mode.Target.TheVariants.{A, B}
use Rattle.accumulator.proofs.Writing.{kept_modulo}
use Rattle.operations.specs.Encode.{encode_of}
use Rattle.operations.specs.declared.operation.Operation.{Operation}
use Rattle.state.specs.State.{accumulator_at, with_registers, with_written}
use Rattle.state.specs.declared.settings.Settings.{Settings}
use Rattle.state.specs.declared.state.Core.{Core}
use Rattle.state.specs.declared.state.State.{State}
use Rattle.effects.specs.Effect.{Work}
use Rattle.effects.specs.Operations.{work_of}
use Rattle.effects.specs.declared.effect.Exact.{Exact}
use Rattle.effects.proofs.Alike.{ExactsAlike}
use Rattle.effects.proofs.Alike.ExactsAlike.{keep, replace}
use Rattle.machine.specs.Write.{settle_of, value_word, put_register, put_memory}
use Rattle.machine.specs.Control.{control_of, controlled, state_controlled}
use Rattle.machine.specs.Step.{Step, operation_at, state_after, uncounted, completed, stepped}
use Rattle.machine.proofs.Works.{no_overflow_trap, no_trap}
use Rattle.machine.proofs.Order.{with_sums, controlled_sums, mode_after, controlled_frame}
use Rattle.endings.specs.declared.ending.Ending.TheVariants.{Trap}
use Rattle.runs.specs.Run.{Turn, complete}
use Rattle.runs.specs.Run.Stop.{ended}
use Rattle.runs.specs.Run.Turn.{over}
use Rattle.runs.specs.Engine.{Engine, turn_of, engine_turn}
use Rattle.runs.specs.Ledger.{Entry, Ledger, exact_trap, keep_exact, exact_turn}
use Rattle.runs.specs.Ledger.Beyond.{goes_on}
use Rattle.runs.specs.Wraps.{is_barred, holds_barred, is_saturating}
use Rattle.runs.proofs.Holds.{holds_none}
use Rattle.legs.proofs.Runs.{TurnsAlike}
use Rattle.engine.proofs.SameWorks.{SameWork, unbarred}

-- ---- what they have in common

-- the ledger with everything of an engine but A, B and the O flags
abbrev pub ledger_of : Engine → ℤ → ℤ → Bool → Bool → List Entry → Ledger
ledger_of x a b oa ob l = record { core = with_sums x.state.core a b oa ob; memory = x.memory; stores = l }

-- both saturations are off; A and B are equal modulo 2^40, and all else but the flags is equal
pub record Going (x : Engine) (y : Ledger) : Type 0 where
  pub off : is_saturating x.state.core.mode ≡ false
  pub a : SameModulo 40 x.state.core.a y.core.a
  pub b : SameModulo 40 x.state.core.b y.core.b
  pub rest : y ≡ ledger_of x y.core.a y.core.b y.core.oa y.core.ob y.stores

-- the ledger that goes on never stops "left"
abbrev pub Nowhere : Engine → Type 0
Nowhere x = ⊥

-- neither saturates
off_each : (word : ℕ) → is_saturating word ≡ false → (t : Target) → saturates (mode_of word) t ≡ false
unfolding is_saturating
off_each word h A = (neither (saturates (mode_of word) A) (saturates (mode_of word) B) h).0
off_each word h B = (neither (saturates (mode_of word) A) (saturates (mode_of word) B) h).1

-- ---- trap word 0

no_exact_trap : (t : Target) (r : ℤ) → exact_trap 0 t r ≡ 0
unfolding exact_trap
no_exact_trap t r = rw (no_overflow_trap t, and-false (overflows r))

-- ---- the exact result and the order of execution

module _ (p : List Operation) (o : Operation) (leaves : (word : ℕ) → mode_after (control_of o) word ≡ word) where
  control_going : (s : State) (memory : List ℕ) (l : List Entry) (a b : ℤ) (oa ob : Bool)
      → is_saturating s.core.mode ≡ false → SameModulo 40 s.core.a a → SameModulo 40 s.core.b b
      → Going (record { state = state_controlled p (control_of o) s; memory = memory })
      (record { core = controlled p (control_of o) (with_sums s.core a b oa ob); memory = memory; stores = l })
  unfolding state_controlled
  control_going s memory l a b oa ob off ha hb =
      let k = control_of o in
      let frame = controlled_frame p k s.core in
      rw (controlled_sums p a b oa ob k s.core)
      (record {
        off = rw (ap (λ (c : Core). c.mode) frame ∙ leaves s.core.mode) off;
        a = record { low = ap (λ (c : Core). low_bits 40 c.a) frame ∙ ha.low };
        b = record { low = ap (λ (c : Core). low_bits 40 c.b) frame ∙ hb.low };
        rest = refl;
      })

  -- the engine writes its exact result, the ledger keeps its own
  settle_going : {e e' : Exact} → ExactsAlike (SameModulo 40) e e' → (s : State) (memory : List ℕ) (l : List Entry) (a b : ℤ) (oa ob : Bool)
      → is_saturating s.core.mode ≡ false → SameModulo 40 s.core.a a → SameModulo 40 s.core.b b
      → let m = mode_of s.core.mode in
      TurnsAlike Going Nowhere
      (complete (settle_of 0 m e s).trap (record { state = state_controlled p (control_of o) (settle_of 0 m e s).state; memory = memory }))
      (keep_exact goes_on p 0 m o e' (with_sums s.core a b oa ob) memory l)
  unfolding settle_of keep_exact write_of
  settle_going keep s memory l a b oa ob off ha hb = record { machine = _; is = refl; there = control_going s memory l a b oa ob off ha hb }
  settle_going (replace A {r} {r'} h) s memory l a b oa ob off ha hb =
      let m = mode_of s.core.mode in
      rw (no_trap m A r, no_exact_trap A r')
      (record {
        machine = _;
        is = refl;
        there =
            control_going (with_written s A (write_of (accumulator_at s A) m A r)) memory l r' b (overflows r') ob off
            (record { low = (kept_modulo m A r (off_each s.core.mode off A)).low ∙ h.low }) hb;
      })
  settle_going (replace B {r} {r'} h) s memory l a b oa ob off ha hb =
      let m = mode_of s.core.mode in
      rw (no_trap m B r, no_exact_trap B r')
      (record {
        machine = _;
        is = refl;
        there =
            control_going (with_written s B (write_of (accumulator_at s B) m B r)) memory l a r' oa (overflows r') off ha
            (record { low = (kept_modulo m B r (off_each s.core.mode off B)).low ∙ h.low });
      })

-- ---- a step

module _ (p : List Operation) (settings : Settings) (none : holds_barred p ≡ false) (untrapped : settings.traps ≡ 0) where
  -- no operation at pc is barred
  none_barred : (i : ℕ) → is_barred (operation_at p i) ≡ false
  unfolding is_barred encode_of
  none_barred i = holds_none is_barred refl p i none

  -- the turns of engine and ledger whose operation comes to u and to v
  work_going : (o : Operation) → ((word : ℕ) → mode_after (control_of o) word ≡ word) → (x : Engine) (l : List Entry) (a b : ℤ) (oa ob : Bool)
      → is_saturating x.state.core.mode ≡ false → SameModulo 40 x.state.core.a a → SameModulo 40 x.state.core.b b
      → (u v : Work)
      → let m = mode_of x.state.core.mode in
      SameWork m u v
      → TurnsAlike Going Nowhere
      (turn_of (cond (eqb u.effect.trap 0) (completed p settings m o u x.state x.memory) (uncounted x.state x.memory u.effect.trap)))
      (cond (eqb v.effect.trap 0)
      (keep_exact goes_on p settings.traps m o v.effect.exact
      (with_registers (with_sums x.state.core a b oa ob) (put_register v.effect.place (value_word m v.effect.value) v.w))
      (put_memory v.effect.place (value_word m v.effect.value) x.memory) l)
      (over (ended (Trap v.effect.trap))))
  unfolding completed
  work_going o leaves x l a b oa ob off ha hb u v h =
      rw (sym h.trap, sym h.registers, sym (h.memory x.memory), untrapped)
      (same_test (λ (r : Step) (t : Turn Ledger). TurnsAlike Going Nowhere (turn_of r) t) (eqb u.effect.trap 0)
      (λ e. settle_going p o leaves h.exact (state_after (mode_of x.state.core.mode) u x.state) _ l a b oa ob off ha hb) (λ e. refl))

  turn_going : (k : ℕ) (x : Engine) (l : List Entry) (a b : ℤ) (oa ob : Bool)
      → is_saturating x.state.core.mode ≡ false → SameModulo 40 x.state.core.a a → SameModulo 40 x.state.core.b b
      → TurnsAlike Going Nowhere (engine_turn p settings x) (exact_turn goes_on p settings k (ledger_of x a b oa ob l))
  unfolding engine_turn stepped exact_turn
  turn_going k x l a b oa ob off ha hb =
      let c = x.state.core in
      let m = mode_of c.mode in
      let o = operation_at p c.pc in
      let h = unbarred settings m c x.memory a b oa ob ha hb o (none_barred c.pc) in
      work_going o h.mode x _ a b oa ob off ha hb (work_of settings m o c x.memory) (work_of settings m o (with_sums c a b oa ob) x.memory) h.work

  pub step_going : (k : ℕ) (x : Engine) (y : Ledger) → Going x y → TurnsAlike Going Nowhere (engine_turn p settings x) (exact_turn goes_on p settings k y)
  step_going k x y h =
      subst (λ (z : Ledger). TurnsAlike Going Nowhere (engine_turn p settings x) (exact_turn goes_on p settings k z)) (sym h.rest)
      (turn_going k x y.stores y.core.a y.core.b y.core.oa y.core.ob h.off h.a h.b)
