-- Each store on the ledger's list is right in the engine: its word, and to half a unit where it is rounded and needed no limiting. Assumes nothing.
use Prim.Native.Nat.{ℕ, suc, ◌+◌, ◌<◌}
use mathlib.Core.Bool.{Bool, true, false}
use mathlib.Core.Path.{◌≡◌, refl, sym, ap, ◌∙◌, subst}
use mathlib.Core.Logic.{⊎_elim}
use mathlib.Core.List.Memᴰ
use mathlib.Core.List.{List, [], Memᴰ}
use native.Mathlib.Nat.{add-suc, suc-add, zero-add}
use native.Mathlib.Numerals.{add-one}
use lib.Dec.{eqb}
use lib.IntN.{ℤ}
use lib.ListN.{length, get_or}
use lib.Seq.{get_or-set_same}
use Rattle.integers.specs.Bits.{signed_of}
use Rattle.integers.proofs.Whole.{by_test, never}
use Rattle.accumulator.specs.Mode.{mode_of}
use Rattle.accumulator.specs.Limit.{has_left, overflows}
use Rattle.accumulator.specs.Store.{store_of, HalfUnit}
use Rattle.accumulator.specs.declared.mode.Mode.{Mode}
use Rattle.accumulator.specs.declared.mode.Target.{Target}
use Rattle.accumulator.specs.declared.mode.Target.TheVariants.{A, B}
use Rattle.accumulator.proofs.Rounding.{half_unit}
use Rattle.operations.specs.Listed.{is_listed}
use Rattle.operations.specs.declared.operation.Operation.{Operation}
use Rattle.state.specs.State.{with_accumulator}
use Rattle.state.specs.declared.settings.Settings.{Settings}
use Rattle.state.specs.declared.state.Core.{Core}
use Rattle.effects.specs.Effect.{Work}
use Rattle.effects.specs.Operations.{work_of}
use Rattle.effects.specs.declared.access.Place.{Place}
use Rattle.effects.specs.declared.access.Place.TheVariants.{Nowhere, Register, Memory}
use Rattle.effects.specs.declared.effect.Exact.{Exact}
use Rattle.effects.specs.declared.effect.Exact.TheVariants.{Keep, Replace}
use Rattle.effects.specs.declared.effect.Value.{Value}
use Rattle.effects.specs.declared.effect.Value.TheVariants.{Word, Scaled}
use Rattle.machine.specs.Write.{value_word, put_register, put_memory}
use Rattle.machine.specs.Control.{control_of, controlled}
use Rattle.machine.specs.Step.{operation_at}
use Rattle.machine.specs.declared.control.Control.{Control}
use Rattle.runs.specs.Run.{Turn, Result, run}
use Rattle.runs.specs.Run.Turn.{over, last, next}
use Rattle.runs.specs.Engine.{Engine, engine_turn, engine_from, engine_run}
use Rattle.runs.specs.Ledger.{Entry, is_stored, with_store, Ledger, exact_trap, keep_exact, exact_turn, ledger_done, exact_run, ledger_run}
use Rattle.runs.specs.Ledger.Beyond.{stops}
use Rattle.runs.specs.Exact.{holds_clear, word_in, stored_at}
use Rattle.legs.proofs.Runs.{Keeps, run_keeps}
use Rattle.engine.proofs.Agree.{cleared, clear, Follows, turn_follows}
use Rattle.machine.proofs.Order.{controlled_frame}
use Rattle.machine.proofs.Words.{put_long}
use Rattle.machine.proofs.Places.{Fits, work_fitted, listed_at}

-- ---- the order of execution leaves the registers

module _ (p : List Operation) where
  abbrev Same : Core → Core → Type 0
  Same c d = d.w ≡ c.w

  controlled_w : (k : Control) (c : Core) → Same c (controlled p k c)
  controlled_w k c = ap (λ (d : Core). d.w) (controlled_frame p k c)

  -- so does the exact result: after the ledger's turn P holds, where it holds with any core of these registers
  kept_leaves : (P : Ledger → Type 0) (traps : ℕ) (m : Mode) (o : Operation) (e : Exact) (c : Core) (memory : List ℕ) (l : List Entry)
      → ((d : Core) → Same c d → P (record { core = d; memory = memory; stores = l })) → Keeps P P (keep_exact stops p traps m o e c memory l)
  unfolding keep_exact
  kept_leaves P traps m o Keep c memory l h = h _ (controlled_w (control_of o) c)
  kept_leaves P traps m o (Replace t r) c memory l h =
      let kept = h _ (controlled_w (control_of o) (with_accumulator c t r (overflows r)) ∙ written_w t) in
      by_test (Keeps P P) (has_left m t r) (λ e. tt) (λ e. by_test (Keeps P P) (eqb (exact_trap traps t r) 0) (λ f. kept) (λ f. kept))
    where
      written_w : (t : Target) → Same c (with_accumulator c t r (overflows r))
      written_w A = refl
      written_w B = refl

-- ---- a store

-- a word stored to a place of the machine stands there
put_stands : (place : Place) (x : ℕ) (w memory : List ℕ) (d : Core) → length w ≡ 14 → Fits (length memory) place
    → d.w ≡ put_register place x w → is_stored place ≡ true
    → word_in (record { state = cleared d; memory = put_memory place x memory }) place ≡ x
unfolding word_in put_register put_memory
put_stands Nowhere x w memory d long fits e there = never there
put_stands (Register r) x w memory d long fits e there = ap (λ (u : List ℕ). get_or u r 0) e ∙ get_or-set_same w r x 0 (rw long fits)
put_stands (Memory i) x w memory d long fits e there = get_or-set_same memory i.0 x 0 fits

-- a rounded store
store_right : (m : Mode) (rounded : Bool) (v : ℤ) → rounded ≡ true → (store_of m rounded v).limiting ≡ false → HalfUnit (store_of m rounded v).word v
store_right m true v h = half_unit m v
store_right m false v h = never h

-- ---- a step of the ledger

module _ (p : List Operation) (settings : Settings) (ok : (i : ℕ) → i < length p → is_listed (operation_at p i) ≡ true) where
  -- the mode and the work of the operation at pc
  abbrev mode_at : Ledger → Mode
  mode_at y = mode_of y.core.mode

  abbrev work_at : Ledger → Work
  work_at y = work_of settings (mode_at y) (operation_at p y.core.pc) y.core y.memory

  -- y' is y after its step, the k-th
  record After (k : ℕ) (y y' : Ledger) : Type 0 where
    long : length y'.core.w ≡ 14
    lists : y'.stores ≡ with_store (mode_at y) k (work_at y).effect.place (work_at y).effect.value y.stores
    stands : is_stored (work_at y).effect.place ≡ true → word_in (clear y') (work_at y).effect.place ≡ value_word (mode_at y) (work_at y).effect.value

  turn_leaves : (k : ℕ) (y : Ledger) → length y.core.w ≡ 14 → Keeps (After (suc k) y) (After (suc k) y) (exact_turn stops p settings k y)
  unfolding exact_turn
  turn_leaves k y long =
      let place = (work_at y).effect.place in
      let word = value_word (mode_at y) (work_at y).effect.value in
      let fitted = work_fitted settings (mode_at y) y.core y.memory (operation_at p y.core.pc) (listed_at p ok y.core.pc) in
      by_test (Keeps (After (suc k) y) (After (suc k) y)) (eqb (work_at y).effect.trap 0)
      (λ e.
      kept_leaves p (After (suc k) y) settings.traps (mode_at y) (operation_at p y.core.pc) (work_at y).effect.exact _ _ _
      (λ d h.
      record {
        long = ap length h ∙ put_long place word (work_at y).w ∙ fitted.long ∙ long;
        lists = refl;
        stands = put_stands place word (work_at y).w y.memory d (fitted.long ∙ long) fitted.place h;
      }))
      (λ e. tt)

  -- ---- along a run from a start

  module _ (none : holds_clear p ≡ false) (start : Core) (memory : List ℕ) where
    -- the engine's machine after k steps
    abbrev engine_at : ℕ → Engine
    engine_at k = (engine_run p settings k (cleared start) memory).machine

    -- a store is right: the engine's word is the listed one, and half a unit off at most where it is rounded and needed no limiting
    pub record Right (e : Entry) : Type 0 where
      pub word : signed_of 16 (stored_at p settings (cleared start) memory e) ≡ e.word
      pub half : e.rounded ≡ true → e.limiting ≡ false → HalfUnit (stored_at p settings (cleared start) memory e) e.value

    -- each of a list
    abbrev pub Rights : List Entry → Type 0
    Rights l = (e : Entry) → Memᴰ e l → Right e

    -- the ledger is y after k steps: the engine's run from the start goes through it, and the stores listed so far are right
    record Reached (k : ℕ) (y : Ledger) : Type 0 where
      long : length y.core.w ≡ 14
      through : (n : ℕ) → engine_run p settings (k + n) (cleared start) memory ≡ engine_from p settings n k (clear y)
      rights : Rights y.stores

    -- the store of step k, put on the list
    rights_listed : (m : Mode) (k : ℕ) (place : Place) (x : Value) (l : List Entry)
        → (is_stored place ≡ true → word_in (engine_at k) place ≡ value_word m x) → Rights l → Rights (with_store m k place x l)
    unfolding with_store value_word
    rights_listed m k place (Word x) l h r = r
    rights_listed m k place (Scaled rounded v) l h r =
        by_test Rights (is_stored place)
        (λ there e i.
        ⊎_elim (λ q. subst Right (sym q) (record { word = ap (signed_of 16) (h there); half = λ f g. rw (h there) (store_right m rounded v f g) })) (r e) (Memᴰ.cases_cons i))
        (λ away. r)

    -- the list after the next step
    rights_after : (k : ℕ) (y y' : Ledger) → Reached k y → After (suc k) y y' → (engine_from p settings 1 k (clear y)).machine ≡ clear y'
        → Rights y'.stores
    rights_after k y y' reached a e =
        let at : engine_at (suc k) ≡ clear y' = ap engine_at (sym (add-one k)) ∙ ap (λ (r : Result Engine). r.machine) (reached.through 1) ∙ e in
        rw a.lists
        (rights_listed (mode_at y) (suc k) (work_at y).effect.place (work_at y).effect.value y.stores
        (λ there. ap (λ (x : Engine). word_in x (work_at y).effect.place) at ∙ a.stands there) reached.rights)

    -- and where the run is
    reached_after : (k : ℕ) (y : Ledger) (u : Turn Ledger) → ledger_done p y ≡ false → Reached k y → Follows (engine_turn p settings (clear y)) u
        → Keeps (After (suc k) y) (After (suc k) y) u → Keeps (Reached (suc k)) (λ (y' : Ledger). Rights y'.stores) u
    unfolding run
    reached_after k y (over e) d reached f a = tt
    reached_after k y (last e y') d reached f a = rights_after k y y' reached a (rw (d, f.is) f.there)
    reached_after k y (next y') d reached f a =
        record {
          long = a.long;
          through =
              λ n.
              ap (λ (b : ℕ). engine_run p settings b (cleared start) memory) (suc-add k n ∙ sym (add-suc k n))
              ∙ reached.through (suc n)
              ∙ rw (d, f.is) (ap (engine_from p settings n (suc k)) f.there);
          rights = rights_after k y y' reached a (rw (d, f.is) f.there);
        }

    pub run_rights : (budget : ℕ) → length start.w ≡ 14 → Rights (ledger_run p settings budget start memory).machine.stores
    unfolding engine_run exact_run
    run_rights budget long =
        run_keeps (ledger_done p) (exact_turn stops p settings) Reached (λ (y : Ledger). Rights y.stores) (λ k y h. h.rights)
        (λ k y d h. reached_after k y (exact_turn stops p settings k y) d h (turn_follows p settings none k y) (turn_leaves k y h.long))
        budget 0 (record { core = start; memory = memory; stores = [] })
        (record { long = long; through = λ n. rw zero-add; rights = λ e i. absurd (Memᴰ.not-nil i) })
