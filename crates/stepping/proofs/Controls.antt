-- A step of kinds 19 to 25 put together: no effect but on repeat left, loops, pc, the mode word or the flags. Assumes nothing.
use Prim.Native.Nat.{ℕ, ◌≤◌, ◌<◌}
use mathlib.Core.Path.{◌≡◌, sym, ◌∙◌}
use mathlib.Core.Bool.{Bool, true, false}
use mathlib.Core.List.{List, [], ◌∷◌}
use mathlib.Core.Logic.{⊎_elim}
use native.Mathlib.Decide.{dec_le}
use native.Mathlib.Nat.{eq-or-lt_of_le, lt_of_not-le}
use native.Mathlib.Omega.{arith}
use borrow.Author.Tests.{ne_eqb, lt-ltb, le-ltb}
use lib.IntN.{ℤ}
use Rattle.accumulator.specs.Mode.{mode_of}
use Rattle.operations.specs.declared.operation.Operation.{Operation}
use Rattle.operations.specs.declared.operation.Operation.TheVariants.{EndEarly, SetMode, ClearSaturation}
use Rattle.state.specs.declared.settings.Settings.{Settings}
use Rattle.state.specs.declared.state.Core.{Core}
use Rattle.state.specs.declared.state.State.{State}
use Rattle.effects.specs.Effect.{Work, blocked, quiet}
use Rattle.effects.specs.Operations.{loop_work, work_of}
use Rattle.machine.specs.Control.{control_of, controlled, advanced, ended_early, clears, state_controlled}
use Rattle.machine.specs.Step.{operation_at, completed, stepped}
use Rattle.machine.specs.Write.{put_register, put_memory, settle_of}
use Rattle.form.specs.Words.{field, kind_in, coded_at}
use Rattle.sequencer.specs.Lent.{lent_core, lent_state}
use Rattle.sequencer.specs.declared.flow.Flow.{Flow}
use Rattle.sequencer.proofs.Begins.{control_in_lem, repeat_in, repeat_register_in, do_in, do_register_in}

-- ---- the work

module _ (settings : Settings) (p : List Operation) (o : Operation) (f : Flow) (acc : List ℤ) (oflags sflags : List Bool) (w starts passes memory : List ℕ)
    (here : operation_at p f.pc ≡ o) where
  abbrev work : Work
  work = work_of settings (mode_of f.mode) o (lent_core w acc oflags starts passes f) memory

  -- trap 4
  pub step_blocked : (trap : ℕ) → work ≡ blocked w trap → (trap ≡ 0 → ⊥)
      → record { state = lent_state w acc oflags sflags starts passes f; memory = memory; trap = trap; counted = false }
      ≡ stepped p settings (lent_state w acc oflags sflags starts passes f) memory
  unfolding stepped
  step_blocked trap e n = rw (here, e, ne_eqb trap 0 n)

  -- what control does
  pub step_quiet : work ≡ quiet w
      → record { state = state_controlled p (control_of o) (lent_state w acc oflags sflags starts passes f); memory = memory; trap = 0; counted = true }
      ≡ stepped p settings (lent_state w acc oflags sflags starts passes f) memory
  unfolding stepped completed settle_of put_register put_memory
  step_quiet e = rw (here, e)

-- ---- by the words

module _ (settings : Settings) (p : List Operation) (code : List ℕ) (at : ℕ) (f : Flow) (acc : List ℤ) (oflags sflags : List Bool) (w starts passes memory : List ℕ)
    (here : operation_at p f.pc ≡ coded_at code at) where
  abbrev o : Operation
  o = coded_at code at

  abbrev core : Core
  core = lent_core w acc oflags starts passes f

  abbrev before : State
  before = lent_state w acc oflags sflags starts passes f

  abbrev Steps : List Bool → List ℕ → List ℕ → Flow → Type 0
  Steps sflags' starts' passes' r =
      record { state = lent_state w acc oflags sflags' starts' passes' r; memory = memory; trap = 0; counted = true } ≡ stepped p settings before memory

  -- 19 and 20: no work
  repeat_quiet : 18 < kind_in code at → kind_in code at < 21 → work_of settings (mode_of f.mode) o core memory ≡ quiet w
  unfolding work_of
  repeat_quiet low high =
      ⊎_elim (λ e. rw (repeat_in code at (sym e))) (λ l. let e : kind_in code at ≡ 20 = omega arith in rw (repeat_register_in code at e)) (eq-or-lt_of_le low)

  -- 21 and 22: trap 4 with four loops active
  do_works : 20 < kind_in code at → kind_in code at ≤ 22 → work_of settings (mode_of f.mode) o core memory ≡ loop_work core
  unfolding work_of
  do_works low high =
      ⊎_elim (λ e. rw (do_in code at (sym e))) (λ l. let e : kind_in code at ≡ 22 = omega arith in rw (do_register_in code at e)) (eq-or-lt_of_le low)

  do_quiet : 20 < kind_in code at → kind_in code at ≤ 22 → f.depth < 4 → work_of settings (mode_of f.mode) o core memory ≡ quiet w
  unfolding loop_work
  do_quiet low high l = do_works low high ∙ rw (lt-ltb f.depth 4 l)

  pub do_blocked : 20 < kind_in code at → kind_in code at ≤ 22 → f.depth ≡ 4
      → record { state = before; memory = memory; trap = 4; counted = false } ≡ stepped p settings before memory
  unfolding loop_work
  do_blocked low high e = step_blocked settings p o f acc oflags sflags w starts passes memory here 4 (do_works low high ∙ rw (le-ltb f.depth 4 (omega arith))) (λ z. omega arith)

  -- neither of them touches the saturation flags
  begin_keeps : 18 < kind_in code at → kind_in code at ≤ 22 → clears (control_of o) ≡ false
  unfolding control_of
  begin_keeps low high =
      ⊎_elim (λ e. rw (repeat_in code at (sym e)))
      (λ l. ⊎_elim (λ e. rw (repeat_register_in code at (sym e)))
      (λ m. ⊎_elim (λ e. rw (do_in code at (sym e))) (λ n. let e : kind_in code at ≡ 22 = omega arith in rw (do_register_in code at e)) (eq-or-lt_of_le m))
      (eq-or-lt_of_le l)) (eq-or-lt_of_le low)

  pub begins_step : 18 < kind_in code at → kind_in code at ≤ 22 → (20 < kind_in code at → f.depth < 4) → (starts' passes' : List ℕ) (r : Flow)
      → lent_core w acc oflags starts' passes' r ≡ controlled p (control_of o) core → Steps sflags starts' passes' r
  unfolding state_controlled
  begins_step low high few starts' passes' r e =
      let work : work_of settings (mode_of f.mode) o core memory ≡ quiet w =
      elim (dec_le 21 (kind_in code at)) [ yes k ↦ do_quiet k high (few k) | no k ↦ repeat_quiet low (lt_of_not-le k) ] in
      rw (← step_quiet settings p o f acc oflags sflags w starts passes memory here work, begin_keeps low high, e)

  -- 23
  early_in : kind_in code at ≡ 23 → o ≡ EndEarly
  early_in e = control_in_lem code at (omega (arith, e)) ∙ rw e

  pub early_step : kind_in code at ≡ 23 → (starts₁ passes₁ starts' passes' : List ℕ) (r : Flow) → lent_core w acc oflags starts₁ passes₁ f ≡ ended_early p core
      → lent_core w acc oflags starts' passes' r ≡ advanced p (lent_core w acc oflags starts₁ passes₁ f) → Steps sflags starts' passes' r
  unfolding state_controlled controlled control_of work_of
  early_step k starts₁ passes₁ starts' passes' r ended next =
      rw (← step_quiet settings p o f acc oflags sflags w starts passes memory here (rw (early_in k)), early_in k, next, ended)

  -- 24
  mode_in : kind_in code at ≡ 24 → o ≡ SetMode (field code at 11)
  mode_in e = control_in_lem code at (omega (arith, e)) ∙ rw e

  pub mode_step : kind_in code at ≡ 24 → (starts' passes' : List ℕ) (r : Flow)
      → lent_core w acc oflags starts' passes' r
      ≡ advanced p (lent_core w acc oflags starts passes (record { pc = f.pc; depth = f.depth; repeat = f.repeat; mode = field code at 11 }))
      → Steps sflags starts' passes' r
  unfolding state_controlled controlled control_of work_of
  mode_step k starts' passes' r next =
      rw (← step_quiet settings p o f acc oflags sflags w starts passes memory here (rw (mode_in k)), mode_in k, next)

  -- 25
  clear_in : 22 < kind_in code at → (kind_in code at ≡ 23 → ⊥) → (kind_in code at ≡ 24 → ⊥) → o ≡ ClearSaturation
  clear_in low n23 n24 =
      control_in_lem code at (omega arith)
      ∙ rw (ne_eqb (kind_in code at) 19 (λ e. omega arith), ne_eqb (kind_in code at) 20 (λ e. omega arith), ne_eqb (kind_in code at) 21 (λ e. omega arith), ne_eqb (kind_in code at) 22 (λ e. omega arith), ne_eqb (kind_in code at) 23 n23, ne_eqb (kind_in code at) 24 n24)

  pub clear_step : 22 < kind_in code at → (kind_in code at ≡ 23 → ⊥) → (kind_in code at ≡ 24 → ⊥) → (starts' passes' : List ℕ) (r : Flow)
      → lent_core w acc oflags starts' passes' r ≡ advanced p core → Steps (false ∷ false ∷ []) starts' passes' r
  unfolding state_controlled controlled control_of work_of
  clear_step low n23 n24 starts' passes' r next =
      rw (← step_quiet settings p o f acc oflags sflags w starts passes memory here (rw (clear_in low n23 n24)), clear_in low n23 n24, next)
