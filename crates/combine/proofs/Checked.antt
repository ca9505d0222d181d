-- A program without strays, begun from A = 0 with SA clear and the mode word, runs a stretch of a dot product. Assumes nothing.
use Prim.Native.Nat.{ℕ, suc, ◌+◌, ◌*◌, ◌<◌, ◌≤◌}
use mathlib.Core.Bool.{Bool, true, false, cond, not, ◌&&◌, ◌||◌}
use mathlib.Core.List.{List}
use mathlib.Core.Path.{◌≡◌, refl, sym, ap, ◌∙◌, subst}
use native.Mathlib.Omega.{arith}
use borrow.Author.Tests.{eqb-true, not-false}
use lib.Dec.{eqb}
use lib.IntN.{pos}
use Rattle.integers.proofs.Whole.{neither, never}
use Rattle.accumulator.specs.Mode.{mode_of}
use Rattle.accumulator.specs.declared.mode.Target.TheVariants.{A}
use Rattle.operations.specs.Encode.{encode_of}
use Rattle.operations.specs.declared.operation.Operation.{Operation}
use Rattle.program.specs.File.{program_of}
use Rattle.state.specs.declared.settings.Settings.{Settings}
use Rattle.state.specs.declared.state.Core.{Core}
use Rattle.state.specs.declared.state.State.{State}
use Rattle.effects.specs.Operations.{work_of}
use Rattle.machine.specs.Write.{settle_of}
use Rattle.machine.specs.Control.{control_of, clears, state_controlled}
use Rattle.machine.specs.Step.{operation_at, state_after}
use Rattle.machine.proofs.Order.{mode_after, controlled_frame}
use Rattle.machine.proofs.ControlKinds.{by_kind}
use Rattle.machine.proofs.Works.{settled_mode}
use Rattle.runs.specs.Run.{Result}
use Rattle.runs.specs.Engine.{Engine, engine_turn, engine_done}
use Rattle.runs.proofs.Holds.{holds_none}
use Rattle.engine.proofs.Agree.{settle_stays}
use Rattle.engine.proofs.Steps.{Leads, turn_completes, steps_keep, transition, each_listed}
use Rattle.combine.specs.Dot.{byte_of, writes_a, adds_to_a, BoardCall, ran_on, StepFits, CallFits, sets_other, is_stray, holds_stray}
use Rattle.combine.proofs.Stretches.{run_on, stretch_stepwise}

-- ---- an operation

-- one that sets no other mode word leaves this one
same_mode : (mode : ℕ) (o : Operation) → sets_other mode o ≡ false → mode_after (control_of o) mode ≡ mode
same_mode mode o h = (by_kind o).mode mode ∙ go (eqb (byte_of o 0) 24) (byte_of o 2 + 256 * byte_of o 3) h
  where
    go : (t : Bool) (word : ℕ) → (t && not (eqb word mode)) ≡ false → cond t word mode ≡ mode
    go true word h = eqb-true word mode (not-false (eqb word mode) h)
    go false word h = refl

-- ---- a step

implied : (a b : Bool) → (a && not b) ≡ false → a ≡ true → b ≡ true
implied a true h e = refl
implied a false h e = never (sym h ∙ rw e)

module _ (mode : ℕ) (p : List Operation) (settings : Settings) where
  -- the state s before the flags, repeat left, loops and pc are controlled
  controlled_fits : (x y : Engine) (s : State) (memory : List ℕ)
      → let o = operation_at p x.state.core.pc in
      is_stray mode o ≡ false → s.core.mode ≡ mode → (x.state.sa ≡ true → s.sa ≡ true)
      → record { state = state_controlled p (control_of o) s; memory = memory } ≡ y → StepFits mode p (record { from = x; to = y })
  unfolding state_controlled is_stray
  controlled_fits x y s memory fine word flag is =
      let o = operation_at p x.state.core.pc in
      let k = control_of o in
      let t = neither (writes_a o && not (adds_to_a o) || sets_other mode o) (clears k) fine in
      let u = neither (writes_a o && not (adds_to_a o)) (sets_other mode o) t.0 in
      subst (λ (z : Engine). StepFits mode p (record { from = x; to = z })) is
      (record {
        kind = implied (writes_a o) (adds_to_a o) u.0;
        word = ap (λ (c : Core). c.mode) (controlled_frame p k s.core) ∙ ap (mode_after k) word ∙ same_mode mode o u.1;
        flag = λ e. rw t.1 (flag e);
      })

  step_checked : (x y : Engine) → x.state.core.mode ≡ mode → is_stray mode (operation_at p x.state.core.pc) ≡ false
      → Leads (engine_turn p settings x) y → StepFits mode p (record { from = x; to = y })
  step_checked x y word fine leads =
      let c = x.state.core in
      let m = mode_of c.mode in
      let work = work_of settings m (operation_at p c.pc) c x.memory in
      let e = work.effect.exact in
      let s = state_after m work x.state in
      let (none, is) = turn_completes p settings x y leads in
      controlled_fits x y (settle_of settings.traps m e s).state _ fine (settled_mode settings.traps m e s ∙ word)
      (settle_stays m settings.traps A e s) is

-- ---- a run

module _ (mode : ℕ) (x : BoardCall) (word : x.state.core.mode ≡ mode) (stray : holds_stray mode (program_of x.file) ≡ false) where
  abbrev p : List Operation
  p = program_of x.file

  abbrev runs : ℕ → Result Engine
  runs = run_on x

  fine : (at : ℕ) → is_stray mode (operation_at p at) ≡ false
  unfolding is_stray writes_a adds_to_a encode_of control_of
  fine at = holds_none (is_stray mode) refl p at stray

  step_at : (i : ℕ) → i < (ran_on x).steps → (runs i).machine.state.core.mode ≡ mode → StepFits mode p (transition runs i)
  step_at i l at = step_checked mode p x.settings (runs i).machine (runs (suc i)).machine at (fine (runs i).machine.state.core.pc) ((stretch_stepwise x).leads i l).1

  word_at_lem : (i : ℕ) → i ≤ (ran_on x).steps → (runs i).machine.state.core.mode ≡ mode
  word_at_lem =
      steps_keep (engine_done p) (engine_turn p x.settings) (record { state = x.state; memory = x.memory }) runs x.budget (stretch_stepwise x)
      (λ i e. e.state.core.mode ≡ mode) word (λ i l goes at. (step_at i l at).word)

  -- what a user can check of a program and a start
  pub checked_fits : (mode_of mode).unsigned ≡ false → x.state.core.a ≡ pos 0 → x.state.sa ≡ false → CallFits mode x
  checked_fits signed start clear =
      record {
        signed = signed;
        word = word;
        start = start;
        clear = clear;
        steps = each_listed runs (StepFits mode p) (ran_on x).steps (λ i l. step_at i l (word_at_lem i (omega arith)));
      }
