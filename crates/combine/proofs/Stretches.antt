-- A board's run of a stretch: where SA is clear at its end, A is the exact sum of the products of its pairs. Assumes nothing.
use Prim.Native.Nat.{ℕ, suc, ◌<◌}
use mathlib.Core.Bool.{Bool, true, false, cond}
use mathlib.Core.List.{List, [], ◌∷◌, ◌++◌}
use mathlib.Core.Path.{◌≡◌, refl, sym, ap, ◌∙◌, subst}
use lib.IntN.{ℤ, ◌+ℤ◌, +ℤ_idl, +ℤ_idr, +ℤ_assoc}
use Rattle.integers.proofs.Whole.{same_test, neither, never}
use Rattle.accumulator.specs.Mode.{mode_of}
use Rattle.accumulator.specs.Limit.{has_left, write_of}
use Rattle.accumulator.specs.declared.mode.Mode.{Mode}
use Rattle.accumulator.specs.declared.mode.Target.TheVariants.{A, B}
use Rattle.accumulator.proofs.Writing.{kept_inside}
use Rattle.operations.specs.Listed.{is_listed}
use Rattle.operations.specs.declared.operation.Operation.{Operation}
use Rattle.program.specs.File.{program_of}
use Rattle.state.specs.declared.settings.Settings.{Settings}
use Rattle.state.specs.declared.state.Core.{Core}
use Rattle.state.specs.declared.state.State.{State}
use Rattle.effects.specs.Operations.{work_of}
use Rattle.effects.specs.declared.effect.Exact.{Exact}
use Rattle.effects.specs.declared.effect.Exact.TheVariants.{Keep, Replace}
use Rattle.machine.specs.Write.{settle_of}
use Rattle.machine.specs.Control.{control_of, clears, state_controlled}
use Rattle.machine.specs.Step.{operation_at, state_after}
use Rattle.machine.proofs.Order.{controlled_frame}
use Rattle.runs.specs.Run.{Result}
use Rattle.runs.specs.Engine.{Engine, engine_turn, engine_done}
use Rattle.runs.specs.Steps.{Transition, first_steps}
use Rattle.engine.specs.Call.{run_of}
use Rattle.engine.proofs.Steps.{Leads, StepsOn, turn_completes, Stepwise, end_keeps, call_stepwise, call_listed, transition, step_listed}
use Rattle.combine.specs.Dot.{Pair, pair_product, dot_of, writes_a, adds_to_a, pair_of, executed, pairs_in, BoardCall, ran_on, pairs_on, StepFits, CallFits}
use Rattle.combine.proofs.Works.{Meets, work_meets, adds_onward}

-- ---- lists of pairs

-- the products of two lists of pairs, one after the other
pub dot_append : (integer : Bool) (l l' : List Pair) → dot_of integer (l ++ l') ≡ dot_of integer l +ℤ dot_of integer l'
unfolding dot_of
dot_append integer [] l' = sym (+ℤ_idl (dot_of integer l'))
dot_append integer (q ∷ l) l' =
    ap (λ (z : ℤ). pair_product integer q +ℤ z) (dot_append integer l l') ∙ sym (+ℤ_assoc (pair_product integer q) (dot_of integer l) (dot_of integer l'))

module _ (p : List Operation) where
  -- the pairs of two lists of steps, one after the other
  pairs_append : (l l' : List (Transition Engine)) → pairs_in p (l ++ l') ≡ pairs_in p l ++ pairs_in p l'
  unfolding pairs_in
  pairs_append [] l' = refl
  pairs_append (t ∷ l) l' =
      let pair = pair_of (executed p t) t.from.state.core.w in
      same_test (λ (a b : List Pair). a ≡ b ++ pairs_in p l') (adds_to_a (executed p t))
      (λ e. ap (λ (k : List Pair). pair ∷ k) (pairs_append l l')) (λ e. pairs_append l l')

  -- of one step: its product where it adds to A
  pairs_one : (integer : Bool) (a : ℤ) (t : Transition Engine)
      → cond (adds_to_a (executed p t)) (a +ℤ pair_product integer (pair_of (executed p t) t.from.state.core.w)) a
      ≡ a +ℤ dot_of integer (pairs_in p (t ∷ []))
  unfolding pairs_in dot_of
  pairs_one integer a t =
      same_test (λ (x : ℤ) (l : List Pair). x ≡ a +ℤ dot_of integer l) (adds_to_a (executed p t))
      (λ e. ap (λ (z : ℤ). a +ℤ z) (sym (+ℤ_idr _))) (λ e. sym (+ℤ_idr a))

-- ---- the write

-- A after it, where SA is clear if it was written
settled_a : (traps : ℕ) (m : Mode) (e : Exact) (s : State) (r : ℤ) (adds : Bool) → Meets r adds e → (adds ≡ true → (settle_of traps m e s).state.sa ≡ false)
    → (settle_of traps m e s).state.core.a ≡ cond adds r s.core.a
unfolding settle_of write_of
settled_a traps m Keep s r true h clear = absurd h
settled_a traps m Keep s r false h clear = refl
settled_a traps m (Replace A x) s r true h clear = kept_inside m A x (neither s.sa (has_left m A x) (clear refl)).1 ∙ h
settled_a traps m (Replace A x) s r false h clear = absurd h
settled_a traps m (Replace B x) s r true h clear = absurd h
settled_a traps m (Replace B x) s r false h clear = refl

-- ---- a step

module _ (mode : ℕ) (signed : (mode_of mode).unsigned ≡ false) (p : List Operation) (settings : Settings) where
  abbrev integer : Bool
  integer = (mode_of mode).integer

  -- where SA is clear after an operation that adds to A, it was clear before the flags were controlled
  clear_before : (o : Operation) (s : State) → (state_controlled p (control_of o) s).sa ≡ false → adds_to_a o ≡ true → s.sa ≡ false
  unfolding state_controlled
  clear_before o s clear adds = go (clears (control_of o)) refl
    where
      go : (t : Bool) → clears (control_of o) ≡ t → s.sa ≡ false
      go true e = never (sym (adds_onward o) ∙ rw (e, adds))
      go false e = rw e at clear

  -- what a step from x that adds, or not, leaves in A
  abbrev Added : Engine → Engine → Type 0
  Added x y =
      let t : Transition Engine = record { from = x; to = y } in
      y.state.sa ≡ false → y.state.core.a ≡ x.state.core.a +ℤ dot_of integer (pairs_in p (t ∷ []))

  -- the state s before the flags, repeat left, loops and pc are controlled
  controlled_adds : (x y : Engine) (s : State) (memory : List ℕ)
      → let o = operation_at p x.state.core.pc in
      let a = x.state.core.a in
      ((adds_to_a o ≡ true → s.sa ≡ false) → s.core.a ≡ cond (adds_to_a o) (a +ℤ pair_product integer (pair_of o x.state.core.w)) a)
      → record { state = state_controlled p (control_of o) s; memory = memory } ≡ y → Added x y
  unfolding state_controlled pairs_in
  controlled_adds x y s memory h is =
      let o = operation_at p x.state.core.pc in
      subst (Added x) is
      (λ clear.
      ap (λ (c : Core). c.a) (controlled_frame p (control_of o) s.core) ∙ h (clear_before o s clear)
      ∙ pairs_one p integer x.state.core.a (record { from = x; to = y }))

  -- from x to y, by an operation that is listed and, if it writes A, kind 3
  step_adds : (x y : Engine) → x.state.core.mode ≡ mode → is_listed (operation_at p x.state.core.pc) ≡ true
      → (writes_a (operation_at p x.state.core.pc) ≡ true → adds_to_a (operation_at p x.state.core.pc) ≡ true)
      → Leads (engine_turn p settings x) y → Added x y
  step_adds x y word listed kind leads =
      let c = x.state.core in
      let m = mode_of c.mode in
      let o = operation_at p c.pc in
      let work = work_of settings m o c x.memory in
      let e = work.effect.exact in
      let s = state_after m work x.state in
      let (none, is) = turn_completes p settings x y leads in
      let meets : Meets (c.a +ℤ pair_product integer (pair_of o c.w)) (adds_to_a o) e =
      subst (λ (k : ℕ). Meets (c.a +ℤ pair_product (mode_of k).integer (pair_of o c.w)) (adds_to_a o) e) word
      (work_meets settings m (rw word signed) c x.memory o listed kind none) in
      controlled_adds x y (settle_of settings.traps m e s).state _ (settled_a settings.traps m e s _ (adds_to_a o) meets) is

-- ---- a run

-- the call of a stretch under a budget
abbrev pub run_on : BoardCall → ℕ → Result Engine
run_on x n = run_of x.file x.settings x.state x.memory n

-- it goes by turns of the engine
pub stretch_stepwise : (x : BoardCall)
    → let p = program_of x.file in
    Stepwise (engine_done p) (engine_turn p x.settings) (record { state = x.state; memory = x.memory }) (run_on x) x.budget
stretch_stepwise x = call_stepwise x.file x.settings x.state x.memory x.budget

module _ (mode : ℕ) (x : BoardCall) (h : CallFits mode x) where
  abbrev p : List Operation
  p = program_of x.file

  abbrev runs : ℕ → Result Engine
  runs = run_on x

  abbrev made : ℕ
  made = (ran_on x).steps

  -- step i is one of a dot product
  step_fits : (i : ℕ) → i < made → StepFits mode p (transition runs i)
  step_fits i l = h.steps (transition runs i) (step_listed runs made i l)

  -- where SA is clear after a step, it was clear before it
  clear_at : (i : ℕ) → i < made → (runs (suc i)).machine.state.sa ≡ false → (runs i).machine.state.sa ≡ false
  clear_at i l clear = go (runs i).machine.state.sa refl
    where
      go : (t : Bool) → (runs i).machine.state.sa ≡ t → (runs i).machine.state.sa ≡ false
      go true e = never (sym clear ∙ (step_fits i l).flag e)
      go false e = e

  -- after i steps: the mode word; A, where SA is clear
  pub record Summed (i : ℕ) (e : Engine) : Type 0 where
    pub word : e.state.core.mode ≡ mode
    pub sum : e.state.sa ≡ false → e.state.core.a ≡ dot_of (mode_of mode).integer (pairs_in p (first_steps runs i))

  begins_summed : Summed 0 (record { state = x.state; memory = x.memory })
  unfolding first_steps pairs_in dot_of
  begins_summed = record { word = h.word; sum = λ clear. h.start }

  step_summed : (i : ℕ) → i < made → StepsOn (engine_done p) (engine_turn p x.settings) (runs i).machine (runs (suc i)).machine → Summed i (runs i).machine
      → Summed (suc i) (runs (suc i)).machine
  unfolding first_steps
  step_summed i l (more, leads) before =
      let integer = (mode_of mode).integer in
      let t = transition runs i in
      let listed = call_listed x.file x.settings x.state x.memory x.budget i l t.from.state.core.pc in
      record {
        word = (step_fits i l).word;
        sum =
            λ clear.
            step_adds mode h.signed p x.settings t.from t.to before.word listed (step_fits i l).kind leads clear
            ∙ ap (λ (z : ℤ). z +ℤ dot_of integer (pairs_in p (t ∷ []))) (before.sum (clear_at i l clear))
            ∙ sym (dot_append integer (pairs_in p (first_steps runs i)) (pairs_in p (t ∷ [])))
            ∙ ap (dot_of integer) (sym (pairs_append p (first_steps runs i) (t ∷ [])));
      }

  pub stretch_exact : (ran_on x).machine.state.sa ≡ false → (ran_on x).machine.state.core.a ≡ dot_of (mode_of mode).integer (pairs_on x)
  stretch_exact =
      (end_keeps (engine_done p) (engine_turn p x.settings) (record { state = x.state; memory = x.memory }) runs x.budget (stretch_stepwise x) Summed
      begins_summed step_summed).sum
