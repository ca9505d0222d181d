-- A run by its steps: what the loops of `step_on` and `repeat_on` keep, and how they end. Assumes nothing.
use Prim.Native.Nat.{ℕ, suc, ◌+◌, ◌-◌, ◌≤◌, ◌<◌}
use mathlib.Core.Bool.{true, false, true≢false}
use mathlib.Core.List.{List}
use mathlib.Core.Path.{◌≡◌, refl, sym, ap, ◌∙◌}
use native.Mathlib.Numerals.{add-one}
use native.Mathlib.Omega.{arith}
use borrow.Author.Tests.{eq-eqb, ne_eqb}
use lib.Dec.{eqb}
use lib.ListN.{length}
use Rattle.integers.proofs.Whole.{by_test}
use Rattle.accumulator.specs.Mode.{mode_of}
use Rattle.operations.specs.Listed.{is_listed}
use Rattle.operations.specs.declared.operation.Operation.{Operation}
use Rattle.program.specs.Placement.{is_placed}
use Rattle.state.specs.declared.settings.Settings.{Settings}
use Rattle.effects.specs.Operations.{work_of}
use Rattle.machine.specs.Step.{Step, operation_at, uncounted, completed, stepped}
use Rattle.endings.specs.declared.ending.Ending.TheVariants.{Done, Spent, Trap}
use Rattle.runs.specs.Run.{Result, run}
use Rattle.runs.specs.Run.Stop.{ended}
use Rattle.runs.specs.Engine.{Engine, engine_turn, engine_done, engine_from}
use Rattle.legs.proofs.Runs.{run_done}
use Rattle.legs.proofs.Fits.{Fit, stepped_fits}

-- ---- one step

-- a step that does not count leaves the engine
abbrev pub Leaves : Engine → Step → Type 0
Leaves x r = r.counted ≡ false → record { state = r.state; memory = r.memory } ≡ x

pub uncounted_leaves : (p : List Operation) (settings : Settings) (x : Engine) → Leaves x (stepped p settings x.state x.memory)
unfolding stepped completed
uncounted_leaves p settings x =
    let s = x.state in
    let m = mode_of s.core.mode in
    let o = operation_at p s.core.pc in
    let work = work_of settings m o s.core x.memory in
    by_test (Leaves x) (eqb work.effect.trap 0)
    {x = completed p settings m o work s x.memory} {y = uncounted s x.memory work.effect.trap}
    (λ e f. absurd (true≢false f)) (λ e f. refl)

-- ---- a run

-- after so many steps the run that comes to y goes on from the engine x, with a memory of so many words
pub record Along (p : List Operation) (settings : Settings) (budget words : ℕ) (y : Result Engine) (x : Engine) (steps : ℕ) : Type 0 where
  pub fit : Fit p words x
  pub within : steps ≤ budget
  pub same : engine_from p settings (budget - steps) steps x ≡ y

module _ {p : List Operation} {settings : Settings} {budget words : ℕ} {y : Result Engine} {x : Engine} {steps : ℕ}
    (h : Along p settings budget words y x steps) where
  pub ends_done : x.state.core.pc ≡ length p → record { machine = x; steps = steps; stop = ended Done } ≡ y
  ends_done e =
      sym (run_done (engine_done p) (λ k. engine_turn p settings) (budget - steps) steps x (eq-eqb x.state.core.pc (length p) e)) ∙ h.same

  module _ (more : x.state.core.pc ≡ length p → ⊥) where
    not_done : engine_done p x ≡ false
    not_done = ne_eqb x.state.core.pc (length p) more

    spent_now : (n : ℕ) → n ≡ 0 → record { machine = x; steps = steps; stop = ended Spent } ≡ engine_from p settings n steps x
    unfolding run
    spent_now n e = rw (e, not_done)

    pub ends_spent : steps ≡ budget → record { machine = x; steps = steps; stop = ended Spent } ≡ y
    ends_spent q = spent_now (budget - steps) (omega arith) ∙ h.same

    -- there is an operation at pc
    pub at_operation : x.state.core.pc < length p
    at_operation = let k : x.state.core.pc ≤ length p = h.fit.stands.at in omega arith

    module _ (left : steps ≡ budget → ⊥) (r : Step) (is : r ≡ stepped p settings x.state x.memory) where
      abbrev x' : Engine
      x' = record { state = r.state; memory = r.memory }

      -- one of the budget is used
      used : budget - steps ≡ suc (budget - (steps + 1))
      used = let k : steps ≤ budget = h.within in omega arith

      -- the run from here, of which this is a step
      from_here : engine_from p settings (suc (budget - (steps + 1))) steps x ≡ y
      from_here = rw used at h.same

      over_now : r.counted ≡ false → (n : ℕ)
          → record { machine = x; steps = steps; stop = ended (Trap r.trap) } ≡ engine_from p settings (suc n) steps x
      unfolding run engine_turn
      over_now f n = rw (not_done, sym is, f)

      -- a trap 1 to 4
      pub ends_over : r.counted ≡ false
          → record { machine = x'; steps = steps; stop = ended (Trap r.trap) } ≡ y
      ends_over f =
          rw (rw (sym is) at (uncounted_leaves p settings x) f) (over_now f (budget - (steps + 1)) ∙ from_here)

      last_now : r.counted ≡ true → (r.trap ≡ 0 → ⊥) → (n : ℕ)
          → record { machine = x'; steps = suc steps; stop = ended (Trap r.trap) } ≡ engine_from p settings (suc n) steps x
      unfolding run engine_turn
      last_now f z n = rw (not_done, sym is, f, ne_eqb r.trap 0 z)

      -- a trap 5 to 7
      pub ends_last : r.counted ≡ true → (r.trap ≡ 0 → ⊥)
          → record { machine = x'; steps = steps + 1; stop = ended (Trap r.trap) } ≡ y
      ends_last f z = rw add-one (last_now f z (budget - (steps + 1)) ∙ from_here)

      next_now : r.counted ≡ true → r.trap ≡ 0 → (n : ℕ) → engine_from p settings n (suc steps) x' ≡ engine_from p settings (suc n) steps x
      unfolding run engine_turn
      next_now f z n = rw (not_done, sym is, f, eq-eqb r.trap 0 z)

      -- no trap
      pub goes_on : is_placed p ≡ true → ((i : ℕ) → i < length p → is_listed (operation_at p i) ≡ true) → r.counted ≡ true → r.trap ≡ 0
          → Along p settings budget words y x' (steps + 1)
      goes_on placed ok f z =
          record {
            fit = rw is (stepped_fits p placed ok settings words x at_operation h.fit);
            within = let w : steps ≤ budget = h.within in omega arith;
            same =
                ap (λ (j : ℕ). engine_from p settings (budget - (steps + 1)) j x') (add-one steps)
                ∙ (next_now f z (budget - (steps + 1)) ∙ from_here);
          }
