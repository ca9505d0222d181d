-- A run of at most one step is one step. Assumes nothing.
use Prim.Native.Nat.{ℕ, zero, suc}
use mathlib.Core.Bool.{Bool, true, false, cond}
use mathlib.Core.List.{List}
use mathlib.Core.Path.{◌≡◌, refl, sym, ap, ◌∙◌}
use borrow.Author.Tests.{eqb-true}
use lib.Dec.{eqb}
use lib.ListN.{length}
use Rattle.integers.proofs.Whole.{by_test}
use Rattle.operations.specs.declared.operation.Operation.{Operation}
use Rattle.program.specs.Answer.{if_accepted}
use Rattle.program.specs.File.{program_of}
use Rattle.state.specs.declared.settings.Settings.{Settings}
use Rattle.state.specs.declared.state.State.{State}
use Rattle.machine.specs.Single.{call_refusal, done_or_stepped, Steps}
use Rattle.machine.specs.Step.{Step, uncounted, stepped}
use Rattle.endings.specs.declared.ending.Ending.{Ending}
use Rattle.endings.specs.declared.ending.Ending.TheVariants.{Done, Spent}
use Rattle.runs.specs.Run.{Stop, Turn, Result, after, run}
use Rattle.runs.specs.Run.Stop.{ended, left}
use Rattle.runs.specs.Engine.{Engine, turn_of, engine_turn, engine_done, engine_run}
use Rattle.legs.proofs.Along.{Leaves, uncounted_leaves}
use Rattle.engine.specs.Call.{result_of, refused, run_of}
use Rattle.engine.specs.Single.{refusal_in, trap_in}
use Rattle.engine.specs.declared.outcome.Outcome.{Outcome}

-- "left" is the ledger's alone
abbrev stop_refusal : Stop → ℕ
stop_refusal (ended e) = refusal_in e
stop_refusal left = 0

abbrev stop_trap : Stop → ℕ
stop_trap (ended e) = trap_in e
stop_trap left = 0

-- a run of at most one step, as a step
abbrev step_of : Result Engine → Step
step_of r = record { state = r.machine.state; memory = r.machine.memory; trap = stop_trap r.stop; counted = eqb r.steps 1 }

-- a run that is not refused is the step t
record IsStep (t : Step) (r : Result Engine) : Type 0 where
  step : step_of r ≡ t
  accepted : stop_refusal r.stop ≡ 0

either : (b : Bool) {t u : Step} {x y : Result Engine} → IsStep t x → IsStep u y → IsStep (cond b t u) (cond b x y)
either true h k = h
either false h k = k

module _ (p : List Operation) (settings : Settings) where
  -- after one step, done or spent
  abbrev rest : Engine → Result Engine
  rest x = run (engine_done p) (λ k x'. engine_turn p settings x') 0 1 x

  rest_counts : (x : Engine) → IsStep (record { state = x.state; memory = x.memory; trap = 0; counted = true }) (rest x)
  unfolding run
  rest_counts x =
      by_test (λ (e : Ending). IsStep (record { state = x.state; memory = x.memory; trap = 0; counted = true }) (record { machine = x; steps = 1; stop = ended e }))
      (engine_done p x) {x = Done} {y = Spent} (λ e. record { step = refl; accepted = refl }) (λ e. record { step = refl; accepted = refl })

  turn_is : (x : Engine) (t : Step) → Leaves x t → IsStep t (after x 0 rest (turn_of t))
  turn_is x t leaves =
      let Is : Turn Engine → Type 0 = λ u. IsStep t (after x 0 rest u) in
      by_test Is t.counted
      (λ e.
      by_test Is (eqb t.trap 0)
      (λ f.
      let h = rest_counts (record { state = t.state; memory = t.memory }) in
      record {
        step = h.step ∙ (λ i. record { state = t.state; memory = t.memory; trap = sym (eqb-true t.trap 0 f) i; counted = sym e i });
        accepted = h.accepted;
      })
      (λ f. record { step = λ i. record { state = t.state; memory = t.memory; trap = t.trap; counted = sym e i }; accepted = refl }))
      (λ e.
      record {
        step = λ i. record { state = (sym (leaves e) i).state; memory = (sym (leaves e) i).memory; trap = t.trap; counted = sym e i };
        accepted = refl;
      })

  run_is : (s : State) (memory : List ℕ) → IsStep (done_or_stepped p settings s memory) (engine_run p settings 1 s memory)
  unfolding engine_run run done_or_stepped engine_turn
  run_is s memory =
      let x : Engine = record { state = s; memory = memory } in
      either (engine_done p x) (record { step = refl; accepted = refl }) (turn_is x (stepped p settings s memory) (uncounted_leaves p settings x))

-- refused with n, or the step
answered : (n : ℕ) (s : State) (memory : List ℕ) (t : Step) (y : Result Engine) → IsStep t y
    → let r = if_accepted n y (refused n s memory) in
    (stop_refusal r.stop ≡ n) × (step_of r ≡ if_accepted n t (uncounted s memory 0))
answered zero s memory t y h = (h.accepted, h.step)
answered (suc n) s memory t y h = (refl, refl)

pub one_step : (file : List ℕ) (settings : Settings) (s : State) (memory : List ℕ) (r : Outcome) (after : List ℕ)
    → result_of r after ≡ run_of file settings s memory 1
    → Steps file settings s memory (record { refusal = refusal_in r.ending; trap = trap_in r.ending; counted = eqb r.steps 1; state = r.state }) after
unfolding run_of
one_step file settings s memory r after is =
    let n = call_refusal file settings s (length memory) in
    let h = answered n s memory _ _ (run_is (program_of file) settings s memory) in
    record { refusal = ap (λ (x : Result Engine). stop_refusal x.stop) is ∙ h.0; left = ap step_of is ∙ h.1 }
