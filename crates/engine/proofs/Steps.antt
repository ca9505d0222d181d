-- The steps of a run are turns of its machine, each from where the one before it ended, and the last ends where the run does; what each step keeps holds
-- after each. Assumes nothing.
use Prim.Native.Nat.{ℕ, zero, suc, ◌+◌, ◌<◌, ◌≤◌}
use mathlib.Core.Bool.{Bool, true, false}
use mathlib.Core.List.Memᴰ
use mathlib.Core.List.{List, [], ◌∷◌, ◌++◌, Memᴰ}
use mathlib.Core.Logic.{⊎_elim}
use mathlib.Core.Path.{◌≡◌, refl, sym, ap, ◌∙◌, subst}
use native.Mathlib.Nat.{le_refl}
use native.Mathlib.Omega.{arith}
use borrow.Author.Tests.{eqb-true, ltb-true, ltb-false}
use lib.Dec.{eqb, ltb}
use lib.ListN.{length, length-append, get_or-eq_default}
use Rattle.integers.proofs.Whole.{by_test}
use Rattle.accumulator.specs.Mode.{mode_of}
use Rattle.operations.specs.Listed.{is_listed}
use Rattle.operations.specs.declared.operation.Operation.{Operation}
use Rattle.operations.specs.declared.operation.Operation.TheVariants.{EndEarly}
use Rattle.program.specs.Answer.{if_accepted}
use Rattle.program.specs.File.{program_of}
use Rattle.state.specs.declared.settings.Settings.{Settings}
use Rattle.state.specs.declared.state.State.{State}
use Rattle.effects.specs.Operations.{work_of}
use Rattle.machine.specs.Write.{settle_of, value_word, put_memory}
use Rattle.machine.specs.Control.{control_of, state_controlled}
use Rattle.machine.specs.Step.{Step, operation_at, state_after, completed, stepped}
use Rattle.machine.specs.Single.{call_refusal}
use Rattle.machine.proofs.Calls.{call_file}
use Rattle.endings.specs.declared.ending.Ending.{Ending}
use Rattle.runs.specs.Run.{Turn, Result, after, run}
use Rattle.runs.specs.Run.Stop.{ended}
use Rattle.runs.specs.Run.Turn.{over, last, next}
use Rattle.runs.specs.Engine.{Engine, turn_of, engine_turn, engine_done, engine_run}
use Rattle.runs.specs.Steps.{Transition, first_steps}
use Rattle.engine.specs.Call.{refused, run_of}
use Rattle.legs.proofs.Runs.{run_done, run_spent, run_turn, by_run, run_counts}
use Rattle.legs.proofs.Fits.{file_listed}

-- ---- any machine that does not look at the steps made

-- a turn whose step leads to y
abbrev pub Leads : {S : Type 0} → Turn S → S → Type 0
Leads (over e) y = ⊥
Leads (last e s) y = s ≡ y
Leads (next s) y = s ≡ y

module _ {S : Type 0} (done : S → Bool) (turn : S → Turn S) where
  -- with n left of the budget and k steps made
  abbrev from : ℕ → ℕ → S → Result S
  from n k s = run done (λ i. turn) n k s

  -- a machine that is not done makes a step
  abbrev pub StepsOn : S → S → Type 0
  StepsOn x y = (done x ≡ false) × Leads (turn x) y

  -- where a run makes at least one step more than i, step i + 1 leads from the machine after i to the one after i + 1
  abbrev Leading : ℕ → ℕ → S → Result S → Type 0
  Leading n k s r = (i : ℕ) → k + i < r.steps → StepsOn (from i k s).machine (from (suc i) k s).machine

  -- the first step, by a turn that leads to s'
  first_leads : (k : ℕ) (s s' : S) (u : Turn S) → done s ≡ false → turn s ≡ u → Leads u s' → (after s k (from 0 (suc k)) u).machine ≡ s'
      → StepsOn (from 0 k s).machine (from 1 k s).machine
  first_leads k s s' u d is leads to =
      rw (run_spent done (λ i. turn) k s d, run_turn done (λ i. turn) 0 k s u d is, to) (d, rw is leads)

  last_leads : (n k : ℕ) (s s' : S) (e : Ending) → done s ≡ false → turn s ≡ last e s' → Leading (suc n) k s (record { machine = s'; steps = suc k; stop = ended e })
  last_leads n k s s' e d is zero l = first_leads k s s' (last e s') d is refl refl
  last_leads n k s s' e d is (suc i) l = absurd (omega arith)

  next_leads : (n k : ℕ) (s s' : S) → done s ≡ false → turn s ≡ next s' → Leading n (suc k) s' (from n (suc k) s') → Leading (suc n) k s (from n (suc k) s')
  unfolding run
  next_leads n k s s' d is on zero l = first_leads k s s' (next s') d is refl refl
  next_leads n k s s' d is on (suc i) l =
      rw (run_turn done (λ i. turn) i k s (next s') d is, run_turn done (λ i. turn) (suc i) k s (next s') d is) (on i (omega arith))

  run_step : (n k : ℕ) (s : S) → Leading n k s (from n k s)
  run_step =
      by_run done (λ i. turn) Leading
      (record {
        at_done = λ n k s d i l. absurd (omega arith);
        at_spent = λ k s d i l. absurd (omega arith);
        at_over = λ n k s e d is i l. absurd (omega arith);
        at_last = last_leads;
        at_next = next_leads;
      })

  -- under a budget of the steps that it makes, a run ends on the same machine
  abbrev EndsSame : ℕ → ℕ → S → Result S → Type 0
  EndsSame n k s r = (j : ℕ) → r.steps ≡ k + j → (from j k s).machine ≡ r.machine

  -- with no step made
  none_same : (k : ℕ) (s : S) → done s ≡ false → (j : ℕ) → k ≡ k + j → (from j k s).machine ≡ s
  none_same k s d zero l = ap (λ (r : Result S). r.machine) (run_spent done (λ i. turn) k s d)
  none_same k s d (suc j) l = absurd (omega arith)

  last_same : (n k : ℕ) (s s' : S) (e : Ending) → done s ≡ false → turn s ≡ last e s' → EndsSame (suc n) k s (record { machine = s'; steps = suc k; stop = ended e })
  last_same n k s s' e d is zero l = absurd (omega arith)
  last_same n k s s' e d is (suc j) l = ap (λ (r : Result S). r.machine) (run_turn done (λ i. turn) j k s (last e s') d is)

  next_same : (n k : ℕ) (s s' : S) → done s ≡ false → turn s ≡ next s' → EndsSame n (suc k) s' (from n (suc k) s') → EndsSame (suc n) k s (from n (suc k) s')
  next_same n k s s' d is on zero l = let c : suc k ≤ (from n (suc k) s').steps = run_counts done (λ i. turn) n (suc k) s' in absurd (omega arith)
  next_same n k s s' d is on (suc j) l = ap (λ (r : Result S). r.machine) (run_turn done (λ i. turn) j k s (next s') d is) ∙ on j (omega arith)

  run_same : (n k : ℕ) (s : S) → EndsSame n k s (from n k s)
  run_same =
      by_run done (λ i. turn) EndsSame
      (record {
        at_done = λ n k s d j l. ap (λ (r : Result S). r.machine) (run_done done (λ i. turn) j k s d);
        at_spent = λ k s d. none_same k s d;
        at_over = λ n k s e d is. none_same k s d;
        at_last = last_same;
        at_next = next_same;
      })

-- ---- the steps of a run

-- under a budget the run `runs` goes from `start` to its end by turns of a machine that is not done
pub record Stepwise {S : Type 0} (done : S → Bool) (turn : S → Turn S) (start : S) (runs : ℕ → Result S) (budget : ℕ) : Type 0 where
  pub begins : (runs 0).machine ≡ start
  pub leads : (i : ℕ) → i < (runs budget).steps → StepsOn done turn (runs i).machine (runs (suc i)).machine
  pub ends : (runs (runs budget).steps).machine ≡ (runs budget).machine

-- what holds at the start and is kept by every step holds after each number of steps, and so at the end
module _ {S : Type 0} (done : S → Bool) (turn : S → Turn S) (start : S) (runs : ℕ → Result S) (budget : ℕ) (goes : Stepwise done turn start runs budget)
    (P : ℕ → S → Type 0) (begins : P 0 start)
    (step : (i : ℕ) → i < (runs budget).steps → StepsOn done turn (runs i).machine (runs (suc i)).machine → P i (runs i).machine → P (suc i) (runs (suc i)).machine) where
  pub steps_keep : (i : ℕ) → i ≤ (runs budget).steps → P i (runs i).machine
  steps_keep zero l = subst (P 0) (sym goes.begins) begins
  steps_keep (suc i) l = step i (omega arith) (goes.leads i (omega arith)) (steps_keep i (omega arith))

  pub end_keeps : P (runs budget).steps (runs budget).machine
  end_keeps = subst (P (runs budget).steps) goes.ends (steps_keep (runs budget).steps (le_refl _))

pub run_stepwise : {S : Type 0} (done : S → Bool) (turn : S → Turn S) (start : S) (budget : ℕ)
    → Stepwise done turn start (λ n. run done (λ i. turn) n 0 start) budget
unfolding run
run_stepwise done turn start budget =
    let k = (from done turn budget 0 start).steps in
    record {
      begins = refl;
      leads = λ i l. run_step done turn budget 0 start i (omega arith);
      ends = run_same done turn budget 0 start k (omega arith);
    }

-- the call for a run, refused or not
pub call_stepwise : (file : List ℕ) (settings : Settings) (s : State) (memory : List ℕ) (budget : ℕ)
    → let p = program_of file in
    Stepwise (engine_done p) (engine_turn p settings) (record { state = s; memory = memory }) (run_of file settings s memory) budget
unfolding run_of engine_run
call_stepwise file settings s memory budget = go (call_refusal file settings s (length memory))
  where
    p : List Operation
    p = program_of file

    go : (n : ℕ)
        → Stepwise (engine_done p) (engine_turn p settings) (record { state = s; memory = memory })
        (λ b. if_accepted n (engine_run p settings b s memory) (refused n s memory)) budget
    go zero = run_stepwise (engine_done p) (engine_turn p settings) (record { state = s; memory = memory }) budget
    go (suc n) = record { begins = refl; leads = λ i l. absurd (omega arith); ends = refl }

-- at x there is no trap of 1 to 4, and y is what the step completes
abbrev pub Completes : List Operation → Settings → Engine → Engine → Type 0
Completes p settings x y =
    let s = x.state in
    let m = mode_of s.core.mode in
    let o = operation_at p s.core.pc in
    let work = work_of settings m o s.core x.memory in
    let settled = settle_of settings.traps m work.effect.exact (state_after m work s) in
    let memory = put_memory work.effect.place (value_word m work.effect.value) x.memory in
    (work.effect.trap ≡ 0) × (record { state = state_controlled p (control_of o) settled.state; memory = memory } ≡ y)

-- a turn of the engine that leads to y
pub turn_completes : (p : List Operation) (settings : Settings) (x y : Engine) → Leads (engine_turn p settings x) y → Completes p settings x y
unfolding engine_turn stepped completed
turn_completes p settings x y =
    let s = x.state in
    let m = mode_of s.core.mode in
    let work = work_of settings m (operation_at p s.core.pc) s.core x.memory in
    let settled = settle_of settings.traps m work.effect.exact (state_after m work s) in
    by_test (λ (r : Step). Leads (turn_of r) y → Completes p settings x y) (eqb work.effect.trap 0)
    (λ e.
    let none = eqb-true work.effect.trap 0 e in
    by_test (λ (u : Turn Engine). Leads u y → Completes p settings x y) (eqb settled.trap 0) (λ f is. (none, is)) (λ f is. (none, is)))
    (λ e l. absurd l)

-- a call that makes a step is accepted, and so every operation at a pc is listed
pub call_listed : (file : List ℕ) (settings : Settings) (s : State) (memory : List ℕ) (budget i : ℕ) → i < (run_of file settings s memory budget).steps
    → (at : ℕ) → is_listed (operation_at (program_of file) at) ≡ true
unfolding run_of is_listed
call_listed file settings s memory budget i l at = by_place (ltb at (length p)) refl
  where
    p : List Operation
    p = program_of file

    by_refusal : (n : ℕ) → i < (if_accepted n (engine_run p settings budget s memory) (refused n s memory)).steps → n ≡ 0
    by_refusal zero l = refl
    by_refusal (suc n) l = absurd (omega arith)

    by_place : (t : Bool) → ltb at (length p) ≡ t → is_listed (operation_at p at) ≡ true
    by_place true e =
        let accepted = by_refusal (call_refusal file settings s (length memory)) l in
        file_listed file (call_file file settings s (length memory) accepted) at (ltb-true at (length p) e)
    by_place false e = rw (get_or-eq_default p EndEarly (ltb-false at (length p) e))

module _ {S : Type 0} (runs : ℕ → Result S) where
  -- step i
  abbrev pub transition : ℕ → Transition S
  transition i = record { from = (runs i).machine; to = (runs (suc i)).machine }

  listed_by : (n i : ℕ) → i < suc n → (t : Bool) → ltb i n ≡ t → (i < n → Memᴰ (transition i) (first_steps runs n))
      → Memᴰ (transition i) (first_steps runs n ++ transition n ∷ [])
  listed_by n i l true e on = Memᴰ.append_left (transition n ∷ []) (on (ltb-true i n e))
  listed_by n i l false e on =
      let same : i ≡ n = omega (arith, ltb-false i n e) in
      Memᴰ.append_right (first_steps runs n) (Memᴰ.head (ap transition same))

  -- step i is one of the first n
  pub step_listed : (n i : ℕ) → i < n → Memᴰ (transition i) (first_steps runs n)
  unfolding first_steps
  step_listed zero i l = absurd (omega arith)
  step_listed (suc n) i l = listed_by n i l (ltb i n) refl (step_listed n i)

  -- what holds of steps 0, .., n - 1 holds of each of the first n
  pub each_listed : (P : Transition S → Type 0) (n : ℕ) → ((i : ℕ) → i < n → P (transition i)) → (t : Transition S) → Memᴰ t (first_steps runs n) → P t
  unfolding first_steps
  each_listed P zero h t m = absurd (Memᴰ.not-nil m)
  each_listed P (suc n) h t m =
      ⊎_elim (each_listed P n (λ i l. h i (omega arith)) t) (λ here. subst P (sym (Memᴰ.eq_of_singleton here)) (h n (omega arith)))
      (Memᴰ.append_cases (first_steps runs n) m)

  -- there are as many as are counted
  pub steps_length : (n : ℕ) → length (first_steps runs n) ≡ n
  unfolding first_steps
  steps_length zero = refl
  steps_length (suc n) = length-append (first_steps runs n) (transition n ∷ []) ∙ rw (steps_length n) (omega arith)
