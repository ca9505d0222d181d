-- A call for a run of the joined file is the first file's call and, where that is done, the second's after it. Assumes nothing.
use Prim.Native.Nat.{ℕ, zero, suc}
use mathlib.Core.Bool.{Bool, ◌||◌}
use mathlib.Core.List.{List, map}
use mathlib.Core.Path.{◌≡◌, refl, ap, ◌∙◌}
use lib.Dec.{leb-zero}
use lib.ListN.{length}
use Rattle.operations.specs.Encode.{encode_of}
use Rattle.operations.specs.declared.operation.Operation.{Operation}
use Rattle.program.specs.Answer.{◌then◌, if_accepted}
use Rattle.program.specs.File.{file_refusal, operation_count, program_of}
use Rattle.program.proofs.Accepted.{program_length}
use Rattle.program.proofs.Answers.{then_first, then_second}
use Rattle.state.specs.State.{restarted_state}
use Rattle.state.specs.Settings.{settings_refusal}
use Rattle.state.specs.Accept.{are_loops, is_repeat_left, is_state, state_refusal}
use Rattle.state.specs.Typed.{AreWords, Typed}
use Rattle.state.specs.declared.settings.Settings.{Settings}
use Rattle.state.specs.declared.state.State.{State}
use Rattle.state.proofs.Parts.{restart_accepted}
use Rattle.machine.specs.Control.{control_of, clears}
use Rattle.machine.specs.Single.{call_refusal}
use Rattle.machine.proofs.Stands.{accepted_stands, stands_accepted}
use Rattle.machine.proofs.Calls.{call_settings, call_state}
use Rattle.runs.specs.Run.{is_done, Result}
use Rattle.runs.specs.Engine.{Engine, engine_run}
use Rattle.runs.specs.Exact.{holds_clear}
use Rattle.runs.specs.Wraps.{is_barred, holds_barred}
use Rattle.runs.specs.Holds.{holds}
use Rattle.runs.proofs.Holds.{holds_append, holds_map}
use Rattle.engine.specs.Call.{refused, run_of}
use Rattle.legs.proofs.Fits.{Fit, run_fits}
use Rattle.legs.proofs.Runs.{then_on}
use Rattle.join.specs.Join.{moved_operation, joined, joined_file, Joinable}
use Rattle.join.specs.Both.{moved_result, runs_both}
use Rattle.join.proofs.Moved.{by_moved}
use Rattle.join.proofs.Steps.{moved_control}
use Rattle.join.proofs.Loads.{file_accepted, joined_loads}
use Rattle.join.proofs.Sequel.{joined_runs}

-- a state at the first operation is accepted for every program or for none
pub begun_refusal : (p q : List Operation) (s : State) → s.core.pc ≡ 0 → state_refusal p s ≡ state_refusal q s
unfolding state_refusal is_state are_loops is_repeat_left
begun_refusal p q s start = rw (start, leb-zero (length p), leb-zero (length q))

-- an accepted file's call is refused for its settings or its state alone
call_is : (file : List ℕ) (settings : Settings) (s : State) (memory : List ℕ) (budget : ℕ) (p : List Operation) → file_refusal file ≡ 0 → program_of file ≡ p
    → let refusal = settings_refusal settings (length memory) then state_refusal p s in
    run_of file settings s memory budget ≡ if_accepted refusal (engine_run p settings budget s memory) (refused refusal s memory)
unfolding run_of call_refusal
call_is file settings s memory budget p ok is = rw (ok, is)

module _ (first second : List ℕ) (h : Joinable first second (operation_count first)) (settings : Settings) where
  abbrev p : List Operation
  p = program_of first

  abbrev q : List Operation
  q = program_of second

  -- what the first leaves, at the second's first operation, is accepted
  left_refusal : (words : ℕ) (x : Engine) → settings_refusal settings words ≡ 0 → Fit p words x
      → call_refusal second settings (restarted_state x.state) (length x.memory) ≡ 0
  unfolding call_refusal
  left_refusal words x fits fit =
      rw (h.second_accepted, fit.long, fits, restart_accepted p q x.state (stands_accepted p x.state fit.stands))

  -- the second's call where the first is done
  abbrev on : ℕ → ℕ → Engine → Result Engine
  on m k x = moved_result (operation_count first) k (run_of second settings (restarted_state x.state) x.memory m)

  second_call : (words m k : ℕ) (x : Engine) → settings_refusal settings words ≡ 0 → Fit p words x
      → moved_result (length p) k (engine_run q settings m (restarted_state x.state) x.memory) ≡ on m k x
  unfolding run_of
  second_call words m k x fits fit = rw (left_refusal words x fits fit, ← program_length first h.first_accepted)

  module _ (s : State) (memory : List ℕ) (budget : ℕ) (typed : Typed s.core) (ram : AreWords memory) where
    -- the engine at the call's start
    start_fits : state_refusal p s ≡ 0 → Fit p (length memory) (record { state = s; memory = memory })
    start_fits accepted = record { stands = accepted_stands p s typed accepted; ram = ram; long = refl }

    -- where the first's call is not refused, the second's is not
    pub left_accepted : call_refusal first settings s (length memory) ≡ 0
        → let x = (run_of first settings s memory budget).machine in
        call_refusal second settings (restarted_state x.state) (length x.memory) ≡ 0
    unfolding run_of
    left_accepted none =
        let words = length memory in
        let ok = file_accepted first h.first_accepted in
        rw none
        (left_refusal words (engine_run p settings budget s memory).machine (call_settings first settings s words none)
        (run_fits p ok.placed ok.listed settings words budget (record { state = s; memory = memory }) (start_fits (call_state first settings s words none))))

    -- refused or accepted
    call_both : (n : ℕ) → settings_refusal settings (length memory) then state_refusal p s ≡ n
        → if_accepted n (engine_run (joined p q) settings budget s memory) (refused n s memory)
        ≡ then_on is_done on budget (if_accepted n (engine_run p settings budget s memory) (refused n s memory))
    call_both zero e =
        let fits = then_first (settings_refusal settings (length memory)) (state_refusal p s) e in
        joined_runs p q (file_accepted first h.first_accepted) (file_accepted second h.second_accepted) settings (length memory) budget s memory
        (start_fits (then_second (settings_refusal settings (length memory)) (state_refusal p s) e)) on
        (λ m k x fit. second_call (length memory) m k x fits fit)
    call_both (suc n) e = refl

    pub joined_call : s.core.pc ≡ 0 → run_of (joined_file first second) settings s memory budget ≡ runs_both first second settings s memory budget
    unfolding runs_both
    joined_call start =
        let (loads, is) = joined_loads first second (operation_count first) h in
        rw (
          call_is (joined_file first second) settings s memory budget (joined p q) loads is,
          call_is first settings s memory budget p h.first_accepted refl,
          begun_refusal (joined p q) p s start,
        )
        (call_both (settings_refusal settings (length memory) then state_refusal p s) refl)

-- ---- the premises of exact sums and of exact even after overflow: the joined program holds what one of its parts holds

joined_holds : (is_such : Operation → Bool) → ((n : ℕ) (o : Operation) → is_such (moved_operation n o) ≡ is_such o)
    → (p q : List Operation) → holds is_such (joined p q) ≡ (holds is_such p || holds is_such q)
unfolding joined
joined_holds is_such same p q =
    holds_append is_such p (map (moved_operation (length p)) q)
    ∙ ap (λ (t : Bool). holds is_such p || t) (holds_map is_such (moved_operation (length p)) (same (length p)) q)

pub joined_clears : (p q : List Operation) → holds_clear (joined p q) ≡ (holds_clear p || holds_clear q)
joined_clears = joined_holds (λ o. clears (control_of o)) (λ n o. ap clears (moved_control n o))

pub joined_barred : (p q : List Operation) → holds_barred (joined p q) ≡ (holds_barred p || holds_barred q)
unfolding is_barred encode_of
joined_barred =
    joined_holds is_barred (λ n. by_moved n (λ o o'. is_barred o' ≡ is_barred o) (λ o e z. refl) (λ count last. refl) (λ r last. refl))
