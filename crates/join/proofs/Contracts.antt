-- What the contracts of `join` and `run` alone say of their calls in a row. Assumes nothing.
use Prim.Native.Nat.{ℕ, suc, ◌-◌}
use mathlib.Core.Bool.{true, false}
use mathlib.Core.List.{List}
use mathlib.Core.Path.{◌≡◌, sym, subst, ap, ◌∙◌}
use lib.ListN.{length, drop}
use Rattle.std.specs.Prelude.{Result as Answered}
use lib.Seq.{drop_at}
use Rattle.operations.specs.declared.operation.Operation.{Operation}
use Rattle.program.specs.Answer.{answer_number, answer_bytes}
use Rattle.program.specs.Bytes.{over}
use Rattle.program.specs.File.{operation_count, program_of}
use Rattle.program.specs.declared.answer.Refusal.{Refusal}
use Rattle.state.specs.State.{restarted_state}
use Rattle.state.specs.Typed.{AreWords, Typed}
use Rattle.state.specs.declared.settings.Settings.{Settings}
use Rattle.state.specs.declared.state.State.{State}
use Rattle.machine.specs.Single.{call_refusal}
use Rattle.machine.proofs.Calls.{call_settings, call_state}
use Rattle.runs.specs.Run.{is_done, Result}
use Rattle.runs.specs.Run.Stop.{ended}
use Rattle.runs.specs.Engine.{Engine, engine_run}
use Rattle.runs.specs.Ledger.{ledger_run}
use Rattle.runs.specs.Exact.{holds_clear, FlagsClear, ExactSums}
use Rattle.engine.specs.Call.{result_of, run_of, Runs}
use Rattle.engine.specs.declared.outcome.Outcome.{Outcome}
use Rattle.join.specs.Join.{joined, joined_file, join_refusal}
use Rattle.join.specs.Both.{moved_result, runs_both}
use Rattle.join.specs.Call.{written_in, Joins}
use Rattle.join.proofs.Calls.{begun_refusal}

-- ---- the lent slice

-- on a refusal it stays, and no byte is written
pub refused_stays : (first second out : List ℕ) (answer : Answered ℕ Refusal) (after : List ℕ) (k : ℕ) → join_refusal first second (length out) ≡ suc k
    → Joins first second out answer after → (answer_number answer ≡ suc k) × (answer_bytes answer ≡ 0) × (after ≡ out)
refused_stays first second out answer after k some made =
    (made.filled.number ∙ some, rw some at made.filled.bytes, rw some at made.filled.content)

module _ (first second out : List ℕ) (answer : Answered ℕ Refusal) (after : List ℕ) (none : join_refusal first second (length out) ≡ 0)
    (made : Joins first second out answer after) where
  -- else what lies past the joined file stays
  pub rest_stays : (answer_number answer ≡ 0) × (drop (answer_bytes answer) after ≡ drop (answer_bytes answer) out)
  rest_stays =
      let file = joined_file first second in
      let size : answer_bytes answer ≡ length file = rw none at made.filled.bytes in
      let content : after ≡ over file out = rw none at made.filled.content in (
        made.filled.number ∙ none,
        ap (drop (answer_bytes answer)) content
            ∙ drop_at file (drop (length file) out) (answer_bytes answer) (sym size)
            ∙ ap (λ (n : ℕ). drop n out) (sym size),
      )

  module _ (settings : Settings) (s : State) (memory : List ℕ) (budget : ℕ) where
    -- ---- runs

    module _ (typed : Typed s.core) (ram : AreWords memory) (r₁ : Outcome) (left₁ : List ℕ) (one : Runs first settings s memory budget r₁ left₁) where
      module _ (start : s.core.pc ≡ 0) (r : Outcome) (left : List ℕ) (whole : Runs (written_in answer after) settings s memory budget r left) where
        -- the first is not done: the joined file's outcome and memory are the first's
        pub as_first : is_done (ended r₁.ending) ≡ false → result_of r left ≡ result_of r₁ left₁
        unfolding runs_both
        as_first undone = whole.runs ∙ made.runs none settings s memory budget typed ram start ∙ rw (← one.runs, undone)

        -- it is done: the second's, from what the first returned, restarted, with what is left of the budget; counted from the joined file's start
        pub as_second : is_done (ended r₁.ending) ≡ true → (r₂ : Outcome) (left₂ : List ℕ)
            → Runs second settings (restarted_state r₁.state) left₁ (budget - r₁.steps) r₂ left₂
            → result_of r left ≡ moved_result (operation_count first) r₁.steps (result_of r₂ left₂)
        unfolding runs_both
        as_second done r₂ left₂ two =
            whole.runs ∙ made.runs none settings s memory budget typed ram start ∙ rw (← one.runs, done, ← two.runs)

      -- where the first's call is not refused, the second's is not: it is the run of its program
      pub second_runs : call_refusal first settings s (length memory) ≡ 0 → (m : ℕ) (r₂ : Outcome) (left₂ : List ℕ)
          → Runs second settings (restarted_state r₁.state) left₁ m r₂ left₂
          → result_of r₂ left₂ ≡ engine_run (program_of second) settings m (restarted_state r₁.state) left₁
      unfolding run_of
      second_runs accepted m r₂ left₂ two =
          let none₂ : call_refusal second settings (restarted_state r₁.state) (length left₁) ≡ 0 =
          subst (λ (x : Result Engine). call_refusal second settings (restarted_state x.machine.state) (length x.machine.memory) ≡ 0) (sym one.runs)
          (made.accepted none settings s memory budget typed ram accepted) in
          rw none₂ at two.runs

    -- ---- exact sums

    -- where the first's call is not refused at pc 0, the joined file's is not
    pub joined_accepts : s.core.pc ≡ 0 → call_refusal first settings s (length memory) ≡ 0
        → call_refusal (written_in answer after) settings s (length memory) ≡ 0
    unfolding call_refusal
    joined_accepts start accepted =
        let words = length memory in
        rw (
          made.loads none,
          call_settings first settings s words accepted,
          begun_refusal (program_of (written_in answer after)) (program_of first) s start,
          call_state first settings s words accepted,
        )

    -- exact sums of a joined file begun at pc 0: no operation that clears a saturation flag in either file, both flags clear
    pub joined_exact : s.core.pc ≡ 0 → call_refusal first settings s (length memory) ≡ 0 → holds_clear (program_of first) ≡ false
        → holds_clear (program_of second) ≡ false → FlagsClear s → (r : Outcome) (left : List ℕ) → Runs (written_in answer after) settings s memory budget r left
        → let p = joined (program_of first) (program_of second) in
        ExactSums p settings s memory (result_of r left) (ledger_run p settings budget s.core memory)
    joined_exact start accepted clear clear' flags r left whole =
        subst (λ (p : List Operation). ExactSums p settings s memory (result_of r left) (ledger_run p settings budget s.core memory)) (made.program none)
        (whole.exact (joined_accepts start accepted) (made.clears none ∙ rw (clear, clear')) flags)
