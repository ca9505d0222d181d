-- The call that joins two files: refused, or the joined file is written, and what a run of it comes to.
use Rattle.std.specs.Prelude.{ℕ, ◌||◌, List, ◌≡◌, length, take, Result}
use Rattle.program.specs.Answer.{answer_bytes, Filled}
use Rattle.program.specs.File.{file_refusal, program_of}
use Rattle.program.specs.declared.answer.Refusal.{Refusal}
use Rattle.state.specs.State.{restarted_state}
use Rattle.state.specs.Typed.{AreWords, Typed}
use Rattle.state.specs.declared.settings.Settings.{Settings}
use Rattle.state.specs.declared.state.State.{State}
use Rattle.machine.specs.Single.{call_refusal}
use Rattle.runs.specs.Exact.{holds_clear}
use Rattle.engine.specs.Call.{run_of}
use Rattle.join.specs.Join.{joined, joined_file, join_refusal}
use Rattle.join.specs.Both.{runs_both}

-- the bytes that a call has written
abbrev pub written_in : Result ℕ Refusal → List ℕ → List ℕ
written_in answer after = take (answer_bytes answer) after

-- what the call's answer and the lent slice after it are promised to be
pub record Joins (first second out : List ℕ) (answer : Result ℕ Refusal) (after : List ℕ) : Type 0 where
  -- the refusal, or the joined file at the slice's start
  pub filled : Filled (join_refusal first second (length out)) (joined_file first second) out answer after
  -- the file written loads
  pub loads : join_refusal first second (length out) ≡ 0 → file_refusal (written_in answer after) ≡ 0
  -- as the joined program
  pub program : join_refusal first second (length out) ≡ 0 → program_of (written_in answer after) ≡ joined (program_of first) (program_of second)
  -- begun at its first operation, a call for a run of it is the call for a run of the first file and, if that is done, of the second: for all settings, states
  -- and memories of the code's types, refused ones too, and every budget
  pub runs :
      join_refusal first second (length out) ≡ 0 → (settings : Settings) (s : State) (memory : List ℕ) (budget : ℕ) → Typed s.core → AreWords memory →
      s.core.pc ≡ 0 → run_of (written_in answer after) settings s memory budget ≡ runs_both first second settings s memory budget
  -- where the first's call is not refused, the second's is not
  pub accepted :
      join_refusal first second (length out) ≡ 0 → (settings : Settings) (s : State) (memory : List ℕ) (budget : ℕ) → Typed s.core → AreWords memory →
      call_refusal first settings s (length memory) ≡ 0 →
      let x = (run_of first settings s memory budget).machine in
      call_refusal second settings (restarted_state x.state) (length x.memory) ≡ 0
  -- exact sums: it holds an operation that clears a saturation flag exactly where one of the two files does
  pub clears :
      join_refusal first second (length out) ≡ 0 →
      holds_clear (program_of (written_in answer after)) ≡ (holds_clear (program_of first) || holds_clear (program_of second))
