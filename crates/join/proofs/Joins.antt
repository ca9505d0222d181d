-- A slice that is filled with the joined file has all that the call promises. Assumes nothing.
use Prim.Native.Nat.{ℕ}
use mathlib.Core.List.{List}
use mathlib.Core.Path.{◌≡◌, ap, ◌∙◌, sym}
use lib.ListN.{length, take, drop}
use Rattle.std.specs.Prelude.{Result}
use lib.Seq.{take_at}
use Rattle.program.specs.Answer.{answer_bytes, Filled}
use Rattle.program.specs.Bytes.{over}
use Rattle.program.specs.File.{file_refusal, operation_count, program_of}
use Rattle.program.specs.declared.answer.Refusal.{Refusal}
use Rattle.runs.specs.Exact.{holds_clear}
use Rattle.engine.specs.Call.{run_of}
use Rattle.join.specs.Join.{joined, joined_file, join_refusal, Joinable}
use Rattle.join.specs.Call.{written_in, Joins}
use Rattle.join.proofs.Refusals.{join_accepted}
use Rattle.join.proofs.Loads.{joined_loads}
use Rattle.join.proofs.Calls.{left_accepted, joined_call, joined_clears}

module _ (first second out : List ℕ) (answer : Result ℕ Refusal) (after : List ℕ)
    (filled : Filled (join_refusal first second (length out)) (joined_file first second) out answer after) where
  -- what is written is the joined file
  written : join_refusal first second (length out) ≡ 0 → written_in answer after ≡ joined_file first second
  written none =
      let size : answer_bytes answer ≡ length (joined_file first second) = rw none at filled.bytes in
      let content : after ≡ over (joined_file first second) out = rw none at filled.content in
      ap (take (answer_bytes answer)) content
      ∙ take_at (joined_file first second) (drop (length (joined_file first second)) out) (answer_bytes answer) (sym size)

  joinable : join_refusal first second (length out) ≡ 0 → Joinable first second (operation_count first)
  joinable none = join_accepted first second (length out) none

  as_joined : join_refusal first second (length out) ≡ 0 → program_of (written_in answer after) ≡ joined (program_of first) (program_of second)
  as_joined none = ap program_of (written none) ∙ (joined_loads first second (operation_count first) (joinable none)).1

  pub joins : Joins first second out answer after
  joins =
      record {
        filled = filled;
        loads = λ none. ap file_refusal (written none) ∙ (joined_loads first second (operation_count first) (joinable none)).0;
        program = as_joined;
        runs =
            λ none settings s memory budget typed ram start.
            ap (λ (file : List ℕ). run_of file settings s memory budget) (written none)
            ∙ joined_call first second (joinable none) settings s memory budget typed ram start;
        accepted = λ none settings s memory budget typed ram. left_accepted first second (joinable none) settings s memory budget typed ram;
        clears = λ none. ap holds_clear (as_joined none) ∙ joined_clears (program_of first) (program_of second);
      }
