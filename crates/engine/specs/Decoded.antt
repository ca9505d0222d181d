-- The call for a run over decoded operations: the call for a run, with refusal 8 and what the lent slice holds.
use Rattle.std.specs.Prelude.{ℕ, ◌*◌, List, ◌≡◌, length}
use Rattle.program.specs.Answer.{◌then◌, if_accepted, room_refusal}
use Rattle.program.specs.Bytes.{over}
use Rattle.program.specs.File.{operation_count, program_of}
use Rattle.form.specs.Form.{form_of}
use Rattle.state.specs.declared.settings.Settings.{Settings}
use Rattle.state.specs.declared.state.State.{State}
use Rattle.machine.specs.Single.{call_refusal}
use Rattle.endings.specs.Ending.{name_of, number_of}
use Rattle.endings.specs.declared.ending.Ending.TheVariants.{Refused}
use Rattle.engine.specs.Call.{result_of, refused, Runs}
use Rattle.engine.specs.declared.outcome.Outcome.{Outcome}

-- refusals 1 to 7 of a run, then 8 for a slice of fewer than 16 words for each operation
unfoldable pub decoded_refusal : List ℕ → Settings → State → ℕ → ℕ → ℕ
decoded_refusal file settings s memory_words slice_words =
    call_refusal file settings s memory_words then room_refusal (16 * operation_count file) slice_words

-- what the call's outcome r, the memory after it and the slice after it are promised to be; the slice came as `lent`
pub record RunsDecoded (file : List ℕ) (settings : Settings) (s : State) (memory : List ℕ) (budget : ℕ) (lent : List ℕ) (r : Outcome) (after slice : List ℕ) : Type 0 where
  -- 8: a slice too short, where nothing before it is refused
  pub short : decoded_refusal file settings s (length memory) (length lent) ≡ 8 → result_of r after ≡ refused 8 s memory
  -- its ending by the paper's name and number
  pub name : decoded_refusal file settings s (length memory) (length lent) ≡ 8 → name_of r.ending ≡ name_of (Refused 8)
  pub number : decoded_refusal file settings s (length memory) (length lent) ≡ 8 → number_of r.ending ≡ 8
  -- otherwise all that the call on the file promises
  pub runs : (decoded_refusal file settings s (length memory) (length lent) ≡ 8 → ⊥) → Runs file settings s memory budget r after
  -- the words of each operation in order, whatever the run came to, then what lay past them; on a refusal the slice as it came
  pub words : slice ≡ if_accepted (decoded_refusal file settings s (length memory) (length lent)) (over (form_of (program_of file)) lent) lent
