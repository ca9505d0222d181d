-- One step as a call: refusals 1 to 7 in their order, or done, or the operation at pc executed once.
use Rattle.std.specs.Prelude.{ℕ, cond, ◌≡◌, List, eqb, length}
use Rattle.operations.specs.declared.operation.Operation.{Operation}
use Rattle.program.specs.Answer.{◌then◌, if_accepted}
use Rattle.program.specs.File.{file_refusal, program_of}
use Rattle.state.specs.Settings.{settings_refusal}
use Rattle.state.specs.Accept.{state_refusal}
use Rattle.state.specs.declared.settings.Settings.{Settings}
use Rattle.state.specs.declared.state.State.{State}
use Rattle.machine.specs.Step.{Step, uncounted, stepped}
use Rattle.machine.specs.declared.single.SingleStep.{SingleStep}

-- 1 to 5 of the file; 6; 7
unfoldable pub call_refusal : List ℕ → Settings → State → ℕ → ℕ
call_refusal file settings s words = file_refusal file then settings_refusal settings words then state_refusal (program_of file) s

-- done (pc = count of operations), else execute
unfoldable pub done_or_stepped : List Operation → Settings → State → List ℕ → Step
done_or_stepped p settings s memory = cond (eqb s.core.pc (length p)) (uncounted s memory 0) (stepped p settings s memory)

-- the call's answer r and the memory that it leaves: the refusal; state, memory, trap and count of the step. A refusal leaves both as they came
pub record Steps (file : List ℕ) (settings : Settings) (s : State) (memory : List ℕ) (r : SingleStep) (after : List ℕ) : Type 0 where
  pub refusal : r.refusal ≡ call_refusal file settings s (length memory)
  pub left :
      record { state = r.state; memory = after; trap = r.trap; counted = r.counted }
      ≡ if_accepted (call_refusal file settings s (length memory)) (done_or_stepped (program_of file) settings s memory) (uncounted s memory 0)
