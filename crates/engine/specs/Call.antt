-- The call for a run: refused, or run; exact sums; exact even after overflow.
use Rattle.std.specs.Prelude.{ℕ, ◌≤◌, true, false, List, [], ◌≡◌, length}
use Rattle.program.specs.Answer.{if_accepted}
use Rattle.program.specs.File.{program_of}
use Rattle.state.specs.declared.settings.Settings.{Settings}
use Rattle.state.specs.declared.state.State.{State}
use Rattle.machine.specs.Single.{call_refusal}
use Rattle.endings.specs.Ending.{is_run_ending, name_of, number_of}
use Rattle.endings.specs.declared.ending.Ending.TheVariants.{Refused}
use Rattle.runs.specs.Run.{Stop, Result}
use Rattle.runs.specs.Run.Stop.{ended, left}
use Rattle.runs.specs.Engine.{Engine, engine_run}
use Rattle.runs.specs.Ledger.{ledger_run, onward_run}
use Rattle.runs.specs.Exact.{holds_clear, FlagsClear, ExactSums}
use Rattle.runs.specs.Wraps.{holds_barred, is_saturating, Wraps}
use Rattle.engine.specs.declared.outcome.Outcome.{Outcome}

-- an outcome and the memory that is left, as a run's result
abbrev pub result_of : Outcome → List ℕ → Result Engine
result_of r memory = record { machine = record { state = r.state; memory = memory }; steps = r.steps; stop = ended r.ending }

-- every refusal returns the state as given and 0 steps, and writes to no lent slice
abbrev pub refused : ℕ → State → List ℕ → Result Engine
refused n s memory = record { machine = record { state = s; memory = memory }; steps = 0; stop = ended (Refused n) }

-- refusals 1 to 7 in their order, else the run of the file's program
unfoldable pub run_of : List ℕ → Settings → State → List ℕ → ℕ → Result Engine
run_of file settings s memory budget =
    let refusal = call_refusal file settings s (length memory) in
    if_accepted refusal (engine_run (program_of file) settings budget s memory) (refused refusal s memory)

-- how a run stops, by the paper's name; "left" is the ledger's alone
abbrev pub stop_name : Stop → List ℕ
stop_name (ended e) = name_of e
stop_name left = []

-- its number by the paper; "left" has none: 0
abbrev pub stop_number : Stop → ℕ
stop_number (ended e) = number_of e
stop_number left = 0

-- what the call's outcome r and the memory after it are promised to be
pub record Runs (file : List ℕ) (settings : Settings) (s : State) (memory : List ℕ) (budget : ℕ) (r : Outcome) (after : List ℕ) : Type 0 where
  -- the refusal, or the run by the definition of stepping and ending
  pub runs : result_of r after ≡ run_of file settings s memory budget
  -- its ending is done, spent, trap1..trap7 or refused1..refused7
  pub ends : is_run_ending r.ending ≡ true
  -- its ending by the paper's name and number
  pub name : name_of r.ending ≡ stop_name (run_of file settings s memory budget).stop
  pub number : number_of r.ending ≡ stop_number (run_of file settings s memory budget).stop
  -- within its budget
  pub within : r.steps ≤ budget
  -- an accepted call returns a state that is accepted again, for every ending
  pub again : call_refusal file settings s (length memory) ≡ 0 → call_refusal file settings r.state (length after) ≡ 0
  -- exact sums: an accepted call, no operation that clears a saturation flag, both flags clear
  pub exact :
      call_refusal file settings s (length memory) ≡ 0 → holds_clear (program_of file) ≡ false → FlagsClear s →
      ExactSums (program_of file) settings s memory (result_of r after) (ledger_run (program_of file) settings budget s.core memory)
  -- exact even after overflow: an accepted call, no barred operation, both saturations off, trap word 0
  pub wraps :
      call_refusal file settings s (length memory) ≡ 0 → holds_barred (program_of file) ≡ false → is_saturating s.core.mode ≡ false →
      settings.traps ≡ 0 → Wraps (result_of r after) (onward_run (program_of file) settings budget s.core memory)
