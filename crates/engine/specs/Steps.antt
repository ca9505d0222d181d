-- The steps of a call for a run.
use Rattle.std.specs.Prelude.{ℕ, List}
use Rattle.state.specs.declared.settings.Settings.{Settings}
use Rattle.state.specs.declared.state.State.{State}
use Rattle.runs.specs.Engine.{Engine}
use Rattle.runs.specs.Steps.{Transition, steps_of}
use Rattle.engine.specs.Call.{run_of}

-- the steps of a call for a run; a refused one has none
abbrev pub call_steps : List ℕ → Settings → State → List ℕ → ℕ → List (Transition Engine)
call_steps file settings s memory budget = steps_of (run_of file settings s memory) budget
