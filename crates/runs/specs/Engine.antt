-- The engine's run.
use Rattle.std.specs.Prelude.{ℕ, Bool, cond, List, eqb, length}
use Rattle.operations.specs.declared.operation.Operation.{Operation}
use Rattle.state.specs.declared.settings.Settings.{Settings}
use Rattle.state.specs.declared.state.State.{State}
use Rattle.machine.specs.Step.{Step, stepped}
use Rattle.endings.specs.declared.ending.Ending.TheVariants.{Trap}
use Rattle.runs.specs.Run.{Turn, Result, complete, run}
use Rattle.runs.specs.Run.Stop.{ended}
use Rattle.runs.specs.Run.Turn.{over}

-- the engine: its state, and the memory that it was lent
pub record Engine : Type 0 where
  pub state : State
  pub memory : List ℕ

-- traps 1 to 4: no effect and no step; otherwise the step is complete and counted, also with traps 5 to 7
abbrev pub turn_of : Step → Turn Engine
turn_of r = cond r.counted (complete r.trap (record { state = r.state; memory = r.memory })) (over (ended (Trap r.trap)))

-- the operation at pc is executed
unfoldable pub engine_turn : List Operation → Settings → Engine → Turn Engine
engine_turn p settings x = turn_of (stepped p settings x.state x.memory)

-- done: pc = count of operations
abbrev pub engine_done : List Operation → Engine → Bool
engine_done p x = eqb x.state.core.pc (length p)

-- with n left of the budget and k steps made
abbrev pub engine_from : List Operation → Settings → ℕ → ℕ → Engine → Result Engine
engine_from p settings n k x = run (engine_done p) (λ k' x'. engine_turn p settings x') n k x

-- the run of a program from a state and a memory, under a budget
unfoldable pub engine_run : List Operation → Settings → ℕ → State → List ℕ → Result Engine
engine_run p settings budget s memory = engine_from p settings budget 0 (record { state = s; memory = memory })
