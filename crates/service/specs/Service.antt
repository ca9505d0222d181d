-- A service: a run for each bag; accumulators, registers and memory carry on from bag to bag.
use Rattle.std.specs.Prelude.{ℕ, Bool, false, cond, List, [], ◌∷◌}
use Rattle.operations.specs.declared.operation.Operation.{Operation}
use Rattle.state.specs.State.{go_to, no_loops, restarted_state}
use Rattle.state.specs.declared.settings.Settings.{Settings}
use Rattle.state.specs.declared.state.Core.{Core}
use Rattle.state.specs.declared.state.State.{State}
use Rattle.runs.specs.Run.{is_left, Result}
use Rattle.runs.specs.Engine.{Engine, engine_run}
use Rattle.runs.specs.Ledger.{Ledger, ledger_run}
use Rattle.engine.specs.Call.{run_of}

-- a bag: what the controller makes of the memory, whether the program starts again, and the budget of the run
pub record Bag : Type 0 where
  pub fills : List ℕ → List ℕ
  pub restarts : Bool
  pub budget : ℕ

-- a bag that goes on where the last run stopped, with the memory as it is
abbrev pub onward : ℕ → Bag
onward budget = record { fills = λ memory. memory; restarts = false; budget = budget }

-- ---- the engine's service

abbrev pub engine_of : State → List ℕ → Engine
engine_of s memory = record { state = s; memory = memory }

-- the engine as the controller hands it to a bag's run
abbrev pub engine_before : Bag → Engine → Engine
engine_before b x = engine_of (cond b.restarts (restarted_state x.state) x.state) (b.fills x.memory)

-- to the first bag's; without a bag as it is
abbrev pub first_before : List Bag → Engine → Engine
first_before [] x = x
first_before (b ∷ bags) x = engine_before b x

-- a bag served: the engine that its run began with, and how the run ended
pub record Served : Type 0 where
  pub before : Engine
  pub result : Result Engine

-- one bag
abbrev pub engine_served : List Operation → Settings → Bag → Engine → Served
engine_served p settings b x =
    let z = engine_before b x in
    record { before = z; result = engine_run p settings b.budget z.state z.memory }

-- every bag, each from what the one before it left
unfoldable pub engine_service : List Operation → Settings → Engine → List Bag → List Served
engine_service p settings x [] = []
engine_service p settings x (b ∷ bags) =
    engine_served p settings b x ∷ engine_service p settings (engine_served p settings b x).result.machine bags

-- the engine after the last bag of a service that began with x
abbrev pub engine_after : Engine → List Served → Engine
engine_after x [] = x
engine_after x (u ∷ us) = engine_after u.result.machine us

-- the same by calls for a run of a file, refusals and all
abbrev pub call_served : List ℕ → Settings → Bag → Engine → Served
call_served file settings b x =
    let z = engine_before b x in
    record { before = z; result = run_of file settings z.state z.memory b.budget }

unfoldable pub call_service : List ℕ → Settings → Engine → List Bag → List Served
call_service file settings x [] = []
call_service file settings x (b ∷ bags) =
    call_served file settings b x ∷ call_service file settings (call_served file settings b x).result.machine bags

-- ---- the ledger's service

-- its own core, which starts again where the bag does
abbrev pub ledger_before : Bag → Core → Core
ledger_before b c = cond b.restarts (go_to c 0 no_loops 0) c

-- one bag, from its own core and memory, to which the controller does the same
abbrev pub ledger_served : List Operation → Settings → Bag → Core → List ℕ → Result Ledger
ledger_served p settings b c memory = ledger_run p settings b.budget (ledger_before b c) (b.fills memory)

-- every bag up to the first whose run leaves the limits, that one included; each has a list of stores of its own
unfoldable pub ledger_service : List Operation → Settings → Core → List ℕ → List Bag → List (Result Ledger)
ledger_service p settings c memory [] = []
ledger_service p settings c memory (b ∷ bags) =
    let r = ledger_served p settings b c memory in
    r ∷ cond (is_left r.stop) [] (ledger_service p settings r.machine.core r.machine.memory bags)
