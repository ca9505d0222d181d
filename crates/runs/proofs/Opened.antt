-- The runs of the engine and of the two ledgers for computation: all that they come to opened. Assumes nothing.
use Prim.Native.Nat.{ℕ}
use mathlib.Core.List.{List}
use Rattle.operations.specs.declared.operation.Operation.{Operation}
use Rattle.state.specs.declared.settings.Settings.{Settings}
use Rattle.state.specs.declared.state.State.{State}
use Rattle.machine.proofs.Opened.{after}
use Rattle.runs.specs.Run.{Result, run}
use Rattle.runs.specs.Engine.{Engine, engine_turn, engine_run}
use Rattle.runs.specs.Ledger.{Ledger, with_store, exact_trap, keep_exact, exact_turn, exact_run, ledger_run, onward_run}

-- the engine's
unfoldable pub engine : List Operation → Settings → ℕ → State → List ℕ → Result Engine
unfolding engine_run run engine_turn after
engine p settings budget s memory = engine_run p settings budget s memory

-- the ledger's of document 01
unfoldable pub exact : List Operation → Settings → ℕ → State → List ℕ → Result Ledger
unfolding exact_run run exact_turn keep_exact exact_trap with_store after
exact p settings budget s memory = ledger_run p settings budget s.core memory

-- the ledger's that goes on
unfoldable pub onward : List Operation → Settings → ℕ → State → List ℕ → Result Ledger
unfolding exact
onward p settings budget s memory = onward_run p settings budget s.core memory
