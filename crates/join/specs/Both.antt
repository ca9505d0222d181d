-- Two runs one after the other, counted from the joined program's start.
use Rattle.std.specs.Prelude.{ℕ, zero, suc, ◌+◌, ◌-◌, cond, List, [], ◌∷◌}
use Rattle.program.specs.File.{operation_count}
use Rattle.state.specs.State.{go_to, restarted_state}
use Rattle.state.specs.declared.settings.Settings.{Settings}
use Rattle.state.specs.declared.state.Loops.{Loops}
use Rattle.state.specs.declared.state.Core.{Core}
use Rattle.state.specs.declared.state.State.{State}
use Rattle.runs.specs.Run.{is_done, Result}
use Rattle.runs.specs.Engine.{Engine}
use Rattle.engine.specs.Call.{run_of}

-- ---- counted from the joined program's start: n operations come before the second's

-- the first d numbers of a list
abbrev pub moved_starts : ℕ → ℕ → List ℕ → List ℕ
moved_starts n zero l = l
moved_starts n (suc d) [] = []
moved_starts n (suc d) (x ∷ l) = (n + x) ∷ moved_starts n d l

-- the DO numbers of the active loops; a slot that is not in use stays zero
abbrev pub moved_loops : ℕ → Loops → Loops
moved_loops n l = record { starts = moved_starts n l.depth l.starts; passes = l.passes; depth = l.depth }

-- pc and the DO numbers; everything else stays
abbrev pub moved_core : ℕ → Core → Core
moved_core n c = go_to c (n + c.pc) (moved_loops n c.loops) c.repeat

-- of a state, which keeps its S flags
abbrev pub moved_state : ℕ → State → State
moved_state n s = record { core = moved_core n s.core; sa = s.sa; sb = s.sb }

-- of the engine, which keeps its memory
abbrev pub moved_engine : ℕ → Engine → Engine
moved_engine n x = record { state = moved_state n x.state; memory = x.memory }

-- of a result, with k steps made before it: both step counts are added
abbrev pub moved_result : ℕ → ℕ → Result Engine → Result Engine
moved_result n k r = record { machine = moved_engine n r.machine; steps = k + r.steps; stop = r.stop }

-- ---- the second after the first

-- the call for a run of the second file, where r is the first's result and n its count: from the state and memory left, at its own first operation, with what
-- is left of the budget
abbrev pub sequel : ℕ → List ℕ → Settings → ℕ → Result Engine → Result Engine
sequel n second settings budget r =
    moved_result n r.steps (run_of second settings (restarted_state r.machine.state) r.machine.memory (budget - r.steps))

-- the call for a run of the first file and, if that is done, of the second
unfoldable pub runs_both : List ℕ → List ℕ → Settings → State → List ℕ → ℕ → Result Engine
runs_both first second settings s memory budget =
    let r = run_of first settings s memory budget in
    cond (is_done r.stop) (sequel (operation_count first) second settings budget r) r
