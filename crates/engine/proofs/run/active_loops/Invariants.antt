-- `run::active_loops` meets its contract. The invariant: the last operations of the loops so far. Assumes nothing.
use mathlib.Core.Path.{◌≡◌}
use lib.ListN.{length}
use Rattle.program.specs.File.{program_of}
use Rattle.engine.proofs.LastOnes.{LastsOf}
use Rattle.engine.proofs.run.active_loops.Given as goal

abbrev pub invariant-loop-i : goal.invariant-loop-i
invariant-loop-i l = (length l.lasts ≡ 5) × LastsOf (program_of l.file) l.loops.starts l.lasts l.i
