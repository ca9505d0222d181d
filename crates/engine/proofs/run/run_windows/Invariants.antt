-- `run::run_windows` meets its contract. The invariant: the run from the start goes on from what is held, and the words at hand are the file's. Assumes
-- nothing.
use mathlib.Core.Path.{◌≡◌}
use Prim.Native.Nat.{◌-◌}
use lib.ListN.{length}
use Rattle.program.specs.File.{program_of}
use Rattle.stepping.specs.Turned.{held}
use Rattle.legs.proofs.Legs.{Way}
use Rattle.engine.specs.Span.{Covers, whole_of}
use Rattle.engine.proofs.run.run_windows.Given as goal

abbrev pub invariant-loop-f : goal.invariant-loop-f
invariant-loop-f l =
    Way (program_of l.file) l.settings l.budget (held l.initial.registers l.initial.memory) l.initial.f l.initial.steps (held l.registers l.memory) l.f l.steps
    × (Covers l.file l.words l.at × (length l.words ≡ length l.initial.words × (l.initial.at ≡ whole_of l.file → (l.at ≡ l.initial.at) × (l.words ≡ l.initial.words))))

abbrev pub decreases-loop-f : goal.decreases-loop-f
decreases-loop-f l = l.budget - l.steps
