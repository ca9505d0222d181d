-- `accept::stand` meets its contract. The invariant: the loops around pc that the operations passed open are counted, and stand in their slots.
use Prim.Native.Nat.{◌≤◌}
use mathlib.Core.Path.{◌≡◌}
use Rattle.program.specs.File.{program_of}
use Rattle.state.specs.Accept.{around_in, stand_in}
use Rattle.state.proofs.accept.Place.stand.Given as goal

-- Assumes nothing.
abbrev pub invariant-loop-d : goal.invariant-loop-d
invariant-loop-d l =
    (l.count ≤ l.d) × (l.count ≡ around_in (program_of l.self.file.now) l.self.pc l.d) × (l.good ≡ stand_in (program_of l.self.file.now) l.self.pc l.starts l.d)
