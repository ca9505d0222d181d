-- `accept::around` meets its contract. The invariant: so many of the operations passed open a loop around pc. Assumes nothing.
use Prim.Native.Nat.{◌≤◌}
use mathlib.Core.Path.{◌≡◌}
use Rattle.program.specs.File.{program_of}
use Rattle.state.specs.Accept.{around_in}
use Rattle.state.proofs.accept.Place.around.Given as goal

abbrev pub invariant-loop-d : goal.invariant-loop-d
invariant-loop-d l = (l.count ≤ l.d) × (l.count ≡ around_in (program_of l.self.file.now) l.self.pc l.d)
