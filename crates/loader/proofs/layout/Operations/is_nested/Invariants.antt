-- `Operations::is_nested` meets its contract. The invariant: every DO so far ends below the last.
use mathlib.Core.Path.{◌≡◌}
use mathlib.Core.Bool.{true}
use Rattle.program.specs.Layout.{operations_in}
use Rattle.program.specs.Placement.{all_of, is_inner}
use Rattle.loader.proofs.layout.Operations.is_nested.Given as goal

abbrev pub invariant-loop-j : goal.invariant-loop-j
invariant-loop-j l = all_of (is_inner (operations_in l.self.layout l.self.bytes.now l.self.count) l.d l.e) l.j ≡ true
