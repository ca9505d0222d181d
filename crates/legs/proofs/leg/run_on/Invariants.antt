-- `leg::run_on` meets its contract. The invariant: for every such program the run goes on from what is held. Assumes nothing.
use mathlib.Core.List.{List}
use Prim.Native.Nat.{◌-◌}
use Rattle.operations.specs.declared.operation.Operation.{Operation}
use Rattle.stepping.specs.Turned.{held}
use Rattle.legs.specs.Leg.{Shows, Stood}
use Rattle.legs.proofs.Legs.{Way}
use Rattle.legs.proofs.leg.run_on.Given as goal

abbrev pub invariant-loop-leg : goal.invariant-loop-leg
invariant-loop-leg l =
    (p : List Operation) → Shows p l.window → Stood p l.settings (held l.initial.registers l.initial.memory) l.initial.f
    → Way p l.settings l.budget (held l.initial.registers l.initial.memory) l.initial.f l.steps (held l.registers l.memory) l.f l.made

abbrev pub decreases-loop-leg : goal.decreases-loop-leg
decreases-loop-leg l = l.budget - l.made
