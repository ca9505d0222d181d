-- `leg::step_on` meets its contract. The invariant: for every such program the run goes on from what is held. Assumes nothing.
use mathlib.Core.List.{List}
use Prim.Native.Nat.{◌-◌}
use Rattle.operations.specs.declared.operation.Operation.{Operation}
use Rattle.stepping.specs.Turned.{held}
use Rattle.legs.specs.Leg.{Shows, Stood}
use Rattle.legs.proofs.Legs.{Way}
use Rattle.legs.proofs.leg.step_on.Given as goal

abbrev pub invariant-loop-coded : goal.invariant-loop-coded
invariant-loop-coded l =
    (p : List Operation) → Shows p l.window → Stood p l.settings (held l.initial.registers l.initial.memory) l.initial.f
    → Way p l.settings l.budget (held l.initial.registers l.initial.memory) l.initial.f l.steps (held l.registers l.memory) l.f l.made

abbrev pub decreases-loop-coded : goal.decreases-loop-coded
decreases-loop-coded l = l.budget - l.made
