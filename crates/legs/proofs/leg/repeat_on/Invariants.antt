-- `leg::repeat_on` meets its contract. The invariant: for every such program the run goes on from what is held, at the same operation. Assumes nothing.
use mathlib.Core.List.{List}
use mathlib.Core.Path.{◌≡◌}
use Prim.Native.Nat.{◌-◌, ◌<◌}
use Rattle.operations.specs.declared.operation.Operation.{Operation}
use Rattle.stepping.specs.Turned.{held}
use Rattle.legs.specs.Leg.{Shows, Stood}
use Rattle.legs.proofs.Legs.{Way}
use Rattle.legs.proofs.leg.repeat_on.Given as goal

abbrev pub invariant-loop-pair : goal.invariant-loop-pair
invariant-loop-pair l =
    ((p : List Operation) → Shows p l.window → Stood p l.settings (held l.initial.registers l.memory) l.initial.f
    → Way p l.settings l.budget (held l.initial.registers l.memory) l.initial.f l.steps (held l.registers l.memory) l.f l.total)
    × (l.total < l.budget)
    × (1 < l.f.repeat)
    × (l.f.pc ≡ l.initial.f.pc)

abbrev pub decreases-loop-pair : goal.decreases-loop-pair
decreases-loop-pair l = l.budget - l.total
