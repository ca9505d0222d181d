-- The steps of runs, each value worked out by hand from document 01. Assumes nothing.
use Prim.Native.Nat.{ℕ, ◌^◌, ◌-◌}
use mathlib.Core.Bool.{true, false}
use mathlib.Core.List.{List, [], ◌∷◌}
use mathlib.Core.Path.{◌≡◌, refl}
use lib.IntN.{pos}
use Rattle.accumulator.specs.declared.mode.Target.TheVariants.{A}
use Rattle.operations.specs.declared.operation.Operation.{Operation}
use Rattle.operations.specs.declared.operation.Operation.TheVariants.{AddAccumulators, Shift, Literal, Repeat}
use Rattle.state.specs.declared.settings.Settings.{Settings}
use Rattle.state.specs.declared.state.State.{State}
use Rattle.state.proofs.Made.{◌but◌, reg, in_a, in_b, at, due, flags}
use Rattle.runs.specs.Engine.{Engine}
use Rattle.runs.specs.Steps.{Transition, first_steps, steps_of}
use Rattle.runs.proofs.Opened.{engine}
use Rattle.runs.proofs.RunExamples.{trapping, plain, memory, start}

-- the steps of a run with this memory
abbrev steps : List Operation → Settings → State → ℕ → List (Transition Engine)
steps p settings s budget = steps_of (λ n. engine p settings n s memory) budget

-- a step that leaves memory
abbrev step : State → State → Transition Engine
step s s' = record { from = record { state = s; memory = memory }; to = record { state = s'; memory = memory } }

-- W0 := 7, then A + B to A twice: as many as the budget has, and no more than are made
abbrev twice : List Operation
twice = Literal 0 7 ∷ Repeat 1 ∷ AddAccumulators A ∷ []

abbrev begun : State
begun = start but in_b (pos 5)

abbrev all_steps : List (Transition Engine)
all_steps =
    step begun (begun but reg 0 7 but at 1)
    ∷ step (begun but reg 0 7 but at 1) (begun but reg 0 7 but at 2 but due 2)
    ∷ step (begun but reg 0 7 but at 2 but due 2) (begun but reg 0 7 but at 2 but due 1 but in_a (pos 5))
    ∷ step (begun but reg 0 7 but at 2 but due 1 but in_a (pos 5)) (begun but reg 0 7 but at 3 but in_a (pos 10))
    ∷ []

in_order :
    (steps twice plain begun 0 ≡ [])
    × (steps twice plain begun 1 ≡ step begun (begun but reg 0 7 but at 1) ∷ [])
    × (steps twice plain begun 4 ≡ all_steps)
    × (steps twice plain begun 4294967295 ≡ all_steps)
unfolding first_steps engine
in_order = (refl, refl, refl, refl)

-- a shift by 17 is trap 3: no step. A + B with OA and OVATE is trap 6: its step is one of them
abbrev near : State
near = start but in_a (pos (2 ^ 31 - 1)) but in_b (pos 1)

trapped :
    (steps (Literal 0 17 ∷ Shift A 0 ∷ Literal 0 1 ∷ []) plain start 9 ≡ step start (start but reg 0 17 but at 1) ∷ [])
    × (steps (AddAccumulators A ∷ Literal 0 1 ∷ []) (trapping 0x400) near 9
    ≡ step near (near but at 1 but in_a (pos (2 ^ 31)) but flags true false false false) ∷ [])
    × (steps (Literal 0 7 ∷ []) plain (start but at 1) 9 ≡ [])
unfolding first_steps engine
trapped = (refl, refl, refl)
