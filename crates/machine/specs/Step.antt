-- The engine's step: the effect; the exact result limited and written; the store; repeat left, loops and pc.
use Rattle.std.specs.Prelude.{ℕ, Bool, true, false, cond, List, eqb, get_or}
use Rattle.accumulator.specs.Mode.{mode_of}
use Rattle.accumulator.specs.declared.mode.Mode.{Mode}
use Rattle.operations.specs.declared.operation.Operation.{Operation}
use Rattle.operations.specs.declared.operation.Operation.TheVariants.{EndEarly}
use Rattle.state.specs.State.{with_registers}
use Rattle.state.specs.declared.settings.Settings.{Settings}
use Rattle.state.specs.declared.state.State.{State}
use Rattle.effects.specs.Effect.{Work}
use Rattle.effects.specs.Operations.{work_of}
use Rattle.machine.specs.Write.{settle_of, value_word, put_register, put_memory}
use Rattle.machine.specs.Control.{control_of, state_controlled}

-- operation i of a program
abbrev pub operation_at : List Operation → ℕ → Operation
operation_at p i = get_or p i EndEarly

-- a step: state and memory after it, its trap (0 none), and whether it counts
pub record Step : Type 0 where
  pub state : State
  pub memory : List ℕ
  pub trap : ℕ
  pub counted : Bool

-- traps 1 to 4: no effect and no step, and pc stays
abbrev pub uncounted : State → List ℕ → ℕ → Step
uncounted s memory trap = record { state = s; memory = memory; trap = trap; counted = false }

-- the state with the registers that an effect leaves, its store done
abbrev pub state_after : Mode → Work → State → State
state_after m work s =
    record {
      core = with_registers s.core (put_register work.effect.place (value_word m work.effect.value) work.w);
      sa = s.sa;
      sb = s.sb;
    }

-- an operation whose work has no trap of 1 to 4 is complete and counted, also with traps 5 to 7
unfoldable pub completed : List Operation → Settings → Mode → Operation → Work → State → List ℕ → Step
completed p settings m o work s memory =
    let settled = settle_of settings.traps m work.effect.exact (state_after m work s) in
    record {
      state = state_controlled p (control_of o) settled.state;
      memory = put_memory work.effect.place (value_word m work.effect.value) memory;
      trap = settled.trap;
      counted = true;
    }

-- the operation at pc is executed, by the mode word before the step
unfoldable pub stepped : List Operation → Settings → State → List ℕ → Step
stepped p settings s memory =
    let m = mode_of s.core.mode in
    let o = operation_at p s.core.pc in
    let work = work_of settings m o s.core memory in
    cond (eqb work.effect.trap 0) (completed p settings m o work s memory) (uncounted s memory work.effect.trap)
