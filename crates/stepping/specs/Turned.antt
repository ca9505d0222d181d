-- One step over an operation's words.
use Rattle.std.specs.Prelude.{ℕ, Bool, true, false, List, Result, Ok, Err, ◌≡◌}
use Rattle.address.specs.Trap.{trap_number, trap_code}
use Rattle.address.specs.declared.trap.Trap.{Trap}
use Rattle.operations.specs.declared.operation.Operation.{Operation}
use Rattle.state.specs.declared.settings.Settings.{Settings}
use Rattle.state.specs.declared.state.State.{State}
use Rattle.machine.specs.Step.{Step, stepped}
use Rattle.sequencer.specs.Lent.{lent_state}
use Rattle.sequencer.specs.Standing.{Lasts}
use Rattle.sequencer.specs.declared.flow.Flow.{Flow}
use Rattle.sequencer.specs.declared.sums.Sums.{Sums}
use Rattle.stepping.specs.declared.registers.Registers.{Registers}
use Rattle.stepping.specs.declared.step.Turn.{Turn}

-- what the code is lent
pub record Held : Type 0 where
  pub registers : Registers
  pub memory : List ℕ

-- registers and a memory
abbrev pub held : Registers → List ℕ → Held
held registers memory = record { registers = registers; memory = memory }

-- the state with these registers, where the run is
abbrev pub state_held : Registers → Flow → State
state_held r f = lent_state r.w r.sums.values r.sums.overflow r.sums.saturation r.loops.starts r.loops.passes f

-- where the run is then: where it was, if no step is made
abbrev pub flow_after : Flow → Result Turn Trap → Flow
flow_after f (Ok t) = t.flow
flow_after f (Err trap) = f

-- the trap, 0 none
abbrev pub turn_trap : Result Turn Trap → ℕ
turn_trap (Ok t) = trap_code t.trap
turn_trap (Err trap) = trap_number trap

-- a step is made
abbrev pub is_made : Result Turn Trap → Bool
is_made (Ok t) = true
is_made (Err trap) = false

-- it ends a leg
abbrev pub ends_leg : Result Turn Trap → Bool
ends_leg (Ok t) = t.ends
ends_leg (Err trap) = false

-- the step that leaves what is held
abbrev pub turn_in : Held → Flow → Result Turn Trap → Step
turn_in h f r = record { state = state_held h.registers (flow_after f r); memory = h.memory; trap = turn_trap r; counted = is_made r }

-- the same of registers, accumulators and any slots of loops
abbrev pub step_in : List ℕ → Sums → List ℕ → List ℕ → List ℕ → Flow → Result Turn Trap → Step
step_in w s starts passes memory f r = record { state = lent_state w s.values s.overflow s.saturation starts passes (flow_after f r); memory = memory; trap = turn_trap r; counted = is_made r }

-- the operation at pc of p is executed: what is held becomes `after`; the mode word is set in an ending turn alone
pub record Turns (p : List Operation) (settings : Settings) (f : Flow) (before after : Held) (r : Result Turn Trap) : Type 0 where
  pub step : turn_in after f r ≡ stepped p settings (state_held before.registers f) before.memory
  pub lasts : Lasts p after.registers.loops (flow_after f r).depth
  pub mode : ends_leg r ≡ false → (flow_after f r).mode ≡ f.mode
