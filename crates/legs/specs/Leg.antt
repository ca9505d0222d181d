-- A leg of a run: the steps over a window of the program's words, up to a trap, the budget's end, an operation outside the window, REPEAT, a new mode
-- word or the last repetition but one of a pair.
use Rattle.std.specs.Prelude.{ℕ, ◌+◌, ◌-◌, ◌*◌, ◌≤◌, ◌<◌, Bool, true, false, List, ◌≡◌, length}
use Rattle.address.specs.Trap.{trap_number}
use Rattle.operations.specs.Listed.{is_listed}
use Rattle.operations.specs.declared.operation.Operation.{Operation}
use Rattle.program.specs.Placement.{is_placed}
use Rattle.state.specs.Typed.{Typed, AreWords}
use Rattle.state.specs.Accept.{state_refusal}
use Rattle.state.specs.declared.settings.Settings.{Settings}
use Rattle.machine.specs.Step.{operation_at}
use Rattle.form.specs.Words.{coded_at}
use Rattle.form.specs.Form.{Encoded}
use Rattle.sequencer.specs.Standing.{Lasts}
use Rattle.sequencer.specs.declared.flow.Flow.{Flow}
use Rattle.stepping.specs.Turned.{Held, state_held}
use Rattle.endings.specs.declared.ending.Ending.{Ending}
use Rattle.endings.specs.declared.ending.Ending.TheVariants.{Done, Spent, Trap}
use Rattle.runs.specs.Run.{Result}
use Rattle.runs.specs.Run.Stop.{ended}
use Rattle.runs.specs.Engine.{Engine, engine_from}
use Rattle.legs.specs.declared.window.Window.{Window}
use Rattle.legs.specs.declared.leg.Leg.{Leg}
use Rattle.legs.specs.declared.leg.Pause.{Pause}
use Rattle.legs.specs.declared.leg.Pause.TheVariants.{Elsewhere, OutOfSteps, Trapped, Onward}

-- ---- where a leg begins

-- the words are those of `count` operations of p, from operation `first` on
pub record ShowsWords (p : List Operation) (code : List ℕ) (first count : ℕ) : Type 0 where
  pub placed : is_placed p ≡ true
  pub listed : (i : ℕ) → i < length p → is_listed (operation_at p i) ≡ true
  pub most : length p ≤ 4032
  pub inside : first + count ≤ length p
  pub words : (i : ℕ) → i < count → Encoded code (16 * i)
  pub same : (i : ℕ) → i < count → operation_at p (first + i) ≡ coded_at code (16 * i)

-- the window's words are those of p's operations
abbrev pub Shows : List Operation → Window → Type 0
Shows p v = ShowsWords p v.code.now v.first v.count

-- operation pc is in the window
pub record IsIn (v : Window) (pc : ℕ) : Type 0 where
  pub low : v.first ≤ pc
  pub high : pc < v.first + v.count

-- the 16 words from `at` on are the window's of operation pc
pub record Finds (v : Window) (pc : ℕ) (code : List ℕ) (at : ℕ) : Type 0 where
  pub inside : IsIn v pc
  pub code_is : code ≡ v.code.now
  pub at_is : at ≡ 16 * (pc - v.first)

-- the engine of what the code is lent and handed
abbrev pub engine_in : Held → Flow → Engine
engine_in h f = record { state = state_held h.registers f; memory = h.memory }

-- p accepts its state; its memory is of words and has room for the X part; the last operations kept are p's
pub record Stood (p : List Operation) (settings : Settings) (h : Held) (f : Flow) : Type 0 where
  pub typed : Typed (engine_in h f).state.core
  pub accepted : state_refusal p (engine_in h f).state ≡ 0
  pub ram : AreWords h.memory
  pub part : settings.xwords ≤ length h.memory
  pub lasts : Lasts p h.registers.loops f.depth

-- some program has this window and accepts this state
pub record Known (v : Window) (settings : Settings) (h : Held) (f : Flow) : Type 0 where
  pub program : List Operation
  pub window : Shows program v
  pub stood : Stood program settings h f

-- ---- where it ends

-- what is left of the run: all of it, or its end
abbrev pub rest_of : Pause → List Operation → Settings → ℕ → ℕ → Engine → Result Engine
rest_of Elsewhere p settings budget steps x = engine_from p settings (budget - steps) steps x
rest_of Onward p settings budget steps x = engine_from p settings (budget - steps) steps x
rest_of OutOfSteps p settings budget steps x = record { machine = x; steps = steps; stop = ended Spent }
rest_of (Trapped t) p settings budget steps x = record { machine = x; steps = steps; stop = ended (Trap (trap_number t)) }

-- the operation at pc is outside the window
abbrev pub is_elsewhere : Pause → Bool
is_elsewhere Elsewhere = true
is_elsewhere OutOfSteps = false
is_elsewhere (Trapped t) = false
is_elsewhere Onward = false

-- the run goes on with another leg
abbrev pub is_onward : Pause → Bool
is_onward Elsewhere = false
is_onward OutOfSteps = false
is_onward (Trapped t) = false
is_onward Onward = true

-- the run of p goes from h, f with `steps` made to h' and where the leg r leaves it
pub record Goes (p : List Operation) (settings : Settings) (v : Window) (budget : ℕ) (h : Held) (f : Flow) (steps : ℕ) (h' : Held) (r : Leg) : Type 0 where
  pub rest : rest_of r.pause p settings budget r.steps (engine_in h' r.flow) ≡ engine_from p settings (budget - steps) steps (engine_in h f)
  pub within : r.steps ≤ budget
  pub stood : Stood p settings h' r.flow
  pub long : length h'.memory ≡ length h.memory
  pub forward : steps ≤ r.steps
  -- where no step is made pc stays
  pub still : r.steps ≡ steps → r.flow.pc ≡ f.pc
  -- pc is outside the window
  pub out : is_elsewhere r.pause ≡ true → IsIn v r.flow.pc → ⊥
  -- a leg that goes on has made a step
  pub more : is_onward r.pause ≡ true → steps < r.steps

-- ---- how a run ends

-- an ending by the last leg's pause; a run never ends with a leg that goes on
abbrev pub ending_of : Pause → Ending
ending_of Elsewhere = Done
ending_of OutOfSteps = Spent
ending_of (Trapped t) = Trap (trap_number t)
ending_of Onward = Done
