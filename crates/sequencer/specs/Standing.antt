-- What the order of execution relies on, and what it leaves. The last operation of each active loop is kept beside the loop's slot.
use Rattle.std.specs.Prelude.{ℕ, ◌-◌, ◌≤◌, ◌<◌, Bool, cond, ◌||◌, List, ◌≡◌, eqb, ltb, ℤ, get_or}
use Rattle.operations.specs.declared.operation.Operation.{Operation}
use Rattle.program.specs.Placement.{role_at, last_of}
use Rattle.state.specs.State.{register}
use Rattle.state.specs.declared.state.Core.{Core}
use Rattle.machine.specs.Control.{entered, ended_early}
use Rattle.machine.specs.Step.{operation_at}
use Rattle.form.specs.Words.{field, kind_in, coded_at}
use Rattle.sequencer.specs.Lent.{lent_core}
use Rattle.sequencer.specs.declared.flow.Flow.{Flow}
use Rattle.sequencer.specs.declared.loops.ActiveLoops.{ActiveLoops}

-- the last operation of the innermost of so many loops; 65,536, which is no operation's number, with none
abbrev pub last_in : List Operation → List ℕ → ℕ → ℕ
last_in p starts depth = cond (ltb 0 depth) (last_of (role_at p (get_or starts (depth - 1) 0))) 65536

-- the last operations kept for so many active loops are the program's
pub record Lasts (p : List Operation) (loops : ActiveLoops) (depth : ℕ) : Type 0 where
  pub each : (i : ℕ) → i ≤ depth → get_or loops.lasts i 0 ≡ last_in p loops.starts i

-- there is an operation at pc, and at most four loops are active
pub record Standing (f : Flow) : Type 0 where
  pub at : f.pc < 4032
  pub few : f.depth ≤ 4

-- repeat left, loops and pc become those of r and `after`, as `to` has it of the core
pub record Moves (p : List Operation) (to : Core → Core) (f : Flow) (before after : ActiveLoops) (r : Flow) : Type 0 where
  pub core : (w : List ℕ) (acc : List ℤ) (oflags : List Bool) → lent_core w acc oflags after.starts after.passes r ≡ to (lent_core w acc oflags before.starts before.passes f)
  pub lasts : Lasts p after r.depth

-- the count of kinds 20 REPEAT and 22 DO by a register, all of it, and of 19 REPEAT and 21 DO, word 11
abbrev pub count_in : List ℕ → ℕ → List ℕ → ℕ
count_in code at w =
    cond (eqb (kind_in code at) 20 || eqb (kind_in code at) 22) (register w (field code at 1)) (field code at 11)

-- DO at pc begins a loop of n + 1 passes up to operation `last`
pub record Enters (f : Flow) (n last : ℕ) (before after : ActiveLoops) (r : Flow) : Type 0 where
  pub core : (w : List ℕ) (acc : List ℤ) (oflags : List Bool) → lent_core w acc oflags after.starts after.passes r ≡ entered (lent_core w acc oflags before.starts before.passes f) n
  pub kept : (p : List Operation) → last_of (role_at p f.pc) ≡ last → Lasts p before f.depth → Lasts p after r.depth
  pub mode : r.mode ≡ f.mode

-- the innermost loop is ended early
pub record EndsEarly (f : Flow) (before after : ActiveLoops) : Type 0 where
  pub core : (p : List Operation) → Lasts p before f.depth → (w : List ℕ) (acc : List ℤ) (oflags : List Bool) → lent_core w acc oflags after.starts after.passes f ≡ ended_early p (lent_core w acc oflags before.starts before.passes f)
  pub kept : (p : List Operation) → Lasts p before f.depth → Lasts p after f.depth

-- the 16 words from `at` on are those of the operation at pc of p, and the last operations kept are p's
pub record Follows (p : List Operation) (code : List ℕ) (at : ℕ) (f : Flow) (loops : ActiveLoops) : Type 0 where
  pub here : operation_at p f.pc ≡ coded_at code at
  pub lasts : Lasts p loops f.depth
