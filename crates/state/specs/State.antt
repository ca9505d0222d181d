-- The state: its parts, reset, the status word.
use Rattle.std.specs.Prelude.{ℕ, Bool, false, not, List, eqb, ltb, ℤ, pos, get_or, replicate}
use Rattle.accumulator.specs.Mode.{reset_mode}
use Rattle.accumulator.specs.Status.{status_of}
use Rattle.accumulator.specs.declared.mode.Target.{Target}
use Rattle.accumulator.specs.declared.mode.Target.TheVariants.{A, B}
use Rattle.accumulator.specs.declared.limit.Accumulator.{Accumulator}
use Rattle.state.specs.declared.state.Loops.{Loops}
use Rattle.state.specs.declared.state.Core.{Core}
use Rattle.state.specs.declared.state.State.{State}

-- ---- parts

-- register r of W0..W13
abbrev pub register : List ℕ → ℕ → ℕ
register w r = get_or w r 0

-- accumulator A or B
abbrev pub accumulator_of : Core → Target → ℤ
accumulator_of c A = c.a
accumulator_of c B = c.b

-- an accumulator with its flags
abbrev pub accumulator_at : State → Target → Accumulator
accumulator_at s A = record { value = s.core.a; overflow = s.core.oa; saturation = s.sa }
accumulator_at s B = record { value = s.core.b; overflow = s.core.ob; saturation = s.sb }

-- the accumulator that b1 does not name
abbrev pub other_of : Target → Target
other_of A = B
other_of B = A

-- ---- a core with some parts replaced

-- its registers
abbrev pub with_registers : Core → List ℕ → Core
with_registers c w =
    record { w = w; a = c.a; b = c.b; pc = c.pc; loops = c.loops; repeat = c.repeat; mode = c.mode; oa = c.oa; ob = c.ob }

-- an accumulator and its O flag
abbrev pub with_accumulator : Core → Target → ℤ → Bool → Core
with_accumulator c A v o =
    record { w = c.w; a = v; b = c.b; pc = c.pc; loops = c.loops; repeat = c.repeat; mode = c.mode; oa = o; ob = c.ob }
with_accumulator c B v o =
    record { w = c.w; a = c.a; b = v; pc = c.pc; loops = c.loops; repeat = c.repeat; mode = c.mode; oa = c.oa; ob = o }

-- pc, the active loops, and repeat left
abbrev pub go_to : Core → ℕ → Loops → ℕ → Core
go_to c pc loops left =
    record { w = c.w; a = c.a; b = c.b; pc = pc; loops = loops; repeat = left; mode = c.mode; oa = c.oa; ob = c.ob }

-- the mode word
abbrev pub with_mode : Core → ℕ → Core
with_mode c m =
    record { w = c.w; a = c.a; b = c.b; pc = c.pc; loops = c.loops; repeat = c.repeat; mode = m; oa = c.oa; ob = c.ob }

-- ---- a state with an accumulator replaced

-- an accumulator written with its flags
abbrev pub with_written : State → Target → Accumulator → State
with_written s A x = record { core = with_accumulator s.core A x.value x.overflow; sa = x.saturation; sb = s.sb }
with_written s B x = record { core = with_accumulator s.core B x.value x.overflow; sa = s.sa; sb = x.saturation }

-- ---- reset and SR

-- no loop is active; a slot that is not in use is zero
abbrev pub no_loops : Loops
no_loops = record { starts = replicate 4 0; passes = replicate 4 0; depth = 0 }

-- after reset all is zero except that the mode word is 0020 hex
unfoldable pub reset_state : State
reset_state =
    record {
      core =
          record { w = replicate 14 0; a = pos 0; b = pos 0; pc = 0; loops = no_loops; repeat = 0; mode = reset_mode; oa = false; ob = false };
      sa = false;
      sb = false;
    }

-- back at the program's start: pc 0, no loop, repeat left 0; everything else stays
unfoldable pub restarted_state : State → State
restarted_state s = record { core = go_to s.core 0 no_loops 0; sa = s.sa; sb = s.sb }

-- SR: the flags, whether a loop is active, whether repeat left is not 0
unfoldable pub state_status : State → ℕ
state_status s =
    status_of
    (record {
      oa = s.core.oa;
      ob = s.core.ob;
      sa = s.sa;
      sb = s.sb;
      looping = ltb 0 s.core.loops.depth;
      repeating = not (eqb s.core.repeat 0);
    })
