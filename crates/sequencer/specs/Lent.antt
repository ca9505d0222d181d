-- A state put together from what the code is lent and handed: accumulators A and B, flags OA and OB, and flags SA and SB in arrays of two.
use Rattle.std.specs.Prelude.{ℕ, Bool, false, List, ℤ, pos, get_or}
use Rattle.state.specs.declared.state.Core.{Core}
use Rattle.state.specs.declared.state.State.{State}
use Rattle.sequencer.specs.declared.flow.Flow.{Flow}

-- the core
abbrev pub lent_core : List ℕ → List ℤ → List Bool → List ℕ → List ℕ → Flow → Core
lent_core w acc oflags starts passes f =
    record {
      w = w;
      a = get_or acc 0 (pos 0);
      b = get_or acc 1 (pos 0);
      pc = f.pc;
      loops = record { starts = starts; passes = passes; depth = f.depth };
      repeat = f.repeat;
      mode = f.mode;
      oa = get_or oflags 0 false;
      ob = get_or oflags 1 false;
    }

-- the state
abbrev pub lent_state : List ℕ → List ℤ → List Bool → List Bool → List ℕ → List ℕ → Flow → State
lent_state w acc oflags sflags starts passes f = record { core = lent_core w acc oflags starts passes f; sa = get_or sflags 0 false; sb = get_or sflags 1 false }
