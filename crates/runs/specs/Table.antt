-- The table of document 01, rows A to L: what is run, what is looked at, and what the paper says. Values are decimal unless marked 0x.
use Rattle.std.specs.Prelude.{ℕ, ◌-◌, ◌^◌, Bool, false, cond, List, [], ◌∷◌, map, ◌≡◌, ℤ, pos, get_or, set, replicate}
use Rattle.integers.specs.Range.{minus}
use Rattle.accumulator.specs.declared.mode.Target.TheVariants.{A}
use Rattle.operations.specs.declared.operation.Action.{Action}
use Rattle.operations.specs.declared.operation.Action.TheVariants.{Mpy, Ed, Movsac}
use Rattle.operations.specs.declared.operation.Prefetch.{Prefetch}
use Rattle.operations.specs.declared.operation.Prefetch.TheVariants.{None as NoRead, Pointer}
use Rattle.operations.specs.declared.operation.WriteBack.TheVariants.{None as NoBack}
use Rattle.operations.specs.declared.operation.PostModification.TheVariants.{Increment}
use Rattle.operations.specs.declared.operation.Operand.TheVariants.{Register as Direct}
use Rattle.operations.specs.declared.operation.Operation.{Operation}
use Rattle.operations.specs.declared.operation.Operation.TheVariants.{MacClass as MacOperation, AddAccumulators, Shift, SacR, Literal, Store, Do, EndEarly}
use Rattle.state.specs.Settings.{no_circular, plain_settings}
use Rattle.state.specs.State.{no_loops, reset_state}
use Rattle.state.specs.declared.settings.Settings.{Settings}
use Rattle.state.specs.declared.state.Loops.{Loops}
use Rattle.state.specs.declared.state.State.{State}
use Rattle.machine.specs.Loops.{inner_passes}
use Rattle.machine.specs.Control.{ended_early}
use Rattle.endings.specs.declared.ending.Ending.{Ending}
use Rattle.endings.specs.declared.ending.Ending.TheVariants.{Done, Spent, Trap}
use Rattle.runs.specs.Run.{Stop, Result}
use Rattle.runs.specs.Run.Stop.{ended}
use Rattle.runs.specs.Engine.{Engine, engine_run}

-- ---- a row

-- how a run ends, and what is seen in its end
pub record Seen : Type 0 where
  pub stop : Stop
  pub values : List ℤ

-- a run from its start, where to look in its end, and what the paper says of that
pub record Row : Type 0 where
  pub program : List Operation
  pub settings : Settings
  pub start : State
  pub memory : List ℕ
  pub budget : ℕ
  pub look : Result Engine → List ℤ
  pub said : Seen

-- what is seen
abbrev pub seen : Row → Seen
seen r =
    let x = engine_run r.program r.settings r.budget r.start r.memory in
    record { stop = x.stop; values = r.look x }

-- ---- where to look

-- a flag as a number: 1 set, 0 clear
abbrev pub bit_of : Bool → ℤ
bit_of b = cond b (pos 1) (pos 0)

-- A
abbrev pub look_a : Result Engine → List ℤ
look_a x = x.machine.state.core.a ∷ []

-- A, OA, SA
abbrev pub look_flags : Result Engine → List ℤ
look_flags x = x.machine.state.core.a ∷ bit_of x.machine.state.core.oa ∷ bit_of x.machine.state.sa ∷ []

-- register r
abbrev pub look_at : ℕ → Result Engine → List ℤ
look_at r x = pos (get_or x.machine.state.core.w r 0) ∷ []

-- pc, the number of active loops, the passes left of the first
abbrev pub look_loops : Result Engine → List ℤ
look_loops x =
    pos x.machine.state.core.pc
    ∷ pos x.machine.state.core.loops.depth
    ∷ pos (get_or x.machine.state.core.loops.passes 0 0)
    ∷ []

-- the passes left that end early gives the innermost loop, before the loop's own fall by 1
abbrev pub passes_before : List Operation → State → ℤ
passes_before p s = pos (inner_passes (ended_early p s.core).loops)

-- the steps, A
abbrev pub look_steps : Result Engine → List ℤ
look_steps x = pos x.steps ∷ x.machine.state.core.a ∷ []

-- ---- how to start

-- at pc in these loops with these registers, A, B and mode word, else as after reset
abbrev pub start_at : ℕ → Loops → List ℕ → ℤ → ℤ → ℕ → State
start_at pc loops w a b mode =
    record {
      core = record { w = w; a = a; b = b; pc = pc; loops = loops; repeat = 0; mode = mode; oa = false; ob = false };
      sa = false;
      sb = false;
    }

-- at the program's start
abbrev pub start_of : List ℕ → ℤ → ℤ → ℕ → State
start_of = start_at 0 no_loops

-- all registers zero but one
abbrev pub only : ℕ → ℕ → List ℕ
only r x = set (replicate 14 0) r x

-- at pc 2 in a loop of operation 0 with so many passes left
abbrev pub in_loop : ℕ → State
in_loop n =
    start_at 2 (record { starts = replicate 4 0; passes = set (replicate 4 0) 0 n; depth = 1 }) (replicate 14 0) (pos 0) (pos 0) 0x20

-- kinds 1 to 7 on A without write-back: m, n, the reads and their destinations
abbrev pub mac : Action → ℕ → ℕ → Prefetch → ℕ → Prefetch → ℕ → Operation
mac action m n x xto y yto =
    MacOperation (record { action = action; target = A; m = m; n = n; x = x; xto = xto; y = y; yto = yto; back = NoBack })

-- a program with no correction in 4 words, 2 of them X's, and how it ends
abbrev pub row_to : Ending → List Operation → State → (Result Engine → List ℤ) → List ℤ → Row
row_to e p s look said =
    record {
      program = p;
      settings = plain_settings 2;
      start = s;
      memory = 1 ∷ 0 ∷ 2 ∷ 0 ∷ [];
      budget = 9;
      look = look;
      said = record { stop = ended e; values = said };
    }

-- to its end
abbrev pub row : List Operation → State → (Result Engine → List ℤ) → List ℤ → Row
row = row_to Done

-- a program in 264 words with other settings and a budget, and how it ends
abbrev pub row_in : Settings → ℕ → Ending → List Operation → State → (Result Engine → List ℤ) → List ℤ → Row
row_in settings budget e p s look said =
    record {
      program = p;
      settings = settings;
      start = s;
      memory = replicate 264 0;
      budget = budget;
      look = look;
      said = record { stop = ended e; values = said };
    }

-- X's register 8 with S 1100, E 1107 (hex)
abbrev pub circular8 : Settings
circular8 =
    record {
      xwords = 200;
      traps = 0;
      x = record { register = 8; buffer = record { start = record { 0 = 0x1100 }; last = record { 0 = 0x1107 } } };
      y = no_circular;
      reversed = record { register = 15; words = 0 };
    }

-- the bit-reversed register 8 with N 8
abbrev pub reversed8 : Settings
reversed8 = record { xwords = 200; traps = 0; x = no_circular; y = no_circular; reversed = record { register = 8; words = 8 } }

-- ---- the table

-- MPY of W4 by itself to A
abbrev squared : Operation
squared = mac Mpy 4 4 NoRead 0 NoRead 0

-- v in A, stored rounded to W3 by a mode word, is this word
abbrev stored : ℤ → ℕ → ℤ → Row
stored v mode word = row (SacR A 8 (Direct 3) ∷ []) (start_of (replicate 14 0) v (pos 0) mode) (look_at 3) (word ∷ [])

-- 2^39 - 1 plus 1, A + B to A by a mode word, is kept as v, with OA and SA set
abbrev summed : ℕ → ℤ → Row
summed mode v = row (AddAccumulators A ∷ []) (start_of (replicate 14 0) (pos (2 ^ 39 - 1)) (pos 1) mode) look_flags (v ∷ pos 1 ∷ pos 1 ∷ [])

-- two stores of W0 to memory at W8, form 2
abbrev stores8 : List Operation
stores8 = Store 0 8 Increment ∷ Store 0 8 Increment ∷ []

-- end early in the last place of a loop with n passes left: the passes left before the loop's own fall; after it pc, the number of active loops, the passes left
abbrev early : Ending → ℕ → List ℤ → Row
early e n said =
    let p : List Operation = Do 9 2 ∷ EndEarly ∷ EndEarly ∷ [] in
    row_in (plain_settings 200) 1 e p (in_loop n) (λ x. passes_before p (in_loop n) ∷ look_loops x) said

unfoldable pub table : List Row
table =
    -- A: 3 × −2, reset mode: −12
    row (Literal 4 3 ∷ Literal 5 0xfffe ∷ mac Mpy 4 5 NoRead 0 NoRead 0 ∷ []) reset_state look_a (minus 12 ∷ [])
    -- B: −32,768 squared, IF 0: 2^31; ACCSAT 0 saturating 2^31−1 with S, off 2^31 with O only
    ∷ row (squared ∷ []) (start_of (only 4 0x8000) (pos 0) (pos 0) 0x90) look_a (pos (2 ^ 31) ∷ [])
    ∷ row (squared ∷ []) (start_of (only 4 0x8000) (pos 0) (pos 0) 0x80) look_flags (pos (2 ^ 31 - 1) ∷ pos 0 ∷ pos 1 ∷ [])
    ∷ row (squared ∷ []) (start_of (only 4 0x8000) (pos 0) (pos 0) 0) look_flags (pos (2 ^ 31) ∷ pos 1 ∷ pos 0 ∷ [])
    -- C: unsigned integer 65,535²: 4,294,836,225
    ∷ row (squared ∷ []) (start_of (only 4 65535) (pos 0) (pos 0) 0x1001) look_a (pos 4294836225 ∷ [])
    -- D: RND 0 stores 98,304 as 2, 32,768 as 0, −32,768 as 0; RND 1 stores 32,768 as 1
    ∷ stored (pos 98304) 0x20 (pos 2)
    ∷ stored (pos 32768) 0x20 (pos 0)
    ∷ stored (minus 32768) 0x20 (pos 0)
    ∷ stored (pos 32768) 0x22 (pos 1)
    -- E: 2,147,450,880 rounded: 32,767; SATDW off 8000 hex
    ∷ stored (pos 2147450880) 0x20 (pos 32767)
    ∷ stored (pos 2147450880) 0 (pos 0x8000)
    -- F: 2^39−1 plus 1: kept at 2^39−1 with ACCSAT 1; off −2^39; S both
    ∷ summed 0x90 (pos (2 ^ 39 - 1))
    ∷ summed 0 (minus (2 ^ 39))
    -- G: S 1100, E 1107, 1106 + 4 gives 1102 (hex)
    ∷ row_in circular8 1 Done (mac Movsac 0 0 (Pointer 8 5) 4 NoRead 0 ∷ []) (start_of (only 8 0x1106) (pos 0) (pos 0) 0x20) (look_at 8) (pos 0x1102 ∷ [])
    -- H: N 8, 1200 then 1208 then 1204 (hex)
    ∷ row_in reversed8 1 Spent stores8 (start_of (only 8 0x1200) (pos 0) (pos 0) 0x20) (look_at 8) (pos 0x1208 ∷ [])
    ∷ row_in reversed8 2 Done stores8 (start_of (only 8 0x1200) (pos 0) (pos 0) 0x20) (look_at 8) (pos 0x1204 ∷ [])
    -- I: last place, passes 5 becomes 2, 1 stays 1, both before the loop's own fall by 1: then back at DO + 1 with 1 left; the loop's end
    ∷ early Spent 5 (pos 2 ∷ pos 1 ∷ pos 1 ∷ pos 1 ∷ [])
    ∷ early Done 1 (pos 1 ∷ pos 3 ∷ pos 0 ∷ pos 0 ∷ [])
    -- J: DO 0, one pass: done after three steps
    ∷ row (Do 0 2 ∷ Literal 0 7 ∷ Literal 1 8 ∷ []) reset_state look_steps (pos 3 ∷ pos 0 ∷ [])
    -- K: X 1 minus Y 2: FFFF hex
    ∷ row (mac Ed 4 4 (Pointer 8 3) 5 (Pointer 10 3) 0 ∷ []) (start_of (set (only 8 0x1000) 10 0x1004) (pos 0) (pos 0) 0x20) (look_at 5) (pos 0xffff ∷ [])
    -- L: −1 shifted 16: −1; 17: trap 3
    ∷ row (Shift A 0 ∷ []) (start_of (only 0 16) (minus 1) (pos 0) 0x20) look_steps (pos 1 ∷ minus 1 ∷ [])
    ∷ row_to (Trap 3) (Shift A 0 ∷ []) (start_of (only 0 17) (minus 1) (pos 0) 0x20) look_steps (pos 0 ∷ minus 1 ∷ [])
    ∷ []

-- the paper's words about every row are what its run gives
abbrev pub TableHolds : Type 0
TableHolds = map seen table ≡ map (λ (r : Row). r.said) table
