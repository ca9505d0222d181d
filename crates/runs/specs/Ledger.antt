-- The ledger: the same operations with each exact result kept, and its list of accumulator stores. Where a result leaves the limits it stops (document 01),
-- or it goes on (wish 12).
use Rattle.std.specs.Prelude.{ℕ, suc, Bool, true, false, cond, ◌&&◌, List, [], ◌∷◌, eqb, ℤ, length}
use Rattle.integers.specs.Bits.{signed_of}
use Rattle.accumulator.specs.Mode.{mode_of}
use Rattle.accumulator.specs.Limit.{has_left, overflows}
use Rattle.accumulator.specs.Store.{store_of}
use Rattle.accumulator.specs.declared.mode.Mode.{Mode}
use Rattle.accumulator.specs.declared.mode.Target.{Target}
use Rattle.operations.specs.declared.operation.Operation.{Operation}
use Rattle.state.specs.Settings.{traps_overflow}
use Rattle.state.specs.State.{with_registers, with_accumulator}
use Rattle.state.specs.declared.settings.Settings.{Settings}
use Rattle.state.specs.declared.state.Core.{Core}
use Rattle.effects.specs.Operations.{work_of}
use Rattle.effects.specs.declared.access.Place.{Place}
use Rattle.effects.specs.declared.access.Place.TheVariants.{Nowhere, Register, Memory}
use Rattle.effects.specs.declared.effect.Exact.{Exact}
use Rattle.effects.specs.declared.effect.Exact.TheVariants.{Keep, Replace}
use Rattle.effects.specs.declared.effect.Value.{Value}
use Rattle.effects.specs.declared.effect.Value.TheVariants.{Word, Scaled}
use Rattle.machine.specs.Write.{overflow_trap, value_word, put_register, put_memory}
use Rattle.machine.specs.Control.{control_of, controlled}
use Rattle.machine.specs.Step.{operation_at}
use Rattle.endings.specs.declared.ending.Ending.TheVariants.{Trap}
use Rattle.runs.specs.Run.{Turn, Result, complete, run}
use Rattle.runs.specs.Run.Stop.{ended, left}
use Rattle.runs.specs.Run.Turn.{over, next}

-- ---- its list

-- an accumulator store: its step, counted from 1, and its place; the exact scaled value v; the word, read as signed; whether limiting was needed;
-- whether it is rounded
pub record Entry : Type 0 where
  pub step : ℕ
  pub place : Place
  pub value : ℤ
  pub word : ℤ
  pub limiting : Bool
  pub rounded : Bool

-- there is a store
abbrev pub is_stored : Place → Bool
is_stored Nowhere = false
is_stored (Register r) = true
is_stored (Memory i) = true

-- for each accumulator store (kinds 14, 15, write-back), latest first
unfoldable pub with_store : Mode → ℕ → Place → Value → List Entry → List Entry
with_store m k place (Word x) l = l
with_store m k place (Scaled rounded v) l =
    let stored = store_of m rounded v in
    cond (is_stored place)
    (record { step = k; place = place; value = v; word = signed_of 16 stored.word; limiting = stored.limiting; rounded = rounded } ∷ l)
    l

-- ---- its state and step

-- the engine's state without S flags, A and B unlimited whole numbers; memory; the list
pub record Ledger : Type 0 where
  pub core : Core
  pub memory : List ℕ
  pub stores : List Entry

-- 6 OA with OVATE; 7 OB with OVBTE; 0 none: by the ledger's own O flag
unfoldable pub exact_trap : ℕ → Target → ℤ → ℕ
exact_trap traps t r = cond (overflows r && traps_overflow traps t) (overflow_trap t) 0

-- what a ledger does beyond the limits
pub data Beyond : Type 0 where
  stops : Beyond
  goes_on : Beyond

-- whether it stops at r: the ledger of document 01 where r is outside the limits by the mode word before that step, the one that goes on never
abbrev pub stops_at : Beyond → Mode → Target → ℤ → Bool
stops_at stops m t r = has_left m t r
stops_at goes_on m t r = false

-- each exact r is kept; where it stops it is marked "left"
unfoldable pub keep_exact : Beyond → List Operation → ℕ → Mode → Operation → Exact → Core → List ℕ → List Entry → Turn Ledger
keep_exact beyond p traps m o Keep c memory l = next (record { core = controlled p (control_of o) c; memory = memory; stores = l })
keep_exact beyond p traps m o (Replace t r) c memory l =
    cond (stops_at beyond m t r)
    (over left)
    (complete (exact_trap traps t r)
    (record { core = controlled p (control_of o) (with_accumulator c t r (overflows r)); memory = memory; stores = l }))

-- the operation at pc is executed after k steps: traps without effect come first
unfoldable pub exact_turn : Beyond → List Operation → Settings → ℕ → Ledger → Turn Ledger
exact_turn beyond p settings k x =
    let c = x.core in
    let m = mode_of c.mode in
    let o = operation_at p c.pc in
    let work = work_of settings m o c x.memory in
    let place = work.effect.place in
    let word = value_word m work.effect.value in
    cond (eqb work.effect.trap 0)
    (keep_exact beyond p settings.traps m o work.effect.exact
    (with_registers c (put_register place word work.w))
    (put_memory place word x.memory)
    (with_store m (suc k) place work.effect.value x.stores))
    (over (ended (Trap work.effect.trap)))

-- ---- its run

-- done: pc = count of operations
abbrev pub ledger_done : List Operation → Ledger → Bool
ledger_done p x = eqb x.core.pc (length p)

-- with n left of the budget and k steps made
abbrev pub exact_from : Beyond → List Operation → Settings → ℕ → ℕ → Ledger → Result Ledger
exact_from beyond p settings n k x = run (ledger_done p) (exact_turn beyond p settings) n k x

-- It starts from the engine's program, settings, budget and state and a copy of its memory
unfoldable pub exact_run : Beyond → List Operation → Settings → ℕ → Core → List ℕ → Result Ledger
exact_run beyond p settings budget c memory = exact_from beyond p settings budget 0 (record { core = c; memory = memory; stores = [] })

-- the ledger of document 01
abbrev pub ledger_run : List Operation → Settings → ℕ → Core → List ℕ → Result Ledger
ledger_run p settings budget c memory = exact_run stops p settings budget c memory

-- the ledger that goes on (wish 12)
abbrev pub onward_run : List Operation → Settings → ℕ → Core → List ℕ → Result Ledger
onward_run p settings budget c memory = exact_run goes_on p settings budget c memory
