-- The engine's writes: the exact result limited, with its flags and traps 5 to 7, and the one store.
use Rattle.std.specs.Prelude.{ℕ, cond, not, ◌&&◌, List, ℤ, set}
use Rattle.accumulator.specs.Mode.{saturates}
use Rattle.accumulator.specs.Limit.{has_left, kept_of, overflows, write_of}
use Rattle.accumulator.specs.Store.{store_of}
use Rattle.accumulator.specs.declared.mode.Mode.{Mode}
use Rattle.accumulator.specs.declared.mode.Target.{Target}
use Rattle.accumulator.specs.declared.mode.Target.TheVariants.{A, B}
use Rattle.state.specs.Settings.{traps_overflow, traps_left}
use Rattle.state.specs.State.{accumulator_at, with_written}
use Rattle.state.specs.declared.state.State.{State}
use Rattle.effects.specs.declared.access.Place.{Place}
use Rattle.effects.specs.declared.access.Place.TheVariants.{Nowhere, Register, Memory}
use Rattle.effects.specs.declared.effect.Exact.{Exact}
use Rattle.effects.specs.declared.effect.Exact.TheVariants.{Keep, Replace}
use Rattle.effects.specs.declared.effect.Value.{Value}
use Rattle.effects.specs.declared.effect.Value.TheVariants.{Word, Scaled}

-- ---- accumulators

-- 6 OA with OVATE; 7 OB with OVBTE
abbrev pub overflow_trap : Target → ℕ
overflow_trap A = 6
overflow_trap B = 7

-- by the trap word: 5 limits left, saturation off, COVTE; then 6 or 7, only on writing that accumulator; 0 none
unfoldable pub trap_after : ℕ → Mode → Target → ℤ → ℕ
trap_after traps m t r =
    cond (has_left m t r && (not (saturates m t) && traps_left traps)) 5
    (cond (overflows (kept_of m t r) && traps_overflow traps t) (overflow_trap t)
    0)

-- a state after a write, and the trap after it
pub record Settled : Type 0 where
  pub state : State
  pub trap : ℕ

-- the exact result is limited and written, by the trap word
unfoldable pub settle_of : ℕ → Mode → Exact → State → Settled
settle_of traps m Keep s = record { state = s; trap = 0 }
settle_of traps m (Replace t r) s = record { state = with_written s t (write_of (accumulator_at s t) m t r); trap = trap_after traps m t r }

-- ---- the one store

-- the word of a value: a word as it is, an accumulator truncated or rounded
unfoldable pub value_word : Mode → Value → ℕ
value_word m (Word x) = x
value_word m (Scaled round v) = (store_of m round v).word

-- to a register
unfoldable pub put_register : Place → ℕ → List ℕ → List ℕ
put_register Nowhere x w = w
put_register (Register r) x w = set w r x
put_register (Memory i) x w = w

-- or to memory
unfoldable pub put_memory : Place → ℕ → List ℕ → List ℕ
put_memory Nowhere x memory = memory
put_memory (Register r) x memory = memory
put_memory (Memory i) x memory = set memory i.0 x
