-- What a write leaves: pc, the loops and the mode word; with trap word 0 it never traps. Assumes nothing.
use Prim.Native.Nat.{ℕ}
use mathlib.Core.Bool.{false, not, and-false}
use mathlib.Core.Path.{◌≡◌, refl}
use lib.IntN.{ℤ}
use Rattle.accumulator.specs.Mode.{saturates}
use Rattle.accumulator.specs.Limit.{has_left, kept_of, overflows}
use Rattle.accumulator.specs.declared.mode.Mode.{Mode}
use Rattle.accumulator.specs.declared.mode.Target.{Target}
use Rattle.accumulator.specs.declared.mode.Target.TheVariants.{A, B}
use Rattle.state.specs.Settings.{traps_overflow, traps_left}
use Rattle.state.specs.declared.state.State.{State}
use Rattle.effects.specs.declared.effect.Exact.{Exact}
use Rattle.effects.specs.declared.effect.Exact.TheVariants.{Keep, Replace}
use Rattle.machine.specs.Write.{trap_after, settle_of}

-- ---- a write leaves pc and the loops

pub settled_pc : (t : ℕ) (m : Mode) (e : Exact) (s : State) → (settle_of t m e s).state.core.pc ≡ s.core.pc
unfolding settle_of
settled_pc t m Keep s = refl
settled_pc t m (Replace A r) s = refl
settled_pc t m (Replace B r) s = refl

pub settled_loops : (t : ℕ) (m : Mode) (e : Exact) (s : State) → (settle_of t m e s).state.core.loops ≡ s.core.loops
unfolding settle_of
settled_loops t m Keep s = refl
settled_loops t m (Replace A r) s = refl
settled_loops t m (Replace B r) s = refl

pub settled_mode : (t : ℕ) (m : Mode) (e : Exact) (s : State) → (settle_of t m e s).state.core.mode ≡ s.core.mode
unfolding settle_of
settled_mode t m Keep s = refl
settled_mode t m (Replace A r) s = refl
settled_mode t m (Replace B r) s = refl

-- ---- with trap word 0 no write traps

pub no_overflow_trap : (t : Target) → traps_overflow 0 t ≡ false
unfolding traps_overflow
no_overflow_trap A = refl
no_overflow_trap B = refl

pub no_trap : (m : Mode) (t : Target) (r : ℤ) → trap_after 0 m t r ≡ 0
unfolding trap_after traps_left
no_trap m t r =
    rw (no_overflow_trap t, and-false (not (saturates m t)), and-false (has_left m t r), and-false (overflows (kept_of m t r)))
