-- A result written into the accumulators is what settle_of gives. Assumes nothing.
use Prim.Native.Nat.{ℕ, zero, suc, ◌<◌}
use mathlib.Core.Path.{◌≡◌, refl, ◌∙◌}
use mathlib.Core.Bool.{Bool, true, false, cond, ◌&&◌, ◌||◌, not}
use mathlib.Core.List.{List}
use native.Mathlib.Omega.{arith}
use lib.IntN.{ℤ, pos}
use lib.ListN.{length, get_or, set}
use lib.Seq.{get_or-set_same, get_or-set_other, set-get_or}
use Rattle.integers.specs.Range.{outside}
use Rattle.integers.proofs.Whole.{by_test}
use Rattle.integers.proofs.Ranges.{not_outside, within_inside}
use Rattle.accumulator.specs.Limit.{limit_bits, has_left, overflows, write_of}
use Rattle.accumulator.specs.Mode.{saturates, mode_of}
use Rattle.accumulator.specs.declared.mode.Mode.{Mode}
use Rattle.accumulator.specs.declared.limit.Accumulator.{Accumulator}
use Rattle.accumulator.specs.declared.mode.Target.{Target}
use Rattle.accumulator.proofs.Writing.{kept_inside}
use Rattle.operations.specs.Decode.{target_of}
use Rattle.state.specs.Settings.{traps_overflow}
use Rattle.state.specs.State.{accumulator_at, with_written}
use Rattle.state.specs.declared.state.State.{State}
use Rattle.effects.specs.declared.effect.Exact.TheVariants.{Replace}
use Rattle.machine.specs.Write.{overflow_trap, trap_after, settle_of}
use Rattle.sequencer.specs.Lent.{lent_state}
use Rattle.sequencer.specs.declared.flow.Flow.{Flow}
use Rattle.sequencer.specs.declared.sums.Sums.{Sums}

-- ---- accumulators and flags written

-- arrays of two
pub record Twos (s : Sums) : Type 0 where
  pub values : length s.values ≡ 2
  pub overflows : length s.overflow ≡ 2
  pub saturations : length s.saturation ≡ 2

module _ (t : ℕ) (l : t < 2) (sums : Sums) (twos : Twos sums) (w starts passes : List ℕ) (f : Flow) where
  abbrev before : State
  before = lent_state w sums.values sums.overflow sums.saturation starts passes f

  abbrev wrote : ℕ → ℤ → Bool → Bool → State
  wrote t v o s = lent_state w (set sums.values t v) (set sums.overflow t o) (set sums.saturation t s) starts passes f

  written : (v : ℤ) (o s : Bool) → wrote t v o s ≡ with_written before (target_of t) (record { value = v; overflow = o; saturation = s })
  written v o s = go t l
    where
      go : (t : ℕ) → t < 2 → wrote t v o s ≡ with_written before (target_of t) (record { value = v; overflow = o; saturation = s })
      go zero l =
          rw (
            get_or-set_same sums.values 0 v (pos 0) (omega (arith, twos.values)),
            get_or-set_other sums.values 0 1 v (pos 0) (λ e. omega arith),
            get_or-set_same sums.overflow 0 o false (omega (arith, twos.overflows)),
            get_or-set_other sums.overflow 0 1 o false (λ e. omega arith),
            get_or-set_same sums.saturation 0 s false (omega (arith, twos.saturations)),
            get_or-set_other sums.saturation 0 1 s false (λ e. omega arith),
          )
      go (suc zero) l =
          rw (
            get_or-set_same sums.values 1 v (pos 0) (omega (arith, twos.values)),
            get_or-set_other sums.values 1 0 v (pos 0) (λ e. omega arith),
            get_or-set_same sums.overflow 1 o false (omega (arith, twos.overflows)),
            get_or-set_other sums.overflow 1 0 o false (λ e. omega arith),
            get_or-set_same sums.saturation 1 s false (omega (arith, twos.saturations)),
            get_or-set_other sums.saturation 1 0 s false (λ e. omega arith),
          )
      go (suc (suc t)) l = absurd (omega arith)

  there : accumulator_at before (target_of t) ≡ record { value = get_or sums.values t (pos 0); overflow = get_or sums.overflow t false; saturation = get_or sums.saturation t false }
  there = go t l
    where
      go : (t : ℕ) → t < 2 → accumulator_at before (target_of t) ≡ record { value = get_or sums.values t (pos 0); overflow = get_or sums.overflow t false; saturation = get_or sums.saturation t false }
      go zero l = refl
      go (suc zero) l = refl
      go (suc (suc t)) l = absurd (omega arith)

  pub settled : (traps : ℕ) (m : Mode) (r : ℤ) (after : Accumulator) (trap : ℕ)
      → after ≡ write_of (record { value = get_or sums.values t (pos 0); overflow = get_or sums.overflow t false; saturation = get_or sums.saturation t false }) m (target_of t) r
      → trap ≡ trap_after traps m (target_of t) r
      → record { state = wrote t after.value after.overflow after.saturation; trap = trap } ≡ settle_of traps m (Replace (target_of t) r) before
  unfolding settle_of
  settled traps m r after trap e et = rw (written after.value after.overflow after.saturation, e, et, there)

-- ---- within 32 bits

-- a result within 32 bits is within either limits
never_left : (m : Mode) (t : Target) (r : ℤ) → overflows r ≡ false → has_left m t r ≡ false
unfolding overflows has_left limit_bits
never_left m t r e =
    by_test (λ k. outside k r ≡ false) (saturates m t && not m.accsat) (λ d. e) (λ d. within_inside 39 r (omega (arith, not_outside 31 r e)))

or_right : (s l : Bool) → l ≡ false → (s || l) ≡ s
or_right true l e = refl
or_right false l e = e

module _ (traps : ℕ) (m : Mode) (t : Target) (r : ℤ) (small : overflows r ≡ false) where
  inside : has_left m t r ≡ false
  inside = never_left m t r small

  -- it is kept, and has no trap
  small_write : (before : Accumulator) → record { value = r; overflow = false; saturation = before.saturation } ≡ write_of before m t r
  unfolding write_of
  small_write before = rw (inside, kept_inside m t r inside, small, or_right before.saturation false refl)

  small_trap : 0 ≡ trap_after traps m t r
  unfolding trap_after
  small_trap = rw (inside, kept_inside m t r inside, small)

pub settles_small : (traps mode t : ℕ) (l : t < 2) (r : ℤ) (before : Sums) (twos : Twos before) → overflows r ≡ false → (w starts passes : List ℕ) (f : Flow)
    → record { state = lent_state w (set before.values t r) (set before.overflow t false) before.saturation starts passes f; trap = 0 }
    ≡ settle_of traps (mode_of mode) (Replace (target_of t) r) (lent_state w before.values before.overflow before.saturation starts passes f)
settles_small traps mode t l r before twos small w starts passes f =
    let m = mode_of mode in
    rw (set-get_or before.saturation t false) at
    (settled t l before twos w starts passes f traps m r _ 0 (small_write traps m (target_of t) r small _) (small_trap traps m (target_of t) r small))

-- ---- beyond 32 bits, within the limits

module _ (traps : ℕ) (m : Mode) (t : Target) (r : ℤ) (beyond : overflows r ≡ true) (inside : has_left m t r ≡ false) where
  beyond_write : (before : Accumulator) → record { value = r; overflow = true; saturation = before.saturation } ≡ write_of before m t r
  unfolding write_of
  beyond_write before = rw (inside, kept_inside m t r inside, beyond, or_right before.saturation false refl)

  beyond_trap : cond (traps_overflow traps t) (overflow_trap t) 0 ≡ trap_after traps m t r
  unfolding trap_after
  beyond_trap = rw (inside, kept_inside m t r inside, beyond)

pub settles_beyond : (traps mode t : ℕ) (l : t < 2) (r : ℤ) (before : Sums) (twos : Twos before) (trap : ℕ) → overflows r ≡ true → has_left (mode_of mode) (target_of t) r ≡ false
    → trap ≡ cond (traps_overflow traps (target_of t)) (overflow_trap (target_of t)) 0 → (w starts passes : List ℕ) (f : Flow)
    → record { state = lent_state w (set before.values t r) (set before.overflow t true) before.saturation starts passes f; trap = trap }
    ≡ settle_of traps (mode_of mode) (Replace (target_of t) r) (lent_state w before.values before.overflow before.saturation starts passes f)
settles_beyond traps mode t l r before twos trap beyond inside e w starts passes f =
    let m = mode_of mode in
    rw (set-get_or before.saturation t false) at
    (settled t l before twos w starts passes f traps m r _ trap (beyond_write traps m (target_of t) r beyond inside _) (e ∙ beyond_trap traps m (target_of t) r beyond inside))
