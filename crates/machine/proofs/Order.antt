-- The order of execution reads neither A, B nor the O flags, and changes nothing but pc, loops, repeat left and, by kind 24, the mode word. Assumes
-- nothing.
use Prim.Native.Nat.{ℕ, ◌-◌}
use mathlib.Core.Bool.{Bool, ◌&&◌}
use mathlib.Core.List.{List}
use mathlib.Core.Path.{◌≡◌, refl, ap, ◌∙◌}
use lib.Dec.{eqb, ltb}
use lib.IntN.{ℤ}
use Rattle.integers.proofs.Whole.{by_test, same_test}
use Rattle.operations.specs.declared.operation.Operation.{Operation}
use Rattle.state.specs.State.{go_to, with_mode}
use Rattle.state.specs.declared.state.Core.{Core}
use Rattle.machine.specs.Loops.{inner_passes}
use Rattle.machine.specs.Control.{inner_last, fallen, advanced, repeated, entered, ended_early, controlled}
use Rattle.machine.specs.declared.control.Control.{Control}
use Rattle.machine.specs.declared.control.Control.TheVariants.{None as Onward, Repeat as Repeating, RepeatRegister as RepeatingRegister, Do as Looping}
use Rattle.machine.specs.declared.control.Control.TheVariants.{DoRegister as LoopingRegister, EndEarly as EndingEarly, SetMode as SettingMode}
use Rattle.machine.specs.declared.control.Control.TheVariants.{ClearSaturation as Clearing}

-- ---- what it does not read

-- a core with other accumulators and O flags
abbrev pub with_sums : Core → ℤ → ℤ → Bool → Bool → Core
with_sums c a b oa ob =
    record { w = c.w; a = a; b = b; pc = c.pc; loops = c.loops; repeat = c.repeat; mode = c.mode; oa = oa; ob = ob }

module _ (p : List Operation) (a b : ℤ) (oa ob : Bool) where
  -- d is e with them
  abbrev Changed : Core → Core → Type 0
  Changed d e = d ≡ with_sums e a b oa ob

  fallen_sums : (c : Core) → Changed (fallen (with_sums c a b oa ob)) (fallen c)
  unfolding fallen
  fallen_sums c = same_test Changed (ltb 0 (inner_passes c.loops - 1)) (λ e. refl) (λ e. refl)

  advanced_sums : (c : Core) → Changed (advanced p (with_sums c a b oa ob)) (advanced p c)
  unfolding advanced
  advanced_sums c =
      same_test Changed (ltb 1 c.repeat) (λ e. refl)
      (λ e. same_test Changed (ltb 0 c.loops.depth && eqb c.pc (inner_last p c)) (λ f. fallen_sums c) (λ f. refl))

  ended_sums : (c : Core) → Changed (ended_early p (with_sums c a b oa ob)) (ended_early p c)
  unfolding ended_early
  ended_sums c = same_test Changed (ltb 0 c.loops.depth) (λ e. refl) (λ e. refl)

  pub controlled_sums : (k : Control) (c : Core) → Changed (controlled p k (with_sums c a b oa ob)) (controlled p k c)
  unfolding controlled repeated entered
  controlled_sums Onward c = advanced_sums c
  controlled_sums (Repeating n) c = refl
  controlled_sums (RepeatingRegister r) c = refl
  controlled_sums (Looping n) c = refl
  controlled_sums (LoopingRegister r) c = refl
  controlled_sums EndingEarly c = rw (ended_sums c) (advanced_sums (ended_early p c))
  controlled_sums (SettingMode word) c = advanced_sums (with_mode c word)
  controlled_sums Clearing c = advanced_sums c

-- ---- what it leaves

-- the mode word after it
abbrev pub mode_after : Control → ℕ → ℕ
mode_after Onward m = m
mode_after (Repeating n) m = m
mode_after (RepeatingRegister r) m = m
mode_after (Looping n) m = m
mode_after (LoopingRegister r) m = m
mode_after EndingEarly m = m
mode_after (SettingMode word) m = word
mode_after Clearing m = m

-- d is c with this mode word but for pc, loops and repeat left
abbrev pub Framed : ℕ → Core → Core → Type 0
Framed m c d = d ≡ go_to (with_mode c m) d.pc d.loops d.repeat

module _ (p : List Operation) where
  fallen_frame : (c : Core) → Framed c.mode c (fallen c)
  unfolding fallen
  fallen_frame c = by_test (Framed c.mode c) (ltb 0 (inner_passes c.loops - 1)) (λ e. refl) (λ e. refl)

  advanced_frame : (c : Core) → Framed c.mode c (advanced p c)
  unfolding advanced
  advanced_frame c =
      by_test (Framed c.mode c) (ltb 1 c.repeat) (λ e. refl)
      (λ e. by_test (Framed c.mode c) (ltb 0 c.loops.depth && eqb c.pc (inner_last p c)) (λ f. fallen_frame c) (λ f. refl))

  ended_frame : (c : Core) → Framed c.mode c (ended_early p c)
  unfolding ended_early
  ended_frame c = by_test (Framed c.mode c) (ltb 0 c.loops.depth) (λ e. refl) (λ e. refl)

  -- everything but pc, loops, repeat left and, by kind 24, the mode word
  pub controlled_frame : (k : Control) (c : Core) → Framed (mode_after k c.mode) c (controlled p k c)
  unfolding controlled repeated entered
  controlled_frame Onward c = advanced_frame c
  controlled_frame (Repeating n) c = refl
  controlled_frame (RepeatingRegister r) c = refl
  controlled_frame (Looping n) c = refl
  controlled_frame (LoopingRegister r) c = refl
  controlled_frame EndingEarly c =
      let d = advanced p (ended_early p c) in
      advanced_frame (ended_early p c) ∙ ap (λ (e : Core). go_to e d.pc d.loops d.repeat) (ended_frame c)
  controlled_frame (SettingMode word) c = advanced_frame (with_mode c word)
  controlled_frame Clearing c = advanced_frame c
