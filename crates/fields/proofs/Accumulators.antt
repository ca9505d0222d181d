-- The accumulators that an operation names by its target's number. Assumes nothing.
use Prim.Native.Nat.{ℕ, zero, suc, ◌-◌, ◌<◌}
use mathlib.Core.Path.{◌≡◌, refl}
use mathlib.Core.Bool.{true}
use mathlib.Core.List.{List}
use native.Mathlib.Omega.{arith}
use lib.IntN.{ℤ, pos}
use lib.ListN.{get_or}
use mir.Syntax.{w64}
use mir.Val.{SFits, to_z, of_z}
use mir.Facts.{to_z-of_z}
use Rattle.accumulator.specs.Limit.{is_accumulator}
use Rattle.accumulator.proofs.Sizes.{accumulator_within}
use Rattle.operations.specs.Decode.{target_of}
use Rattle.state.specs.State.{accumulator_of, other_of}
use Rattle.state.specs.declared.state.Core.{Core}
use Rattle.fields.specs.Carried.{core_with, Accumulators}

-- the target's and the other
pub target_value : (c : Core) (acc : List ℤ) (w : List ℕ) (t : ℕ) → t < 2 → accumulator_of (core_with c w acc) (target_of t) ≡ get_or acc t (pos 0)
target_value c acc w zero l = refl
target_value c acc w (suc zero) l = refl
target_value c acc w (suc (suc t)) l = absurd (omega arith)

pub other_value : (c : Core) (acc : List ℤ) (w : List ℕ) (t : ℕ) → t < 2 → accumulator_of (core_with c w acc) (other_of (target_of t)) ≡ get_or acc (1 - t) (pos 0)
other_value c acc w zero l = refl
other_value c acc w (suc zero) l = refl
other_value c acc w (suc (suc t)) l = absurd (omega arith)

-- either has 40 bits
pub within : (acc : List ℤ) (t : ℕ) → t < 2 → Accumulators acc → is_accumulator (get_or acc t (pos 0)) ≡ true
within acc zero l h = h.a
within acc (suc zero) l h = h.b
within acc (suc (suc t)) l h = absurd (omega arith)

-- and is read back as it is
pub kept : (acc : List ℤ) (t : ℕ) → t < 2 → Accumulators acc → to_z w64 (of_z w64 (get_or acc t (pos 0))) ≡ get_or acc t (pos 0)
kept acc t l h =
    let small = accumulator_within (get_or acc t (pos 0)) (within acc t l h) in
    let fits : SFits w64 (get_or acc t (pos 0)) = omega (arith, small) in
    to_z-of_z fits
