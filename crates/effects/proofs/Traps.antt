-- The first of two traps. Assumes nothing.
use Prim.Native.Nat.{ℕ, zero, suc}
use mathlib.Core.Path.{◌≡◌, refl}
use Rattle.program.specs.Answer.{◌then◌}

-- a trap that is one is the first
pub first_some : (a b : ℕ) → (a ≡ 0 → ⊥) → a ≡ a then b
first_some zero b h = absurd (h refl)
first_some (suc a) b h = refl
