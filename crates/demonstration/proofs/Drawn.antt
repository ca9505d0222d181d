-- A small natural, as an i64, less a small number fits. Assumes nothing.
use mathlib.Core.Path.{◌≡◌}
use Prim.Native.Nat.{ℕ, ◌<◌, ◌^◌}
use native.Mathlib.Omega.{arith}
use lib.IntN.{pos, ◌-ℤ◌}
use mir.Syntax.{w64}
use mir.Val.{SFits, to_z}
use mir.Facts.{to_z_pos}
use Rattle.integers.proofs.Whole.{whole, size, less}

pub drawn_less : (n k : ℕ) → n < 2 ^ 50 → k < 2 ^ 50 → SFits w64 (to_z w64 n -ℤ pos k)
drawn_less n k h l =
    let plain : to_z w64 n ≡ pos n = to_z_pos w64 (omega arith) in
    rw plain (omega (whole, size (pos n -ℤ pos k), less (pos n) (pos k)))
