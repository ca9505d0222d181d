-- 64 bits of two halves, read as signed. Assumes nothing.
use Prim.Native.Nat.{ℕ, ◌+◌, ◌*◌, ◌-◌, ◌^◌, ◌≤◌, ◌<◌, suc}
use mathlib.Core.Path.{◌≡◌, ap, ◌∙◌}
use native.Mathlib.Omega.{arith}
use borrow.Author.Tests.{lt-ltb, le-ltb}
use lib.IntN.{pos, negsuc}
use mir.Syntax.{w64}
use mir.Val.{to_z}
use Rattle.std.proofs.Math.Facts.{to_z-neg}
use Rattle.std.proofs.lemmas.Int.{to_z_pos, ints}
use Rattle.std.proofs.lemmas.Bool.{cases_lt}
use Rattle.std.proofs.Common.{inl, inr}
use Rattle.integers.specs.Bits.{signed_of}
use Rattle.stream.specs.Header.{eight_bytes_of}

-- the high half is below 2^31
pub halves_low : (low high : ℕ) → low < 2 ^ 32 → high < 2 ^ 31 → to_z w64 (low + high * 2 ^ 32) ≡ eight_bytes_of low high
unfolding signed_of
halves_low low high l h =
    rw (lt-ltb high (2 ^ 31) h, to_z_pos w64 (low + high * 2 ^ 32) (omega arith)) (ap pos (omega arith))

last : (low high : ℕ) → low < 2 ^ 32 → high < 2 ^ 32 → 2 ^ 31 ≤ high → negsuc (2 ^ 64 - 1 - (low + high * 2 ^ 32)) ≡ eight_bytes_of low high
unfolding signed_of
last low high l h b = rw (le-ltb high (2 ^ 31) b) (omega (arith, ints))

-- the high half is not below 2^31
pub halves_high : (low high : ℕ) → low < 2 ^ 32 → high < 2 ^ 32 → 2 ^ 31 ≤ high → to_z w64 (low + high * 2 ^ 32) ≡ eight_bytes_of low high
unfolding signed_of
halves_high low high l h b =
    let k : ℕ = 2 ^ 64 - 1 - (low + high * 2 ^ 32) in
    let same : low + high * 2 ^ 32 ≡ 2 ^ 64 - suc k = omega arith in
    let below : k < 2 ^ 63 = omega arith in
    ap (to_z w64) same ∙ to_z-neg w64 k below ∙ last low high l h b

pub halves : (low high : ℕ) → low < 2 ^ 32 → high < 2 ^ 32 → to_z w64 (low + high * 2 ^ 32) ≡ eight_bytes_of low high
halves low high l h = elim (cases_lt high (2 ^ 31)) [ inl p ↦ halves_low low high l p | inr q ↦ halves_high low high l h q ]
