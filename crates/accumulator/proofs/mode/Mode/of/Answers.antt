-- `Mode::of` meets its contract: a mask of ones is a remainder. Assumes nothing.
use Rattle.std.proofs.Common.{◌≡◌, ℕ, ◌%◌, div-one}
use lib.Bits.{bit_and, and_mask}
use Rattle.accumulator.specs.Mode.{mode_of}
use Rattle.accumulator.proofs.mode.Mode.of.Goals as goal

pub returns : goal.returns
unfolding mode_of
returns c =
    let one : (n : ℕ) → bit_and n 1 ≡ n % 2 = λ n. and_mask n 1 in
    let two : (n : ℕ) → bit_and n 3 ≡ n % 4 = λ n. and_mask n 2 in
    simp (one, two, div-one)
