-- `product::signed` meets its contract: the library's reading is the definition's. Assumes nothing.
use Rattle.std.proofs.Common.{◌≡◌, ℕ, ◌^◌, ◌<◌, ◌∙◌, arith, w16, to_z, to_z-of_z, FitsSigned, rules}
use Rattle.std.proofs.lemmas.Int.{ints}
use Rattle.integers.specs.Bits.{signed_of}
use Rattle.integers.proofs.Fitting.{gave}
use Rattle.accumulator.proofs.product.signed.Goals as goal

signed_is : (n : ℕ) → n < 2 ^ 16 → to_z w16 n ≡ signed_of 16 n
unfolding signed_of
signed_is n h = grind (arith, ints)

pub returns : goal.returns
returns c =
    let fits : FitsSigned w16 c.cast_signed.result = search rules in
    gave (c.from.ensures ∙ to_z-of_z fits ∙ c.cast_signed.ensures ∙ signed_is c.args.word c.ranges.word.fits) c.from.type_inv
