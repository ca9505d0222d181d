-- `product::read` meets its contract: the two arms are the two sides of the definition. Assumes nothing.
use Rattle.std.proofs.Common.{◌≡◌, ◌^◌, ◌<◌, pos, w64, to_z, rules}
use Rattle.integers.proofs.Fitting.{gave, word_plain}
use Rattle.accumulator.specs.Product.{read_of}
use Rattle.accumulator.proofs.product.read.Goals as goal

pub returns-then-factor : goal.returns-then-factor
unfolding read_of
returns-then-factor c =
    let w = c.args.factor.word in
    let small : w < 2 ^ 16 = search rules in
    let plain : to_z w64 w ≡ pos w = word_plain (record { fits = small }) in
    rw (plain, c.if-factor.true)

pub returns-else-factor : goal.returns-else-factor
unfolding read_of
returns-else-factor c = rw (gave c.signed.ensures c.signed.type_inv, c.if-factor.false)
