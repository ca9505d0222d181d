-- `product::product` meets its contract: each factor is at most 65,535 in size, so the product and its double fit. Assumes nothing.
use Rattle.std.proofs.Common.{true, false, lit<, to_z-of_z, rules}
use Rattle.integers.proofs.Fitting.{gave, fits_abs}
use Rattle.accumulator.specs.Product.{product_of}
use Rattle.accumulator.proofs.Sizes.{product_size}
use Rattle.accumulator.proofs.product.product.Goals as goal
use Rattle.accumulator.proofs.product.product.Goals.{After-read-2}

-- the product that is not doubled is `product_of` with IF = 1, and the one that is doubled with IF = 0
pub overflow_mul-p : goal.overflow_mul-p
unfolding product_of
overflow_mul-p c =
    simp (gave c.read.ensures c.read.type_inv, gave c.read-2.ensures c.read-2.type_inv)
    (fits_abs _ (product_size true c.args.m c.args.n (search rules) (search rules)) (lit< tt))

pub overflow_mul-result : goal.overflow_mul-result
unfolding product_of
overflow_mul-result c =
    rw (to_z-of_z (overflow_mul-p (goal.at.overflow_mul-result c).After-read-2))
    (simp (gave c.read.ensures c.read.type_inv, gave c.read-2.ensures c.read-2.type_inv)
    (fits_abs _ (product_size false c.args.m c.args.n (search rules) (search rules)) (lit< tt)))

pub returns-then-integer : goal.returns-then-integer
unfolding product_of
returns-then-integer c =
    rw (to_z-of_z (overflow_mul-p (goal.at.returns-then-integer c).After-read-2))
    (simp (gave c.read.ensures c.read.type_inv, gave c.read-2.ensures c.read-2.type_inv, c.if-integer.true))

pub returns-else-integer : goal.returns-else-integer
unfolding product_of
returns-else-integer c =
    rw (to_z-of_z (overflow_mul-result c), to_z-of_z (overflow_mul-p (goal.at.returns-else-integer c).After-read-2))
    (simp (gave c.read.ensures c.read.type_inv, gave c.read-2.ensures c.read-2.type_inv, c.if-integer.false))
