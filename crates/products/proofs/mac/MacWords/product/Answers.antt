-- `MacWords::product` meets its contract, and a product of words is below 2^33. Assumes nothing.
use Rattle.std.proofs.Common.{◌≡◌, ◌^◌, ◌<◌, w64, to_z, of_z, rules}
use Rattle.accumulator.proofs.Sizes.{product_size}
use Rattle.form.proofs.Fields.{mac_fields}
use Rattle.products.proofs.mac.MacWords.product.Goals as goal

pub register-m-requires : goal.register-m-requires
register-m-requires c =
    rw c.word.ensures (mac_fields c.args.self.coded.encoded c.args.self.class).m

pub register-n-requires : goal.register-n-requires
register-n-requires c =
    rw c.word-2.ensures (mac_fields c.args.self.coded.encoded c.args.self.class).n

pub returns : goal.returns
returns c =
    let back : to_z w64 (of_z w64 c.product.result) ≡ c.product.result = search rules in
    let first : c.factor.result.word < 2 ^ 16 = search rules in
    let second : c.factor-2.result.word < 2 ^ 16 = search rules in
    rw (back, c.product.ensures) (record { value = rw (c.factor-2.ensures, c.factor.ensures, c.of-taken.ensures, c.register-n.ensures, c.word-2.ensures, c.register-m.ensures, c.word.ensures); result_bound = product_size c.of-taken.result.integer c.factor.result c.factor-2.result first second })
