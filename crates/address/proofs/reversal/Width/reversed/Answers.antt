-- `Width::reversed` meets its contract: four exchanges reverse sixteen bits, and the shifts leave the b highest. Assumes nothing.
use Rattle.std.proofs.Common.{◌≡◌, ◌∙◌, mod-eq_of_lt, rules}
use Rattle.address.proofs.Fields.{fields, lower_fields, exchange_fields, single_fields, one_field, highest}
use Rattle.address.proofs.reversal.Width.reversed.Goals as goal

pub returns : goal.returns
unfolding lower_fields
returns c =
    let j = c.args.j in
    let bits : fields 1 16 j ≡ j = single_fields 16 j ∙ mod-eq_of_lt (search rules) in
    let twos : c.exchanged-twos.result ≡ fields 2 8 j = rw c.exchanged-twos.ensures (rw bits at (exchange_fields 1 8 j)) in
    let fours : c.exchanged-fours.result ≡ fields 4 4 j = rw (c.exchanged-fours.ensures, twos) (exchange_fields 2 4 j) in
    let eights : c.exchanged-eights.result ≡ fields 8 2 j = rw (c.exchanged-eights.ensures, fours) (exchange_fields 4 2 j) in
    let sixteen : c.exchanged-sixteen.result ≡ fields 16 1 j = rw (c.exchanged-sixteen.ensures, eights) (exchange_fields 8 1 j) in
    rw (sixteen, one_field 16 j) (highest c.args.self.b j c.args.self.bound)
