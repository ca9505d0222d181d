-- `PairWords::arrive` meets its contract: both words arrive. Assumes nothing.
use Rattle.form.proofs.Fields.{mac_fields}
use Rattle.products.proofs.Pairs.{pair_fields, pair_arrives}
use Rattle.products.proofs.mac.PairWords.arrive.Goals as goal

pub set_register-requires : goal.set_register-requires
set_register-requires c =
    rw c.word.ensures (mac_fields c.args.self.coded.encoded (pair_fields c.args.self.coded.code.now c.args.self.coded.at c.args.self.pair).kind).xto

pub set_register-requires-2 : goal.set_register-requires-2
set_register-requires-2 c =
    rw c.word-2.ensures (mac_fields c.args.self.coded.encoded (pair_fields c.args.self.coded.code.now c.args.self.coded.at c.args.self.pair).kind).yto

pub returns : goal.returns
returns c =
    let a = c.args in
    rw (c.set_register-2.ensures, c.set_register.ensures, c.word-2.ensures, c.word.ensures)
    (pair_arrives a.self.coded.code.now a.self.coded.at a.x a.y a.w.now (pair_fields a.self.coded.code.now a.self.coded.at c.args.self.pair))
