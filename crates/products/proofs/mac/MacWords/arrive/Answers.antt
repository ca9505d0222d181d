-- `MacWords::arrive` meets its contract: the difference, or both words. Assumes nothing.
use Rattle.std.proofs.Common.{◌≡◌, ℕ, ◌+◌, ◌-◌, ◌%◌, ◌^◌, ◌<◌, mod-lt, arith, lit<, rules}
use Rattle.form.specs.Words.{field}
use Rattle.form.proofs.Fields.{mac_fields}
use Rattle.products.proofs.Arrivals.{arrived_difference, arrived_words}
use Rattle.products.proofs.mac.MacWords.arrive.Goals as goal

pub set_register-requires : goal.set_register-requires
set_register-requires c =
    rw c.word-xto.ensures (mac_fields c.args.self.coded.encoded c.args.self.class).xto

pub load-requires : goal.load-requires
load-requires c =
    rw c.word-xto.ensures (mac_fields c.args.self.coded.encoded c.args.self.class).xto

pub load-requires-else-which : goal.load-requires-else-which
load-requires-else-which c =
    rw c.word-yto.ensures (mac_fields c.args.self.coded.encoded c.args.self.class).yto

pub returns-then-which : goal.returns-then-which
returns-then-which c =
    let a = c.args in
    let r : ℕ = (a.x + (65536 - a.y)) % 65536 in
    let small : r < 2 ^ 16 = mod-lt (a.x + (65536 - a.y)) (lit< tt) in
    let first : a.x < 2 ^ 16 = search rules in
    let second : a.y < 2 ^ 16 = search rules in
    let back : (r + a.y) % 2 ^ 16 ≡ a.x = omega (arith, first, second) in
    let which = rw c.kind-which.ensures at c.if-which.true in
    rw (c.set_register.ensures, c.word-xto.ensures)
    (arrived_difference a.self.coded.code.now a.self.coded.at a.x a.y a.w.now r which first second small back)

pub returns-else-which : goal.returns-else-which
returns-else-which c =
    let a = c.args in
    let code = a.self.coded.code.now in
    let at = a.self.coded.at in
    let which = rw c.kind-which.ensures at c.if-which.false in
    rw (c.load-else-which.ensures (field code at 7) 13, c.load.ensures (field code at 5) 12, c.word-second.ensures, c.word-first.ensures, c.word-yto.ensures, c.word-xto.ensures)
    (arrived_words code at a.x a.y a.w.now which)
