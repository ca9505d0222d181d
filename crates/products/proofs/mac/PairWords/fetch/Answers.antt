-- `PairWords::fetch` meets its contract: each read is its access, and there is no write-back. Assumes nothing.
use Rattle.std.proofs.Common.{length, sym, refl, arith, Ok, Err}
use Rattle.std.proofs.lemmas.Result.{err_from_is_err_and}
use Rattle.effects.specs.Mac.{mac_accesses}
use Rattle.form.specs.Words.{mac_in}
use Rattle.form.proofs.Fields.{mac_fields}
use Rattle.products.proofs.Fetches.{first_x, first_y, first_none}
use Rattle.products.proofs.Pairs.{pair_fields, x_reads, y_reads, back_is_free}
use Rattle.products.proofs.mac.PairWords.fetch.Goals as goal

pub register-requires : goal.register-requires
register-requires c =
    rw c.word.ensures (mac_fields c.args.self.coded.encoded (pair_fields c.args.self.coded.code.now c.args.self.coded.at c.args.self.pair).kind).x

pub register-requires-2 : goal.register-requires-2
register-requires-2 c =
    rw c.word-2.ensures (mac_fields c.args.self.coded.encoded (pair_fields c.args.self.coded.code.now c.args.self.coded.at c.args.self.pair).kind).y

pub read_at-requires : goal.read_at-requires
read_at-requires c = rw c.x_part.ensures c.requires.xwords_in_bounds

pub read_at-requires-2 : goal.read_at-requires-2
read_at-requires-2 c = rw c.y_part.ensures (omega arith)

pub returns-in_err-x : goal.returns-in_err-x
returns-in_err-x c =
    let a = c.args in
    let code = a.self.coded.code.now in
    let at = a.self.coded.at in
    let w = a.w.now in
    let memory = a.memory.now in
    let all = mac_accesses a.settings (mac_in code at) w (length memory) in
    let fields = pair_fields code at c.args.self.pair in
    let xa = rw c.word.ensures at c.register.ensures in
    let p = err_from_is_err_and c.from_residual.result c.from_residual.ensures.1 in
    let x = x_reads a.settings code at w memory fields (Err c.in_err-x.field-0.0) c.register.result xa (rw c.x_part.ensures at c.in_err-x.ensures) in
    rw (p.1, p.2) (record { trap = first_x all c.in_err-x.field-0.0 x.trap; fetched = tt })

pub returns-in_err-y : goal.returns-in_err-y
returns-in_err-y c =
    let a = c.args in
    let code = a.self.coded.code.now in
    let at = a.self.coded.at in
    let w = a.w.now in
    let memory = a.memory.now in
    let all = mac_accesses a.settings (mac_in code at) w (length memory) in
    let fields = pair_fields code at c.args.self.pair in
    let xa = rw c.word.ensures at c.register.ensures in
    let ya = rw c.word-2.ensures at c.register-2.ensures in
    let p = err_from_is_err_and c.from_residual-in_err-y.result c.from_residual-in_err-y.ensures.1 in
    let x = x_reads a.settings code at w memory fields (Ok c.in_ok-x.x) c.register.result xa (rw c.x_part.ensures at c.in_ok-x.ensures) in
    let y = y_reads a.settings code at w memory fields (Err c.in_err-y.field-0.0) c.register-2.result ya (rw c.y_part.ensures at c.in_err-y.ensures) in
    rw (p.1, p.2) (record { trap = first_y all c.in_err-y.field-0.0 x.trap y.trap; fetched = tt })

pub returns : goal.returns
returns c =
    let a = c.args in
    let code = a.self.coded.code.now in
    let at = a.self.coded.at in
    let w = a.w.now in
    let memory = a.memory.now in
    let all = mac_accesses a.settings (mac_in code at) w (length memory) in
    let fields = pair_fields code at c.args.self.pair in
    let xa = rw c.word.ensures at c.register.ensures in
    let ya = rw c.word-2.ensures at c.register-2.ensures in
    let x = x_reads a.settings code at w memory fields (Ok c.in_ok-x.x) c.register.result xa (rw c.x_part.ensures at c.in_ok-x.ensures) in
    let y = y_reads a.settings code at w memory fields (Ok c.in_ok-y.y) c.register-2.result ya (rw c.y_part.ensures at c.in_ok-y.ensures) in
    let free = first_none all x.trap y.trap (back_is_free a.settings code at w memory fields) in
    record { trap = free; fetched = record { free = free; xa = sym xa; ya = sym ya; ba = refl; x = x.word; y = y.word } }
