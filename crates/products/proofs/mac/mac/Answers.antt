-- `mac::mac` meets its contract: a pair, or a trap without effect, or the work. Assumes nothing.
use Rattle.std.proofs.lemmas.Result.{err_from_is_err_and}
use Rattle.products.proofs.Works.{mac_trapped}
use Rattle.products.proofs.mac.mac.Goals as goal

pub returns-in_err-f : goal.returns-in_err-f
returns-in_err-f c =
    let a = c.args in
    let p = err_from_is_err_and c.from_residual-in_err-f.result c.from_residual-in_err-f.ensures.1 in
    rw (p.1, p.2) (mac_trapped a.settings a.mode a.acc.now a.w.now a.memory.now a.coded.encoded c.requires.at_bound c.in_err-f.field-0.0 c.in_err-f.ensures.trap)
