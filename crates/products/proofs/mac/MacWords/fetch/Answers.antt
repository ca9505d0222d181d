-- `MacWords::fetch` meets its contract: each read is its access. Assumes nothing.
use Rattle.std.proofs.Common.{length, sym, refl}
use Rattle.std.proofs.lemmas.Result.{err_from_is_err_and}
use Rattle.effects.specs.Mac.{mac_accesses}
use Rattle.form.specs.Words.{field, mac_in}
use Rattle.form.proofs.Fields.{mac_fields}
use Rattle.products.proofs.Fetches.{first_x, first_y, first_back, first_none}
use Rattle.products.proofs.mac.MacWords.fetch.Goals as goal

pub register-requires : goal.register-requires
register-requires c = rw c.word-first.ensures (mac_fields c.args.self.coded.encoded c.args.self.class).x

pub register-requires-2 : goal.register-requires-2
register-requires-2 c = rw c.word-second.ensures (mac_fields c.args.self.coded.encoded c.args.self.class).y

pub returns-in_err-xword : goal.returns-in_err-xword
unfolding mac_accesses
returns-in_err-xword c =
    let a = c.args in
    let code = a.self.coded.code.now in
    let at = a.self.coded.at in
    let all = mac_accesses a.settings (mac_in code at) a.w.now (length a.memory.now) in
    let p = err_from_is_err_and c.from_residual.result c.from_residual.ensures.1 in
    let x = rw c.word-first.ensures at (c.in_err-xword.ensures (field code at 5)) in
    rw (p.1, p.2) (record { trap = first_x all c.in_err-xword.field-0.0 x.trap; fetched = tt })

pub returns-in_err-yword : goal.returns-in_err-yword
unfolding mac_accesses
returns-in_err-yword c =
    let a = c.args in
    let code = a.self.coded.code.now in
    let at = a.self.coded.at in
    let all = mac_accesses a.settings (mac_in code at) a.w.now (length a.memory.now) in
    let p = err_from_is_err_and c.from_residual-in_err-yword.result c.from_residual-in_err-yword.ensures.1 in
    let x = rw c.word-first.ensures at (c.in_ok-xword.ensures (field code at 5)) in
    let y = rw c.word-second.ensures at (c.in_err-yword.ensures (field code at 7)) in
    rw (p.1, p.2) (record { trap = first_y all c.in_err-yword.field-0.0 x.trap y.trap; fetched = tt })

pub returns-in_err-reach_back : goal.returns-in_err-reach_back
unfolding mac_accesses
returns-in_err-reach_back c =
    let a = c.args in
    let code = a.self.coded.code.now in
    let at = a.self.coded.at in
    let all = mac_accesses a.settings (mac_in code at) a.w.now (length a.memory.now) in
    let p = err_from_is_err_and c.from_residual-in_err-reach_back.result c.from_residual-in_err-reach_back.ensures.1 in
    let x = rw c.word-first.ensures at (c.in_ok-xword.ensures (field code at 5)) in
    let y = rw c.word-second.ensures at (c.in_ok-yword.ensures (field code at 7)) in
    let back = rw c.word.ensures at (c.in_err-reach_back.ensures a.settings a.w.now refl) in
    rw (p.1, p.2) (record { trap = first_back all c.in_err-reach_back.field-0.0 x.trap y.trap back; fetched = tt })

pub returns : goal.returns
unfolding mac_accesses
returns c =
    let a = c.args in
    let code = a.self.coded.code.now in
    let at = a.self.coded.at in
    let all = mac_accesses a.settings (mac_in code at) a.w.now (length a.memory.now) in
    let x = rw c.word-first.ensures at (c.in_ok-xword.ensures (field code at 5)) in
    let y = rw c.word-second.ensures at (c.in_ok-yword.ensures (field code at 7)) in
    let back = rw c.word.ensures at (c.in_ok-reach_back.ensures a.settings a.w.now refl) in
    let free = first_none all x.trap y.trap back in
    record {
      trap = free;
      fetched =
          record {
            free = free;
            xa = sym (rw c.word-first.ensures at c.register.ensures);
            ya = sym (rw c.word-second.ensures at c.register-2.ensures);
            ba = refl;
            x = x.word;
            y = y.word;
          };
    }
