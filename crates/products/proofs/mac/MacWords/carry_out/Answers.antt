-- `MacWords::carry_out` meets its contract: registers, write-back and result are the work's. Assumes nothing.
use Rattle.std.proofs.Common.{length, sym, refl}
use Rattle.effects.specs.Mac.{mac_accesses}
use Rattle.form.specs.Words.{field, mac_in}
use Rattle.fields.proofs.Accumulators.{within}
use Rattle.products.proofs.Ranges.{accumulator_kept, product_kept}
use Rattle.products.proofs.WriteBacks.{free_back}
use Rattle.products.proofs.Works.{mac_carries}
use Rattle.products.proofs.mac.MacWords.carry_out.Goals as goal

pub write_back-requires : goal.write_back-requires
write_back-requires c =
    let a = c.args in
    let code = a.self.coded.code.now in
    let at = a.self.coded.at in
    let f = c.requires.fetches in record {
      t_bound = c.target-t.ensures.upper_bound;
      a_value = λ l. free_back a.settings (mac_in code at) (field code at 10) a.f.ba.0 (length a.memory.now) a.w.now refl f.ba
          (rw c.word.ensures at l) (sym f.free);
    }

pub mac_result-requires : goal.mac_result-requires
mac_result-requires c =
    let acc = c.args.acc.now in
    let t = c.target-t in
    let p = c.product-p in
    let v = within acc t.result t.ensures.upper_bound c.requires.accumulators in
    record { v_value = rw (accumulator_kept _ v) v; p_bound = rw (product_kept _ p.ensures.result_bound) p.ensures.result_bound }

pub returns : goal.returns
unfolding mac_accesses
returns c =
    let a = c.args in
    let acc = a.acc.now in
    let w = a.w.now in
    let memory = a.memory.now in
    let f = c.requires.fetches in
    let t = c.target-t in
    let p = c.product-p in
    let v = accumulator_kept _ (within acc t.result t.ensures.upper_bound c.requires.accumulators) in
    let written = rw (t.ensures.value, c.word.ensures) at c.write_back.ensures in
    let exact = rw (v, t.ensures.value, product_kept _ p.ensures.result_bound, c.kind.ensures) at c.mac_result.ensures in
    mac_carries a.settings a.mode acc w memory a.self.coded.encoded c.args.self.class f.free
    c.mac_result.result p.result p.ensures.value (c.step.ensures memory f)
    (written.w_after a.settings w f.ba) (written.memory_after a.settings w f.ba) exact
