-- `MacWords::step` meets its contract: pointers change, then the words arrive. Assumes nothing.
use Rattle.std.proofs.Common.{length}
use Rattle.effects.specs.Mac.{mac_registers, mac_accesses}
use Rattle.form.proofs.Fields.{mac_fields}
use Rattle.products.proofs.Ranges.{x_step, y_step}
use Rattle.products.proofs.mac.MacWords.step.Goals as goal

pub step_prefetch-requires : goal.step_prefetch-requires
step_prefetch-requires c =
    record { r_bound = rw c.word.ensures (mac_fields c.args.self.coded.encoded c.args.self.class).x; c_bound = rw c.word-2.ensures (x_step c.args.self.coded.encoded c.args.self.class) }

pub step_prefetch-requires-2 : goal.step_prefetch-requires-2
step_prefetch-requires-2 c =
    record { r_bound = rw c.word-3.ensures (mac_fields c.args.self.coded.encoded c.args.self.class).y; c_bound = rw c.word-4.ensures (y_step c.args.self.coded.encoded c.args.self.class) }

pub returns : goal.returns
unfolding mac_registers mac_accesses
returns c =
    let a = c.args in
    let w = a.w.now in
    λ memory f.
    let n = length memory in
    let first = rw (c.word-2.ensures, c.word.ensures) at (c.step_prefetch.ensures w n (rw c.word.ensures f.xa)) in
    let second = rw (c.word-4.ensures, c.word-3.ensures) at (c.step_prefetch-2.ensures w n (rw c.word-3.ensures f.ya)) in
    let third = rw c.word-5.ensures at (c.step_back.ensures w n f.ba) in
    rw (c.arrive.ensures, f.x, f.y, third, second, first)
