-- `transfer::store_to` meets its contract: a trap without effect, or the pointer's change and then the store. Assumes nothing.
use Rattle.std.proofs.Common.{length, sym}
use Rattle.std.proofs.lemmas.Result.{err_from_is_err_and}
use Rattle.effects.specs.declared.pointer.Purpose.TheVariants.{Store as Storing}
use Rattle.fields.proofs.Operands.{operand_free}
use Rattle.moves.proofs.Transfers.{store_fields, store_blocks, store_leaves}
use Rattle.moves.proofs.transfer.store_to.Goals as goal

pub register-requires : goal.register-requires
register-requires c = rw c.word-r.ensures (store_fields c.args.coded.encoded c.requires.at_value).pointer

pub returns-in_err-reach_operand : goal.returns-in_err-reach_operand
returns-in_err-reach_operand c =
    let a = c.args in
    let p = err_from_is_err_and c.from_residual.result c.from_residual.ensures.1 in
    let trap = rw (c.word-r.ensures, c.word-form.ensures) at (c.in_err-reach_operand.ensures a.settings Storing c.word-r.result a.w.now (sym c.register.ensures)) in
    rw (p.1, p.2)
    (store_blocks a.coded.encoded a.settings a.mode a.acc.now a.w.now a.memory.now c.in_err-reach_operand.field-0.0 c.requires.at_value trap)

pub step_operand-requires : goal.step_operand-requires
step_operand-requires c =
    let fields = store_fields c.args.coded.encoded c.requires.at_value in
    record { r_bound = rw c.word-r.ensures fields.pointer; form_bound = rw c.word-form.ensures fields.form }

pub put_operand-requires : goal.put_operand-requires
put_operand-requires c =
    let r = c.word-r in
    let a = c.args in
    let held = sym c.register.ensures in
    let free = sym (c.in_ok-reach_operand.ensures a.settings Storing r.result a.w.now held) in
    record {
      r_bound = rw r.ensures (store_fields a.coded.encoded c.requires.at_value).pointer;
      a_value = operand_free a.settings Storing r.result c.word-form.result (length a.memory.now) c.register.result a.w.now held free;
    }

pub returns : goal.returns
returns c =
    let a = c.args in
    let w = a.w.now in
    let memory = a.memory.now in
    let put = c.put_operand in
    let r = c.word-r.ensures in
    let form = c.word-form.ensures in
    let x = c.word_of-x.ensures in
    let held = sym c.register.ensures in
    let free = rw (r, form) at (c.in_ok-reach_operand.ensures a.settings Storing c.word-r.result w held) in
    let moved = rw (r, form) at (c.step_operand.ensures w (length memory) held) in
    let registers = rw (r, form, moved, x) at (put.ensures.w_after a.settings Storing w held) in
    let words = rw (r, form, x) at (put.ensures.memory_after a.settings Storing w held) in
    store_leaves a.coded.encoded a.settings a.mode a.acc.now w memory _ _ c.requires.at_value free registers words
