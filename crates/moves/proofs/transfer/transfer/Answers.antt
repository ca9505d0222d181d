-- `transfer::transfer` meets its contract: the literal, loads and stores. Assumes nothing.
use mathlib.Core.Path.{sym, ◌∙◌}
use Rattle.form.proofs.Ranges.{literal_register}
use Rattle.moves.proofs.Transfers.{else_stores, literal_leaves}
use Rattle.moves.proofs.transfer.transfer.Goals as goal

pub set_register-requires : goal.set_register-requires
set_register-requires c =
    let k = sym c.kind-which.ensures ∙ c.if-which-eq16.true in
    rw c.word.ensures (literal_register c.args.coded.encoded k)

pub returns-then-which-eq16 : goal.returns-then-which-eq16
returns-then-which-eq16 c =
    let a = c.args in
    literal_leaves c.args.coded.encoded a.settings a.mode a.acc.now a.w.now a.memory.now _
    (sym c.kind-which.ensures ∙ c.if-which-eq16.true)
    (rw (c.word.ensures, c.word-then-which-eq16.ensures) at c.set_register.ensures)

pub load_from-requires : goal.load_from-requires
load_from-requires c =
    record { at_value = rw c.kind-which.ensures at c.if-which.true; accumulators = c.requires.accumulators }

pub returns-then-which : goal.returns-then-which
returns-then-which c = c.load_from.ensures c.args.mode

pub store_to-requires : goal.store_to-requires
store_to-requires c =
    let k = c.kind-which.ensures in
    let loads = rw k at c.if-which.false in
    let stores = else_stores _ c.requires.bound c.requires.at_bound (λ z. c.if-which-eq16.false (k ∙ z)) loads in
    record { at_value = stores; accumulators = c.requires.accumulators }
