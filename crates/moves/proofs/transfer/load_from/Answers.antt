-- `transfer::load_from` meets its contract: a trap without effect, or the register loaded or the exact result. Assumes nothing.
use Prim.Native.Nat.{◌^◌, ◌<◌}
use mathlib.Core.Path.{◌≡◌, sym, ◌∙◌}
use native.Mathlib.Omega.{arith}
use borrow.Author.Tests.{ne_eqb}
use Rattle.std.proofs.lemmas.Result.{err_from_is_err_and}
use Rattle.address.specs.Trap.{trap_number}
use Rattle.address.proofs.Traps.{trap_some}
use lib.IntN.{pos}
use lib.ListN.{get_or}
use mir.Syntax.{w64}
use mir.Val.{to_z, of_z}
use mir.Facts.{to_z-of_z}
use Rattle.integers.proofs.Fitting.{gave}
use Rattle.effects.specs.Operations.{loaded_value}
use Rattle.effects.proofs.Sums.{loaded_within, load_fits}
use Rattle.form.specs.Words.{kind_in}
use Rattle.form.proofs.Ranges.{transfer_shift, move_register}
use Rattle.fields.proofs.Accumulators.{within}
use Rattle.moves.proofs.Transfers.{by_three, load_transfers, load_fields, load_blocks, lac_leaves, add_leaves, load_leaves}
use borrow.Author.Rules.{rules}
use Rattle.moves.proofs.transfer.load_from.Goals as goal
use Rattle.moves.proofs.transfer.load_from.Goals.{After-load, After-loaded_value-value, After-word-2}

pub load-requires : goal.load-requires
load-requires c =
    let fields = load_fields c.args.coded.encoded c.requires.at_value in
    record { at_bound = fields.pointer; at_bound_2 = fields.form }

pub returns-in_err-x : goal.returns-in_err-x
returns-in_err-x c =
    let a = c.args in
    let trap = c.in_err-x.field-0.0 in
    let load = c.in_err-x.ensures in
    let p = err_from_is_err_and c.from_residual.result c.from_residual.ensures.1 in
    let stays = rw (ne_eqb (trap_number trap) 0 (trap_some trap)) at load.moves in
    rw (p.1, p.2, stays)
    (λ mode. load_blocks a.coded.encoded a.settings mode a.acc.now a.w.now a.memory.now trap c.requires.at_value load.reads.trap)

pub set_register-requires : goal.set_register-requires
set_register-requires c =
    let a = c.args in
    let k : kind_in a.coded.code.now a.coded.at ≡ 17 = sym c.kind-which.ensures ∙ c.if-which-eq17.true in
    rw c.word.ensures (move_register a.coded.encoded (omega arith) (omega arith))

pub returns-then-which-eq17 : goal.returns-then-which-eq17
returns-then-which-eq17 c =
    let a = c.args in
    let load = c.in_ok-x.ensures in
    let registers = rw (load.moves, c.word.ensures, load.reads.word) at c.set_register.ensures in
    λ mode. load_leaves a.coded.encoded a.settings mode a.acc.now a.w.now a.memory.now _ load.reads.trap
    (sym c.kind-which.ensures ∙ c.if-which-eq17.true) registers

shift_small : (c : After-word-2) → c.word-2.result < 16
shift_small c =
    let kinds = load_transfers _ c.requires.at_value (λ z. c.if-which-eq17.false (c.kind-which.ensures ∙ z)) in
    rw c.word-2.ensures (transfer_shift c.args.coded.encoded kinds.0 kinds.1)

value : (c : After-loaded_value-value) → to_z w64 (of_z w64 c.loaded_value-value.result) ≡ loaded_value c.in_ok-x.x c.word-2.result
value c = gave c.loaded_value-value.ensures c.loaded_value-value.type_inv

pub returns-then-which-eq12 : goal.returns-then-which-eq12
returns-then-which-eq12 c =
    let a = c.args in
    let load = c.in_ok-x.ensures in
    rw (value (goal.at.returns-then-which-eq12 c).After-loaded_value-value, c.word-2.ensures, load.reads.word)
    (λ mode. lac_leaves a.coded.encoded a.settings mode a.acc.now a.w.now a.memory.now _ load.reads.trap
    (sym c.kind-which.ensures ∙ c.if-which-eq12.true) load.moves)

pub target-t-requires : goal.target-t-requires
target-t-requires c = (load_transfers _ c.requires.at_value (λ z. c.if-which-eq17.false (c.kind-which.ensures ∙ z))).1

pub overflow_add-result : goal.overflow_add-result
overflow_add-result c =
    let acc = c.args.acc.now in
    let t = c.target-t in
    let v : to_z w64 (of_z w64 (get_or acc t.result (pos 0))) ≡ get_or acc t.result (pos 0) = search rules in
    let word : c.in_ok-x.x < 2 ^ 16 = search rules in
    let within-target = within acc t.result t.ensures.upper_bound c.requires.accumulators in
    rw (v, value (goal.at.overflow_add-result c).After-loaded_value-value) (load_fits _ _ within-target (loaded_within _ _ word (shift_small (goal.at.overflow_add-result c).After-word-2)))

pub returns : goal.returns
returns c =
    let a = c.args in
    let acc = a.acc.now in
    let t = c.target-t in
    let v : to_z w64 (of_z w64 (get_or acc t.result (pos 0))) ≡ get_or acc t.result (pos 0) = search rules in
    let load = c.in_ok-x.ensures in
    let k = c.kind-which.ensures in
    rw (to_z-of_z (overflow_add-result c), v, value (goal.at.returns c).After-loaded_value-value, t.ensures.value, c.word-2.ensures, load.reads.word)
    (λ mode. add_leaves a.coded.encoded a.settings mode acc a.w.now a.memory.now _ load.reads.trap
    (by_three _ 12 13 17 c.requires.at_value (λ z. absurd (c.if-which-eq12.false (k ∙ z))) (λ z. z)
    (λ z. absurd (c.if-which-eq17.false (k ∙ z)))) load.moves)

pub loaded_value-value-requires : goal.loaded_value-value-requires
loaded_value-value-requires c = shift_small (goal.at.loaded_value-value-requires c).After-word-2
