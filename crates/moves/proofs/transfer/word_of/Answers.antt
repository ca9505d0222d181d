-- `transfer::word_of` meets its contract: a register, or the target, shifted. Assumes nothing.
use mathlib.Core.Path.{◌≡◌, sym, ◌∙◌}
use native.Mathlib.Omega.{arith}
use borrow.Author.Tests.{eq-eqb, ne_eqb}
use lib.IntN.{pos}
use lib.ListN.{get_or}
use mir.Syntax.{w64}
use mir.Val.{to_z, of_z}
use Rattle.machine.specs.Write.{value_word}
use Rattle.form.specs.Words.{kind_in}
use Rattle.form.proofs.Ranges.{transfer_shift, move_register}
use Rattle.fields.proofs.Accumulators.{within}
use Rattle.moves.proofs.Transfers.{store_transfers}
use borrow.Author.Rules.{rules}
use Rattle.moves.proofs.transfer.word_of.Goals as goal

pub register-requires : goal.register-requires
register-requires c =
    let a = c.args in
    let k : kind_in a.coded.code.now a.coded.at ≡ 18 = sym c.kind-which.ensures ∙ c.if-which-eq18.true in
    rw c.word.ensures (move_register c.args.coded.encoded (omega arith) (omega arith))

pub returns-then-which-eq18 : goal.returns-then-which-eq18
unfolding value_word
returns-then-which-eq18 c =
    let kind = c.kind-which in
    rw (← kind.ensures, eq-eqb kind.result 18 c.if-which-eq18.true, ← c.word.ensures) c.register.ensures

pub target-t-requires : goal.target-t-requires
target-t-requires c =
    (store_transfers _ c.requires.at_value (λ z. c.if-which-eq18.false (c.kind-which.ensures ∙ z))).1

pub stored_word-requires : goal.stored_word-requires
stored_word-requires c =
    let acc = c.args.acc.now in
    let t = c.target-t in
    let v : to_z w64 (of_z w64 (get_or acc t.result (pos 0))) ≡ get_or acc t.result (pos 0) = search rules in
    let kinds = store_transfers _ c.requires.at_value (λ z. c.if-which-eq18.false (c.kind-which.ensures ∙ z)) in
    record { v_value = rw v (within acc t.result t.ensures.upper_bound c.requires.accumulators); b2_bound = rw c.word-2.ensures (transfer_shift c.args.coded.encoded kinds.0 kinds.1) }

pub returns : goal.returns
returns c =
    let acc = c.args.acc.now in
    let t = c.target-t in
    let v : to_z w64 (of_z w64 (get_or acc t.result (pos 0))) ≡ get_or acc t.result (pos 0) = search rules in
    let kind = c.kind-which in
    rw (← kind.ensures, ne_eqb kind.result 18 c.if-which-eq18.false, ← t.ensures.value, ← c.word-2.ensures)
    (rw v at c.stored_word.ensures)
