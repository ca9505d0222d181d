-- `mac::write_back` meets its contract: none, to W13, to memory. Assumes nothing.
use Rattle.std.proofs.Common.{◌≡◌, ◌-◌, ◌<◌, length, get_or, pos, arith, w64, to_z, of_z, rules}
use Rattle.address.specs.Region.{all_words}
use Rattle.address.proofs.Regions.{free_word}
use Rattle.machine.specs.Write.{value_word, put_register, put_memory}
use Rattle.fields.proofs.Operands.{word_fits}
use Rattle.products.proofs.WriteBacks.{back_none, back_register, back_memory}
use Rattle.products.proofs.mac.write_back.Goals as goal

pub offset_bounds-memory-at : goal.offset_bounds-memory-at
offset_bounds-memory-at c =
    let a = c.args in
    let small : a.a.0 < 65536 = search rules in
    rw c.word-i.ensures (word_fits a.a.0 small)

pub bounds-memory-at : goal.bounds-memory-at
bounds-memory-at c =
    let a = c.args in
    let free = free_word (all_words (length a.memory.now)) a.a.0 (c.requires.a_value (omega (arith, c.if-back-eq1.false, c.if-back-ne0.true))) in
    rw c.word-i.ensures free.2

pub returns-then-back-eq1 : goal.returns-then-back-eq1
unfolding put_register put_memory value_word
returns-then-back-eq1 c =
    let a = c.args in
    let v : to_z w64 (of_z w64 (get_or a.acc.now (1 - a.t) (pos 0))) ≡ get_or a.acc.now (1 - a.t) (pos 0) = search rules in
    let place = back_register a.back (length a.memory.now) c.if-back-eq1.true in
    record { w_after = λ settings old e. rw (place settings old, c.store-stored.ensures, c.of.ensures, v); memory_after = λ settings old e. rw (place settings old) }

pub returns-else-back-eq1 : goal.returns-else-back-eq1
unfolding put_register put_memory value_word
returns-else-back-eq1 c =
    let a = c.args in
    let v : to_z w64 (of_z w64 (get_or a.acc.now (1 - a.t) (pos 0))) ≡ get_or a.acc.now (1 - a.t) (pos 0) = search rules in
    let place = back_memory a.back (length a.memory.now) a.a.0 c.if-back-ne0.true c.if-back-eq1.false in
    record { w_after = λ settings old e. rw (place settings old e); memory_after = λ settings old e. rw (place settings old e, c.word-i.ensures, c.store-stored.ensures, c.of.ensures, v) }

pub returns-else-back-ne0 : goal.returns-else-back-ne0
unfolding put_register put_memory
returns-else-back-ne0 c =
    let a = c.args in
    let place = back_none a.back (length a.memory.now) c.if-back-ne0.false in
    record { w_after = λ settings old e. rw (place settings old); memory_after = λ settings old e. rw (place settings old) }
