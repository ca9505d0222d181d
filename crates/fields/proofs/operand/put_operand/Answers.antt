-- `operand::put_operand` meets its contract: to the register, or to memory. Assumes nothing.
use Prim.Native.Nat.{◌<◌}
use native.Mathlib.Omega.{arith}
use lib.ListN.{length}
use Rattle.address.specs.Region.{all_words}
use Rattle.address.proofs.Regions.{free_word}
use Rattle.machine.specs.Write.{put_register, put_memory}
use Rattle.fields.proofs.Operands.{register_operand, memory_operand, word_fits}
use borrow.Author.Rules.{rules}
use Rattle.fields.proofs.operand.put_operand.Goals as goal

pub offset_bounds-memory-at : goal.offset_bounds-memory-at
offset_bounds-memory-at c =
    let a = c.args in
    let small : a.a.0 < 65536 = search rules in
    rw c.word-i.ensures (word_fits a.a.0 small)

pub bounds-memory-at : goal.bounds-memory-at
bounds-memory-at c =
    let a = c.args in
    let free = free_word (all_words (length a.memory.now)) a.a.0 (c.requires.a_value (omega (arith, c.if-form-eq0.false))) in
    rw c.word-i.ensures free.2

pub returns-then-form-eq0 : goal.returns-then-form-eq0
unfolding put_register put_memory
returns-then-form-eq0 c =
    let a = c.args in record { w_after = (λ settings purpose old e. rw (register_operand settings purpose a.r a.form (length a.memory.now) a.a.0 old c.if-form-eq0.true) c.set_register.ensures); memory_after = (λ settings purpose old e. rw (register_operand settings purpose a.r a.form (length a.memory.now) a.a.0 old c.if-form-eq0.true)) }

pub returns-else-form-eq0 : goal.returns-else-form-eq0
unfolding put_register put_memory
returns-else-form-eq0 c =
    let a = c.args in record { w_after = (λ settings purpose old e. rw (memory_operand settings purpose a.r a.form (length a.memory.now) a.a.0 old c.if-form-eq0.false e)); memory_after = (λ settings purpose old e. rw (memory_operand settings purpose a.r a.form (length a.memory.now) a.a.0 old c.if-form-eq0.false e, ← c.word-i.ensures)) }
