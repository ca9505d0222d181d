-- `store::word` meets its contract: the low 16 bits of q, or of q after limiting. Assumes nothing.
use Rattle.std.proofs.Common.{to_z-of_z}
use Rattle.integers.proofs.Fitting.{gave}
use Rattle.accumulator.specs.Store.{stored_word}
use Rattle.accumulator.proofs.store.word.Goals as goal

pub returns-then-mode : goal.returns-then-mode
unfolding stored_word
returns-then-mode c =
    let limited = c.limited_to in
    rw (c.low_word.ensures, gave limited.ensures limited.type_inv, to_z-of_z c.ranges.q, c.if-mode.true)

pub returns-else-mode : goal.returns-else-mode
unfolding stored_word
returns-else-mode c = rw (c.low_word-else-mode.ensures, to_z-of_z c.ranges.q, c.if-mode.false)
