-- `pointer::step_prefetch` meets its contract: a pointer moves, no read and a sum leave all as it is. Assumes nothing.
use Rattle.fields.specs.Space.{sum_word}
use Rattle.fields.proofs.Pointers.{pointer_moves, pointer_stays}
use Rattle.fields.proofs.pointer.step_prefetch.Goals as goal

pub returns-then-r-sum_word : goal.returns-then-r-sum_word
returns-then-r-sum_word c =
    let a = c.args in
    λ old words e. rw (c.step_pointer.ensures, c.circular_for.ensures)
    (pointer_moves a.settings a.space a.r a.c (sum_word a.space) a.a.0 words old a.w.now e (rw c.sum_word.ensures at c.if-r-sum_word.true))

pub returns-else-r-sum_word : goal.returns-else-r-sum_word
returns-else-r-sum_word c =
    let a = c.args in
    λ old words e. pointer_stays a.settings a.space a.r a.c (sum_word a.space) a.a.0 words old a.w.now e (rw c.sum_word.ensures at c.if-r-sum_word.false)
