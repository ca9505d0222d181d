-- `pointer::step_back` meets its contract: W13 moves where the write-back is to memory. Assumes nothing.
use Rattle.fields.proofs.Pointers.{back_moves, back_stays}
use Rattle.fields.proofs.pointer.step_back.Goals as goal

pub returns-then-back-gt1 : goal.returns-then-back-gt1
returns-then-back-gt1 c =
    let a = c.args in
    λ old words e. rw c.moved-to.ensures (back_moves a.settings a.back a.a.0 words old a.w.now e c.if-back-gt1.true)

pub returns-else-back-gt1 : goal.returns-else-back-gt1
returns-else-back-gt1 c =
    let a = c.args in
    λ old words e. back_stays a.settings a.back a.a.0 words old a.w.now e c.if-back-gt1.false
