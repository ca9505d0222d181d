-- `mac::load` meets its contract: a word arrives where there is a read. Assumes nothing.
use Rattle.products.proofs.Arrivals.{load_some, load_none}
use Rattle.products.proofs.mac.load.Goals as goal

pub returns-then-from-ne0 : goal.returns-then-from-ne0
returns-then-from-ne0 c =
    let a = c.args in
    λ k sum. rw c.set_register.ensures (load_some a.from a.to a.x k sum a.w.now c.if-from-ne0.true)

pub returns-else-from-ne0 : goal.returns-else-from-ne0
returns-else-from-ne0 c =
    let a = c.args in
    λ k sum. load_none a.from a.to a.x k sum a.w.now c.if-from-ne0.false
