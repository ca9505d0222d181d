-- `read::read_at` meets its contract: the word of the access is read. Assumes nothing.
use Rattle.std.proofs.Common.{ℕ, ap, get_or}
use Rattle.effects.specs.Access.{word_at}
use Rattle.fields.proofs.read.read_at.Goals as goal

pub returns : goal.returns
unfolding word_at
returns c =
    let read = c.in_ok-i.ensures in
    λ w change. record { trap = read.trap; word = ap (λ (k : ℕ). get_or c.args.memory.now k 0) read.word.0 }
