-- `Coded::target` meets its contract: a listed operation's target is 0 or 1. Assumes nothing.
use Rattle.fields.proofs.Targets.{encoded_target}
use Rattle.fields.proofs.words.Coded.target.Goals as goal

pub returns : goal.returns
returns c =
    record { value = c.word.ensures; upper_bound = rw c.word.ensures (encoded_target c.args.self.encoded c.requires) }
