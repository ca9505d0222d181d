-- `mac::is_pair` meets its contract: the code is the definition. Assumes nothing.
use Rattle.products.proofs.mac.is_pair.Goals as goal

pub returns : goal.returns
returns c =
    rw (c.kind-k.ensures, c.word-x.ensures, c.word-y.ensures, c.word-back.ensures)
