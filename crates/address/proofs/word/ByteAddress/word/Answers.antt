-- `ByteAddress::word` meets its contract: below word 0 the difference is 0; a word begins at the even address. By arithmetic. Assumes nothing.
use Rattle.std.proofs.Common.{arith}
use Rattle.address.specs.Word.{word_of}
use Rattle.address.proofs.Words.{even_address}
use Rattle.address.proofs.word.ByteAddress.word.Goals as goal

pub returns-then-self : goal.returns-then-self
unfolding word_of
returns-then-self c = omega arith

pub returns : goal.returns
returns c = c.aligned_word.ensures.by_index _ (even_address _ c.if-self.false)
