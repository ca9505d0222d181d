-- A word's text has its four digits in order.
use Rattle.text.specs.Text.{word_text}
use Rattle.text.proofs.item.U16Item.push.Goals as goal

pub returns-clause-content : goal.returns-clause-content
unfolding word_text
returns-clause-content c = cc
