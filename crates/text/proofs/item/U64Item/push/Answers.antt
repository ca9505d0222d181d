-- A number's text is what the library prints.
use Rattle.text.proofs.Texts.{number_is}
use Rattle.text.proofs.item.U64Item.push.Goals as goal

pub returns-clause-content : goal.returns-clause-content
returns-clause-content c = rw (c.push_text.ensures, c.as_bytes.ensures.value, c.format.ensures.text, number_is c.args.self c.ranges.self.fits)
