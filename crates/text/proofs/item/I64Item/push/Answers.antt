-- A signed number's text is what the library prints.
use mir.Facts.{to_z-of_z}
use Rattle.text.proofs.Texts.{signed_is}
use Rattle.text.proofs.item.I64Item.push.Goals as goal

pub returns-clause-content : goal.returns-clause-content
returns-clause-content c = rw (c.push_text.ensures, c.as_bytes.ensures.value, c.format.ensures.text, to_z-of_z c.ranges.self, signed_is c.args.self c.ranges.self.sfits)
