-- One item more: its field comes after those so far.
use Rattle.std.proofs.Common.{arith}
use mathlib.Core.List.{append_assoc}
use Rattle.text.proofs.Texts.{fields_more}
use Rattle.text.proofs.line.Line.push_fields.Goals as goal

pub loop-item-preserved : goal.loop-item-preserved
loop-item-preserved g c =
    let more = fields_more g.T.Item.text c.args.items.now c.loop-item.item-index c.item-item.result c.loop-item-test.true c.item-item.is in
    record {
      content = rw (more, c.push_field.ensures.content, c.loop-item.invariant.content, append_assoc);
      upper_bound = omega (arith, c.push_field.ensures.upper_bound, c.loop-item.invariant.upper_bound);
    }
