-- The fields of the items so far stand on the line.
use Rattle.std.proofs.Common.{◌≡◌, ◌+◌, ◌*◌, ◌≤◌, ◌++◌, length, take}
use Rattle.text.specs.Text.{fields_of}
use Rattle.text.proofs.line.Line.push_fields.Given as goal

abbrev pub invariant-loop-item : goal.invariant-loop-item
invariant-loop-item g l =
    record {
      content : l.self ≡ l.initial.self ++ fields_of g.T.Item.text (take l.item-index l.items);
      upper_bound : length l.self ≤ length l.initial.self + (g.T.Item.most + 1) * l.item-index;
    }
