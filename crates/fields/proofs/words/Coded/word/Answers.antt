-- `Coded::word` meets its contract: the words stand in the slice. Assumes nothing.
use native.Mathlib.Omega.{arith}
use Rattle.form.proofs.Fields.{encoded_room}
use Rattle.fields.proofs.words.Coded.word.Goals as goal

pub overflow_add-i : goal.overflow_add-i
overflow_add-i c = omega (arith, encoded_room c.args.self.encoded)

pub offset_bounds-self-i : goal.offset_bounds-self-i
offset_bounds-self-i c = omega (arith, encoded_room c.args.self.encoded)

pub bounds-self-i : goal.bounds-self-i
bounds-self-i c = omega (arith, encoded_room c.args.self.encoded)
