-- `Coded::kind` meets its contract: the words stand in the slice. Assumes nothing.
use native.Mathlib.Omega.{arith}
use Rattle.form.proofs.Fields.{encoded_room}
use Rattle.fields.proofs.words.Coded.kind.Goals as goal

pub offset_bounds-self-self : goal.offset_bounds-self-self
offset_bounds-self-self c = omega (arith, encoded_room c.args.self.encoded)

pub bounds-self-self : goal.bounds-self-self
bounds-self-self c = omega (arith, encoded_room c.args.self.encoded)
