-- `decode::decode_program` meets its contract. The invariant: the words of the operations so far, and then the words that `to` had.
use mathlib.Core.Path.{◌≡◌}
use Rattle.program.specs.Bytes.{over}
use Rattle.program.specs.Layout.{operations_in}
use Rattle.program.specs.declared.layout.Layout.TheVariants.{Blocks}
use Rattle.form.specs.Form.{form_of}
use Rattle.form.proofs.decode.decode_program.Given as goal

abbrev pub invariant-loop-i : goal.invariant-loop-i
invariant-loop-i l = l.to ≡ over (form_of (operations_in Blocks l.file l.i)) l.initial.to
