-- `Operations::check` meets its contract. The invariant: no operation so far is refused 4, and `placed` says whether all of them may stand
-- where they do.
use mathlib.Core.Path.{◌≡◌}
use Rattle.program.specs.Accept.{fields_refusal}
use Rattle.program.specs.Answer.{first_of}
use Rattle.program.specs.Layout.{operations_in}
use Rattle.program.specs.Placement.{all_of, is_placed_at}
use Rattle.loader.proofs.layout.Operations.check.Given as goal

abbrev pub invariant-loop-i : goal.invariant-loop-i
invariant-loop-i l = record {
  listed : first_of (fields_refusal l.self.layout l.self.bytes.now) l.i ≡ 0;
  told : l.placed ≡ all_of (is_placed_at (operations_in l.self.layout l.self.bytes.now l.self.count)) l.i;
}
