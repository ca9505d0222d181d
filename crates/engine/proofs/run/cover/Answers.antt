-- `run::cover` meets its contract: the span given has operation pc, or its words alone are decoded. Assumes nothing.
use Prim.Native.Nat.{◌+◌}
use mathlib.Core.Path.{refl, sym}
use native.Mathlib.Omega.{arith}
use lib.Dec.{leb, ltb}
use borrow.Author.Tests.{leb-true, ltb-true, le-leb, lt-ltb}
use Rattle.integers.proofs.Whole.{both, never}
use Rattle.operations.specs.declared.operation.Operation.TheVariants.{EndEarly}
use Rattle.engine.proofs.Windows.{one_window}
use Rattle.engine.proofs.run.cover.Goals as goal

pub returns-then-at-pc : goal.returns-then-at-pc
returns-then-at-pc c =
    let at = c.args.at in
    let parts = both (leb at.first c.args.pc) (ltb c.args.pc (at.first + at.count)) c.if-at-pc.true in
    record { covers = c.requires.covers; low = leb-true _ _ parts.0; high = ltb-true _ _ parts.1; stays = λ low high. (refl, refl) }

pub returns : goal.returns
returns c =
    let at = c.args.at in
    let pc = c.args.pc in
    record {
      covers = one_window c.args.file.now _ _ pc c.requires.file_value c.requires.pc_bound (c.decode_operation.ensures EndEarly);
      low = omega arith;
      high = omega arith;
      stays = λ low high. never (sym (rw (le-leb at.first pc low, lt-ltb pc (at.first + at.count) high) at c.if-at-pc.false));
    }
