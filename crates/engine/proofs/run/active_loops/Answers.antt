-- `run::active_loops` meets its contract. Assumes nothing.
use mathlib.Core.Path.{refl}
use native.Mathlib.Omega.{arith}
use lib.ListN.{length-set, replicate}
use Rattle.program.specs.File.{program_of}
use Rattle.program.proofs.Accepted.{accepted_blocks}
use Rattle.program.proofs.Places.{count_range}
use Rattle.engine.proofs.LastOnes.{lasts_none, lasts_more, slots_small}
use Rattle.engine.proofs.run.active_loops.Goals as goal

pub loop-i-init : goal.loop-i-init
loop-i-init c = (refl, lasts_none (program_of c.args.file.now) c.args.loops.starts (replicate 5 65536) refl)

pub loop-i-preserved : goal.loop-i-preserved
loop-i-preserved c =
    let inv = c.loop-i.invariant in
    (simp length-set inv.0, lasts_more (program_of c.args.file.now) c.args.loops.starts c.loop-i.lasts c.loop-i.i c.last_at.result (omega (arith, inv.0, c.requires.few, c.loop-i-test.true)) inv.1 c.last_at.ensures)

pub invariant_of-result : goal.invariant_of-result
invariant_of-result c =
    let pre = c.requires in
    record {
      known = slots_small c.args.loops.starts c.args.loops.depth _ (count_range c.args.file.now (accepted_blocks _ pre.file_value)).1 pre.begun pre.unused;
      outer = c.loop-i.invariant.1 0 (omega arith);
    }

pub returns-clause-lasts : goal.returns-clause-lasts
returns-clause-lasts c = record { each = λ i l. c.loop-i.invariant.1 i (omega (arith, c.loop-i-test.false, c.loop-i.auto.i-end)) }
