-- `ActiveLoops::end_early` meets its contract: fewer passes, or no loop. Assumes nothing.
use native.Mathlib.Omega.{arith}
use Prim.Native.Nat.{◌<◌}
use mathlib.Core.Bool.{cond}
use mathlib.Core.Path.{◌≡◌, refl}
use lib.ListN.{get_or}
use Rattle.machine.specs.Control.{is_near_last}
use Rattle.sequencer.proofs.Flows.{lasts_kept, fewer, no_loop}
use Rattle.sequencer.proofs.loops.ActiveLoops.end_early.Goals as goal
use Rattle.sequencer.proofs.loops.ActiveLoops.end_early.Goals.{Joined-f-last, then-f-last, else-f-last}

near : (c : Joined-f-last) → c.if-f-last.most ≡ cond (is_near_last c.args.f.pc (get_or c.args.self.now.lasts c.args.f.depth 0)) 2 1
near c = elim c.if-f-last.branch [
  | then-f-last w ↦ rw w.if-f-last.true w.most-is
  | else-f-last w ↦ rw w.if-f-last.false w.most-is
]

pub returns-then-f-eq0-clause-passes : goal.returns-then-f-eq0-clause-passes
returns-then-f-eq0-clause-passes c =
    let a = c.args in
    record { core = λ p kept w acc oflags. no_loop p a.f _ _ w acc oflags c.if-f-eq0.true; kept = λ p kept. kept }

pub returns-clause-passes : goal.returns-clause-passes
returns-clause-passes c =
    let a = c.args in
    let some : 0 < a.f.depth = omega arith in
    record {
      core = λ p kept w acc oflags.
          rw c.min.ensures (fewer p a.f a.self.now kept some c.if-f-last.most (near (goal.at.returns-clause-passes c).Joined-f-last) w acc oflags);
      kept = λ p kept. lasts_kept p a.self.now _ a.f.depth refl refl kept;
    }
