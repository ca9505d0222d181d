-- `ActiveLoops::advance` meets its contract: another repeat, another operation, or the fall of the innermost loop. Assumes nothing.
use native.Mathlib.Omega.{arith}
use Prim.Native.Nat.{◌<◌}
use mathlib.Core.Path.{sym, ◌∙◌}
use Rattle.sequencer.proofs.Flows.{some_loop, repeats, onward, falls}
use Rattle.sequencer.proofs.loops.ActiveLoops.advance.Goals as goal

pub returns-then-left-gt1-clause-moves : goal.returns-then-left-gt1-clause-moves
returns-then-left-gt1-clause-moves c =
    λ p kept. repeats p c.args.f c.args.self.now kept c.at.result c.if-left-gt1.true c.at.ensures

pub returns-then-pc-self-clause-moves : goal.returns-then-pc-self-clause-moves
returns-then-pc-self-clause-moves c =
    λ p kept. onward p c.args.f c.args.self.now kept c.at-then-pc-self.result c.if-left-gt1.false c.if-pc-self.true c.at-then-pc-self.ensures

pub fall-requires : goal.fall-requires
fall-requires c =
    let a = c.args in
    let small : a.f.pc < 65536 = omega (arith, c.requires.at) in
    record { standing = c.requires; depth_nonzero = some_loop a.self.now a.f.pc a.f.depth c.if-pc-self.false small }

pub returns-clause-moves : goal.returns-clause-moves
returns-clause-moves c =
    let a = c.args in
    let last_one = c.if-pc-self.false in
    let small : a.f.pc < 65536 = omega (arith, c.requires.at) in
    let some = some_loop a.self.now a.f.pc a.f.depth last_one small in
    λ p kept.
    let fell = c.fall.ensures.moves p kept in
    record {
      core = λ w acc oflags. fell.core w acc oflags ∙ sym (falls p a.f a.self.now kept some c.if-left-gt1.false last_one w acc oflags);
      lasts = fell.lasts;
    }
