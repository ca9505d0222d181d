-- `step::step_begin` meets its contract: trap 4, or what control does. Assumes nothing.
use mathlib.Core.Path.{◌≡◌, refl}
use native.Mathlib.Omega.{arith}
use Prim.Native.Nat.{ℕ, ◌<◌, ◌≤◌}
use mathlib.Core.Bool.{false, ◌&&◌}
use borrow.Author.Tests.{ltb-true, eqb-true, lt-ltb, eqb-false}
use lib.Dec.{ltb, eqb}
use Rattle.integers.proofs.Whole.{both}
use Rattle.stepping.proofs.Controls.{do_blocked, begins_step}
use Rattle.stepping.proofs.step.step_begin.Goals as goal

-- a DO without trap 4 has room for its loop
room : {which kind depth : ℕ} → which ≡ kind → depth ≤ 4 → (ltb 20 which && eqb depth 4) ≡ false → 20 < kind → depth < 4
room {which} {kind} {depth} e few t l =
    let other : depth ≡ 4 → ⊥ = eqb-false depth 4 (rw (e, lt-ltb 20 kind l) at t) in
    omega arith

pub returns-then-which-f : goal.returns-then-which-f
returns-then-which-f c =
    let a = c.args in
    let r = a.registers.now in
    let kind = c.kind-which in
    let parts = both (ltb 20 kind.result) (eqb a.f.depth 4) c.if-which-f.true in
    let deep = rw kind.ensures at (ltb-true 20 kind.result parts.0) in
    λ p settings memory follows. record {
      step =
          do_blocked settings p a.coded.code.now a.coded.at a.f r.sums.values r.sums.overflow r.sums.saturation r.w r.loops.starts r.loops.passes memory follows.here
          deep c.requires.at_bound (eqb-true a.f.depth 4 parts.1);
      lasts = follows.lasts;
      mode = λ z. refl;
    }

pub begin-flow-requires : goal.begin-flow-requires
begin-flow-requires c =
    record { bound = c.requires.bound; at_bound = c.requires.at_bound; standing = c.requires.standing; depth_bound = room c.kind-which.ensures c.requires.standing.few c.if-which-f.false }

pub returns : goal.returns
returns c =
    let a = c.args in
    let r = a.registers.now in
    let begin = c.begin-flow in
    let few = room c.kind-which.ensures c.requires.standing.few c.if-which-f.false in
    λ p settings memory follows. record {
      step =
          begins_step settings p a.coded.code.now a.coded.at a.f r.sums.values r.sums.overflow r.sums.saturation r.w r.loops.starts r.loops.passes memory follows.here
          c.requires.bound c.requires.at_bound few begin.new.self.starts begin.new.self.passes begin.result (begin.ensures.result_after p r.sums.values r.sums.overflow);
      lasts = begin.ensures.lasts p follows;
      mode = λ z. begin.ensures.mode_value;
    }
