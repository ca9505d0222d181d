-- `leg::repeat_on` meets its contract. Assumes nothing.
use mathlib.Core.Path.{◌≡◌, refl, ◌∙◌}
use Prim.Native.Nat.{◌+◌}
use native.Mathlib.Omega.{arith}
use borrow.Author.Tests.{ltb-false, eqb-false}
use lib.Dec.{ltb, eqb}
use Rattle.std.specs.Prelude.{Ok, Err}
use Rattle.integers.proofs.Whole.{neither}
use Rattle.address.specs.Trap.{trap_number, trap_code}
use Rattle.legs.specs.Leg.{Finds}
use Rattle.legs.proofs.Legs.{way_begins, goes_onward, goes_over, goes_last, goes_next, follows}
use Rattle.legs.proofs.leg.repeat_on.Goals as goal
use Rattle.legs.proofs.leg.repeat_on.Goals.{After-step_pair}

-- the operation at pc is the pair still
here : (c : After-step_pair) → Finds c.args.window c.loop-pair.f.pc c.args.coded.code.now c.args.coded.at
here c = rw c.loop-pair.invariant.3 c.requires.found

pub loop-pair-init : goal.loop-pair-init
loop-pair-init c =
    let pre = c.requires in
    ((λ p shows stood. way_begins p _ _ _ _ _ (omega (arith, pre.steps_lt_budget)) stood), pre.steps_lt_budget, pre.lt_repeat, refl)

pub returns-in-Err : goal.returns-in-Err
returns-in-Err c =
    let inv = c.loop-pair.invariant in
    let found = here (goal.at.returns-in-Err c).After-step_pair in
    λ p shows stood.
    let way = inv.0 p shows stood in
    let turns = c.in-Err.ensures.turns p c.loop-pair.registers.loops (follows way shows found.inside _ _ found) in
    goes_over way shows found.inside (λ e. omega (arith, inv.1, e)) _ (Err c.in-Err.trap) turns c.in-Err.trap refl refl

pub returns-in-Some : goal.returns-in-Some
returns-in-Some c =
    let inv = c.loop-pair.invariant in
    let found = here (goal.at.returns-in-Some c).After-step_pair in
    let number : trap_code c.in-Ok.pair.trap ≡ trap_number c.in-Some.trap = rw c.in-Some.is in
    λ p shows stood.
    let way = inv.0 p shows stood in
    let turns = c.in-Ok.ensures.turns p c.loop-pair.registers.loops (follows way shows found.inside _ _ found) in
    goes_last way shows found.inside (λ e. omega (arith, inv.1, e)) _ (Ok c.in-Ok.pair) turns c.in-Some.trap number refl

pub returns-then-f-total : goal.returns-then-f-total
returns-then-f-total c =
    let inv = c.loop-pair.invariant in
    let found = here (goal.at.returns-then-f-total c).After-step_pair in
    let none : trap_code c.in-Ok.pair.trap ≡ 0 = rw c.in_default.is in
    λ p shows stood.
    let way = inv.0 p shows stood in
    let turns = c.in-Ok.ensures.turns p c.loop-pair.registers.loops (follows way shows found.inside _ _ found) in
    goes_onward (goes_next way shows found.inside (λ e. omega (arith, inv.1, e)) _ (Ok c.in-Ok.pair) turns refl none) c.args.window (omega (arith, way.forward))

pub loop-pair-preserved : goal.loop-pair-preserved
loop-pair-preserved c =
    let inv = c.loop-pair.invariant in
    let found = here (goal.at.loop-pair-preserved c).After-step_pair in
    let none : trap_code c.in-Ok.pair.trap ≡ 0 = rw c.in_default.is in
    let rest = neither (ltb c.in-Ok.pair.flow.repeat 2) (eqb (c.loop-pair.total + 1) c.args.budget) c.if-f-total.false in (
      (λ p shows stood.
          let way = inv.0 p shows stood in
          let turns = c.in-Ok.ensures.turns p c.loop-pair.registers.loops (follows way shows found.inside _ _ found) in
          goes_next way shows found.inside (λ e. omega (arith, inv.1, e)) _ (Ok c.in-Ok.pair) turns refl none),
      omega (arith, inv.1, eqb-false (c.loop-pair.total + 1) c.args.budget rest.1),
      omega (arith, ltb-false c.in-Ok.pair.flow.repeat 2 rest.0),
      c.in-Ok.ensures.pc_value ∙ inv.3,
    )
