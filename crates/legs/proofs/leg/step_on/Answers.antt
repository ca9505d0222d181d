-- `leg::step_on` meets its contract. Assumes nothing.
use mathlib.Core.Path.{◌≡◌, refl}
use native.Mathlib.Omega.{arith}
use Rattle.std.specs.Prelude.{Ok, Err}
use Rattle.address.specs.Trap.{trap_number, trap_code}
use Rattle.legs.proofs.Legs.{way_begins, goes_elsewhere, goes_onward, goes_out, goes_over, goes_last, goes_next, follows}
use Rattle.legs.proofs.leg.step_on.Goals as goal

pub loop-coded-init : goal.loop-coded-init
loop-coded-init c = λ p shows stood. way_begins p _ _ _ _ _ c.requires.steps_le_budget stood

pub returns-in_default : goal.returns-in_default
returns-in_default c =
    λ p shows stood. goes_elsewhere (c.loop-coded.invariant p shows stood) c.args.window c.in_default.ensures

pub returns-then-made-budget : goal.returns-then-made-budget
returns-then-made-budget c =
    λ p shows stood. goes_out (c.loop-coded.invariant p shows stood) shows c.in-Some.ensures.inside c.if-made-budget.true

pub returns-in-Err : goal.returns-in-Err
returns-in-Err c =
    let here = c.in-Some.ensures in
    λ p shows stood.
    let way = c.loop-coded.invariant p shows stood in
    let turns = c.in-Err.ensures p (follows way shows here.inside _ _ here) in
    goes_over way shows here.inside c.if-made-budget.false _ (Err c.in-Err.trap) turns c.in-Err.trap refl refl

pub returns-in-Some-trap : goal.returns-in-Some-trap
returns-in-Some-trap c =
    let here = c.in-Some.ensures in
    let number : trap_code c.in-Ok.turn.trap ≡ trap_number c.in-Some-trap.trap = rw c.in-Some-trap.is in
    λ p shows stood.
    let way = c.loop-coded.invariant p shows stood in
    let turns = c.in-Ok.ensures p (follows way shows here.inside _ _ here) in
    goes_last way shows here.inside c.if-made-budget.false _ (Ok c.in-Ok.turn) turns c.in-Some-trap.trap number refl

pub returns-then-turn : goal.returns-then-turn
returns-then-turn c =
    let here = c.in-Some.ensures in
    let none : trap_code c.in-Ok.turn.trap ≡ 0 = rw c.in_default-trap.is in
    λ p shows stood.
    let way = c.loop-coded.invariant p shows stood in
    let turns = c.in-Ok.ensures p (follows way shows here.inside _ _ here) in
    goes_onward (goes_next way shows here.inside c.if-made-budget.false _ (Ok c.in-Ok.turn) turns refl none) c.args.window (omega (arith, way.forward))

pub loop-coded-preserved : goal.loop-coded-preserved
loop-coded-preserved c =
    let here = c.in-Some.ensures in
    let none : trap_code c.in-Ok.turn.trap ≡ 0 = rw c.in_default-trap.is in
    λ p shows stood.
    let way = c.loop-coded.invariant p shows stood in
    let turns = c.in-Ok.ensures p (follows way shows here.inside _ _ here) in
    goes_next way shows here.inside c.if-made-budget.false _ (Ok c.in-Ok.turn) turns refl none
