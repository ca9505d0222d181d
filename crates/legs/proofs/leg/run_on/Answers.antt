-- `leg::run_on` meets its contract. Assumes nothing.
use mathlib.Core.Path.{◌≡◌, sym, ◌∙◌}
use native.Mathlib.Omega.{arith}
use Rattle.legs.specs.Leg.{is_onward}
use Rattle.legs.proofs.Legs.{not_onward, way_begins, way_stood, goes_along, way_along}
use Rattle.legs.proofs.leg.run_on.Goals as goal
use Rattle.legs.proofs.leg.run_on.Goals.{Joined-matches, in-Onward, in_default}

pub loop-leg-init : goal.loop-leg-init
loop-leg-init c = λ p shows stood. way_begins p _ _ _ _ _ c.requires.steps_le_budget stood

pub leg_on-leg-requires : goal.leg_on-leg-requires
leg_on-leg-requires c =
    let known = c.requires.known in
    let way = c.loop-leg.invariant known.program known.window known.stood in
    record { known = record { program = known.program; window = known.window; stood = way_stood way }; steps_le_budget = way.along.within }

pub returns-then-not-matches-clause-goes : goal.returns-then-not-matches-clause-goes
returns-then-not-matches-clause-goes c =
    λ p shows stood.
    let way = c.loop-leg.invariant p shows stood in
    goes_along way (c.leg_on-leg.ensures p shows (way_stood way))

-- what the test says
tested : (c : Joined-matches) → is_onward c.leg_on-leg.result.pause ≡ c.match-matches.matches
tested c = elim c.match-matches.branch [
  | in-Onward w ↦ rw w.in-Onward.is (sym w.matches-is)
  | in_default w ↦ not_onward c.leg_on-leg.result.pause w.in_default.not-Onward ∙ sym w.matches-is
]

pub loop-leg-smaller : goal.loop-leg-smaller
loop-leg-smaller c =
    let known = c.requires.known in
    let way = c.loop-leg.invariant known.program known.window known.stood in
    let leg = c.leg_on-leg.ensures known.program known.window (way_stood way) in
    omega (arith, leg.within, leg.more (tested (goal.at.loop-leg-smaller c).Joined-matches ∙ c.if-not-matches.false))

pub loop-leg-preserved : goal.loop-leg-preserved
loop-leg-preserved c =
    let on = tested (goal.at.loop-leg-preserved c).Joined-matches ∙ c.if-not-matches.false in
    λ p shows stood.
    let way = c.loop-leg.invariant p shows stood in
    way_along way (c.leg_on-leg.ensures p shows (way_stood way)) (rw on)
