-- `run::run_windows` meets its contract. Assumes nothing.
use mathlib.Core.Path.{◌≡◌, refl, sym, ◌∙◌}
use native.Mathlib.Omega.{arith}
use Prim.Native.Nat.{◌<◌}
use mathlib.Core.Bool.{false}
use Rattle.program.specs.File.{operation_count, program_of}
use Rattle.program.proofs.Accepted.{accepted_blocks, program_length}
use Rattle.stepping.specs.Turned.{held}
use Rattle.legs.specs.Leg.{engine_in, is_elsewhere}
use Rattle.legs.specs.declared.leg.Pause.{Pause}
use Rattle.legs.specs.declared.leg.Pause.TheVariants.{Elsewhere, OutOfSteps, Trapped, Onward}
use Rattle.legs.proofs.Legs.{way_begins, way_stood, way_along, way_done, goes_ended, elsewhere_more, all_left}
use Rattle.legs.proofs.Along.{at_operation}
use Rattle.engine.proofs.Windows.{kept_whole}
use Rattle.engine.proofs.run.run_windows.Goals as goal
use Rattle.engine.proofs.run.run_windows.Goals.{Else-f-count, Joined-matches, in-Elsewhere, in_default}

pub operation_count-count-requires : goal.operation_count-count-requires
operation_count-count-requires c = accepted_blocks _ c.requires.file_value

pub loop-f-init : goal.loop-f-init
loop-f-init c =
    (way_begins _ _ _ _ _ 0 (omega arith) c.requires.stood, (c.requires.covers, (refl, λ e. (refl, refl))))

-- there is an operation at pc
below : (c : Else-f-count) → c.loop-f.f.pc < operation_count c.args.file.now
below c =
    let file = c.args.file.now in
    let count = c.operation_count-count.ensures ∙ sym (program_length file c.requires.file_value) in
    rw (program_length file c.requires.file_value) at (at_operation c.loop-f.invariant.0.along (λ e. c.if-f-count.false (e ∙ sym count)))

-- what the test says
not_elsewhere : (pause : Pause) → (pause ≡ Elsewhere → ⊥) → is_elsewhere pause ≡ false
not_elsewhere Elsewhere n = absurd (n refl)
not_elsewhere OutOfSteps n = refl
not_elsewhere (Trapped trap) n = refl
not_elsewhere Onward n = refl

tested : (c : Joined-matches) → is_elsewhere c.run_on-leg.result.pause ≡ c.match-matches.matches
tested c = elim c.match-matches.branch [
  | in-Elsewhere w ↦ rw w.in-Elsewhere.is (sym w.matches-is)
  | in_default w ↦ not_elsewhere c.run_on-leg.result.pause w.in_default.not-Elsewhere ∙ sym w.matches-is
]

pub returns-then-f-count-clause-result_after : goal.returns-then-f-count-clause-result_after
returns-then-f-count-clause-result_after c =
    let a = c.args in
    let count = c.operation_count-count.ensures ∙ sym (program_length a.file.now c.requires.file_value) in
    way_done c.loop-f.invariant.0 (c.if-f-count.true ∙ count) ∙ all_left (program_of a.file.now) a.settings a.budget (engine_in (held a.registers.now a.memory.now) a.flow)

pub cover-at-requires-clause-pc_bound : goal.cover-at-requires-clause-pc_bound
cover-at-requires-clause-pc_bound c = below (goal.at.cover-at-requires-clause-pc_bound c).Else-f-count

pub run_on-leg-requires-clause-known : goal.run_on-leg-requires-clause-known
run_on-leg-requires-clause-known c =
    record { program = program_of c.args.file.now; window = c.cover-at.ensures.covers; stood = way_stood c.loop-f.invariant.0 }

pub returns-then-not-matches-clause-result_after : goal.returns-then-not-matches-clause-result_after
returns-then-not-matches-clause-result_after c =
    let a = c.args in
    let inv = c.loop-f.invariant in
    let went = c.run_on-leg.ensures in
    let leg = went.goes (program_of a.file.now) c.cover-at.ensures.covers (way_stood inv.0) in
    let stays = tested (goal.at.returns-then-not-matches-clause-result_after c).Joined-matches ∙ c.if-not-matches.true in
    goes_ended inv.0 leg (rw went.pause_value stays) ∙ all_left (program_of a.file.now) a.settings a.budget (engine_in (held a.registers.now a.memory.now) a.flow)

pub returns-then-not-matches-clause-words_unchanged : goal.returns-then-not-matches-clause-words_unchanged
returns-then-not-matches-clause-words_unchanged c =
    let below = below (goal.at.returns-then-not-matches-clause-words_unchanged c).Else-f-count in
    λ e. (kept_whole c.loop-f.invariant.1.1.1 below c.cover-at.ensures e).1

pub loop-f-smaller : goal.loop-f-smaller
loop-f-smaller c =
    let inv = c.loop-f.invariant in
    let has = c.cover-at.ensures in
    let leg = c.run_on-leg.ensures.goes (program_of c.args.file.now) has.covers (way_stood inv.0) in
    let on = tested (goal.at.loop-f-smaller c).Joined-matches ∙ c.if-not-matches.false in
    omega (arith, leg.within, elsewhere_more inv.0 leg on (record { low = has.low; high = has.high }))

pub loop-f-preserved : goal.loop-f-preserved
loop-f-preserved c =
    let inv = c.loop-f.invariant in
    let has = c.cover-at.ensures in
    let went = c.run_on-leg.ensures in
    let leg = went.goes (program_of c.args.file.now) has.covers (way_stood inv.0) in
    let on = tested (goal.at.loop-f-preserved c).Joined-matches ∙ c.if-not-matches.false in
    let below = below (goal.at.loop-f-preserved c).Else-f-count in
    (way_along inv.0 leg (rw went.pause_value on), (has.covers, (c.cover-at.auto.words ∙ inv.1.1.0, kept_whole inv.1.1.1 below has)))
