-- `settle::trap_after` meets its contract. Assumes nothing.
use mathlib.Core.Bool.{not, ◌&&◌}
use mathlib.Core.Path.{◌≡◌}
use mir.Facts.{to_z-of_z}
use mir.Syntax.{w64}
use mir.Val.{to_z, of_z}
use borrow.Author.Rules.{rules}
use Rattle.accumulator.specs.Limit.{has_left, kept_of, overflows}
use Rattle.accumulator.specs.Mode.{saturates}
use Rattle.state.specs.Settings.{traps_left}
use Rattle.machine.specs.Write.{trap_after}
use Rattle.sequencer.proofs.settle.trap_after.Goals as goal
use Rattle.sequencer.proofs.settle.trap_after.Goals.{After-traps_left, After-overflow}

-- the tests, by the definitions
outside : (c : After-traps_left) → let a = c.args in
    (c.left.result && (not c.saturates.result && c.traps_left.result)) ≡ (has_left a.mode a.target a.r && (not (saturates a.mode a.target) && traps_left a.traps))
outside c = rw (rw (to_z-of_z c.ranges.r) at c.left.ensures, c.saturates.ensures, c.traps_left.ensures)

over : (c : After-overflow) → let a = c.args in c.overflow.result ≡ overflows (kept_of a.mode a.target a.r)
over c =
    let v : to_z w64 (of_z w64 c.kept.result) ≡ c.kept.result = search rules in
    rw (v, rw (to_z-of_z c.ranges.r) at c.kept.ensures) at c.overflow.ensures

pub returns-then-left-saturates : goal.returns-then-left-saturates
unfolding trap_after
returns-then-left-saturates c =
    rw (← outside (goal.at.returns-then-left-saturates c).After-traps_left, c.if-left-saturates.true)

pub returns-then-overflow : goal.returns-then-overflow
unfolding trap_after
returns-then-overflow c =
    rw (
      ← outside (goal.at.returns-then-overflow c).After-traps_left,
      c.if-left-saturates.false,
      ← over (goal.at.returns-then-overflow c).After-overflow,
      c.if-overflow.true,
    ) c.overflow_trap.ensures

pub returns : goal.returns
unfolding trap_after
returns c =
    rw (
      ← outside (goal.at.returns c).After-traps_left,
      c.if-left-saturates.false,
      ← over (goal.at.returns c).After-overflow,
      c.if-overflow.false,
    )
