-- `limit::kept` meets its contract: each answer rewrites with the tests that led there. Assumes nothing.
use Rattle.std.proofs.Common.{◌≡◌, true, sym, ◌∙◌, to_z-of_z}
use Rattle.integers.proofs.Fitting.{gave}
use Rattle.accumulator.specs.Limit.{has_left, kept_of}
use Rattle.accumulator.proofs.limit.kept.Goals as goal
use Rattle.accumulator.proofs.limit.kept.Goals.{Then-left}

-- in the first arm r is outside the limits
out : (c : Then-left) → let a = c.args in has_left a.mode a.target a.r ≡ true
out c = simp (to_z-of_z c.ranges.r) at (sym c.left.ensures ∙ c.if-left.true)

pub returns-then-saturates : goal.returns-then-saturates
unfolding kept_of
returns-then-saturates c =
    rw
    (gave c.nearer.ensures c.nearer.type_inv, c.limits.ensures, to_z-of_z c.ranges.r, out (goal.at.returns-then-saturates c).Then-left, ← c.saturates.ensures, c.if-saturates.true)

pub returns-else-saturates : goal.returns-else-saturates
unfolding kept_of
returns-else-saturates c =
    rw (gave c.low40.ensures c.low40.type_inv, to_z-of_z c.ranges.r, out (goal.at.returns-else-saturates c).Then-left, ← c.saturates.ensures, c.if-saturates.false)

pub returns-else-left : goal.returns-else-left
unfolding kept_of
returns-else-left c =
    let plain = to_z-of_z c.ranges.r in
    simp (plain, simp plain at (sym c.left.ensures ∙ c.if-left.false))
