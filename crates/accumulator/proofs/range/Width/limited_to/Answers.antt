-- `Width::limited_to` meets its contract: the test is that of the definition. Assumes nothing.
use Rattle.std.proofs.Common.{◌≡◌, sym, ◌∙◌, to_z-of_z}
use Rattle.integers.specs.Range.{outside, limited_to}
use Rattle.integers.proofs.Fitting.{gave}
use Rattle.accumulator.proofs.range.Width.limited_to.Goals as goal
use Rattle.accumulator.proofs.range.Width.limited_to.Goals.{After-outside}

-- what `outside` answers, of the number itself
test : (c : After-outside) → outside c.args.self.k c.args.z ≡ c.outside.result
test c = sym (simp (to_z-of_z c.ranges.z) at c.outside.ensures)

pub returns-then-outside : goal.returns-then-outside
unfolding limited_to
returns-then-outside c =
    rw (gave c.nearer.ensures c.nearer.type_inv, to_z-of_z c.ranges.z, test (goal.at.returns-then-outside c).After-outside ∙ c.if-outside.true)

pub returns-else-outside : goal.returns-else-outside
unfolding limited_to
returns-else-outside c = rw (to_z-of_z c.ranges.z, test (goal.at.returns-else-outside c).After-outside ∙ c.if-outside.false)
