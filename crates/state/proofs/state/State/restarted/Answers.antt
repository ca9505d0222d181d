-- `State::restarted` meets its contract: it is the definition. Assumes nothing.
use mathlib.Core.Path.{◌≡◌}
use borrow.Author.Rules.{rules}
use mir.Val.{to_z, of_z}
use mir.Syntax.{w64}
use Rattle.state.specs.State.{restarted_state}
use Rattle.state.proofs.Parts.{restarts_so}
use Rattle.state.proofs.state.State.restarted.Goals as goal

pub returns : goal.returns
unfolding restarted_state
returns c =
    let core = c.args.self.core in
    let a : to_z w64 (of_z w64 core.a) ≡ core.a = search rules in
    let b : to_z w64 (of_z w64 core.b) ≡ core.b = search rules in
    restarts_so c.args.self _ (rw (a, b))
