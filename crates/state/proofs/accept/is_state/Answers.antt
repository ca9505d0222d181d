-- `accept::is_state` meets its contract: its parts are the definition's, and the count is the program's length. Assumes nothing.
use mathlib.Core.Path.{◌≡◌, sym, ◌∙◌}
use borrow.Author.Rules.{rules}
use borrow.Author.Tests.{le-leb, lt-leb}
use lib.ListN.{length}
use mir.Syntax.{w64}
use mir.Val.{to_z, of_z}
use Rattle.program.specs.File.{program_of}
use Rattle.program.proofs.Accepted.{accepted_blocks, program_length}
use Rattle.state.specs.Accept.{is_state}
use Rattle.state.proofs.accept.is_state.Goals as goal
use Rattle.state.proofs.accept.is_state.Goals.{After-operation_count}

pub operation_count-requires : goal.operation_count-requires
operation_count-requires c = accepted_blocks c.args.file.now c.requires

-- the count is the program's length
counted : (c : After-operation_count) → c.operation_count.result ≡ length (program_of c.args.file.now)
counted c = c.operation_count.ensures ∙ sym (program_length c.args.file.now c.requires)

pub returns-then-operation_count-core : goal.returns-then-operation_count-core
unfolding is_state
returns-then-operation_count-core c = rw (← counted (goal.at.returns-then-operation_count-core c).After-operation_count, lt-leb _ _ c.if-operation_count-core.true)

pub returns : goal.returns
unfolding is_state
returns c =
    let core = c.args.state.core in
    let a : to_z w64 (of_z w64 core.a) ≡ core.a = search rules in
    let b : to_z w64 (of_z w64 core.b) ≡ core.b = search rules in
    rw (← counted (goal.at.returns c).After-operation_count, le-leb _ _ c.if-operation_count-core.false, c.is_accumulator.ensures, a, c.is_accumulator-2.ensures, b)
    (rw (c.is_good.ensures, c.are_loops.ensures, c.is_repeat_left.ensures))
