-- `sum::are_accumulators` meets its contract. Assumes nothing.
use Rattle.std.proofs.Common.{◌≡◌, ◌∙◌, rules, tests}
use Rattle.std.proofs.lemmas.Iterator.{YieldsList-from_slice}
use Rattle.std.proofs.lemmas.Iterator.Search.{all_from_yields_List}
use Rattle.std.specs.List.{list_all}
use Rattle.accumulator.specs.Limit.{is_accumulator}
use Rattle.combine.specs.declared.board.Board.{Board}
use Rattle.combine.proofs.Fronts.{all_are}
use Rattle.combine.proofs.sum.are_accumulators.Goals as goal

pub returns : goal.returns
returns c =
    let all : c.all.result ≡ list_all (λ (b : Board). is_accumulator b.a) c.args.boards.now =
    all_from_yields_List (λ (b : Board). is_accumulator b.a) _ _ c.all.result c.all.ensures.ran (YieldsList-from_slice c.args.boards.now cc) (λ x b q k. search (rules, tests)) in
    all ∙ all_are c.args.boards.now
