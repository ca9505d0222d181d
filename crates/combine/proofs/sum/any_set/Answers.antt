-- `sum::any_set` meets its contract. Assumes nothing.
use Rattle.std.proofs.Common.{◌≡◌, ◌∙◌, rules, tests}
use Rattle.std.proofs.lemmas.Iterator.{YieldsList-from_slice}
use Rattle.std.proofs.lemmas.Iterator.Search.{any_from_yields_List}
use Rattle.std.specs.List.{list_any}
use Rattle.combine.specs.declared.board.Board.{Board}
use Rattle.combine.proofs.Fronts.{any_is}
use Rattle.combine.proofs.sum.any_set.Goals as goal

pub returns : goal.returns
returns c =
    let any : c.any.result ≡ list_any (λ (b : Board). b.sa) c.args.boards.now =
    any_from_yields_List (λ (b : Board). b.sa) _ _ c.any.result c.any.ensures.ran (YieldsList-from_slice c.args.boards.now cc) (λ x b q k. search (rules, tests)) in
    any ∙ any_is c.args.boards.now
