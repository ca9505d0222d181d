-- `accept::Place::are_loops` meets its contract: its parts are the definition's, the slots 0 to 3 in a row. Assumes nothing.
use mathlib.Core.Bool.{Bool, true, false, ◌&&◌}
use Rattle.std.proofs.Common.{◌≡◌, rules, tests, refl}
use Rattle.std.proofs.lemmas.Iterator.{YieldsList-from_range}
use Rattle.std.proofs.lemmas.Iterator.Search.{all_from_yields_List}
use Rattle.std.specs.List.{list_all, range_with_len}
use Rattle.state.specs.Accept.{are_loops, is_slot}
use Rattle.state.proofs.accept.Place.are_loops.Goals as goal

in_a_row : (a b c d : Bool) → a && (b && (c && (d && true))) ≡ (a && b && c && d)
in_a_row false b c d = refl
in_a_row true false c d = refl
in_a_row true true false d = refl
in_a_row true true true false = refl
in_a_row true true true true = refl

pub returns : goal.returns
unfolding are_loops
returns c =
    let l = c.args.loops in
    let all : c.all-slots.result ≡ list_all (is_slot l) (range_with_len 0 4) =
    all_from_yields_List (is_slot l) _ _ c.all-slots.result c.all-slots.ensures.ran (YieldsList-from_range 0 4 4 refl refl) (λ x b q k. search (rules, tests)) in
    rw (all, c.around.ensures, c.stand.ensures, in_a_row (is_slot l 0) (is_slot l 1) (is_slot l 2) (is_slot l 3))
