-- One list of pairs cut in several ways and run on boards, each value worked out by hand from document 02. Assumes nothing.
use Prim.Native.Nat.{ℕ, zero, suc, ◌-◌, ◌^◌, ◌<◌, ◌≤◌}
use mathlib.Core.Bool.{true, false}
use mathlib.Core.List.{List, [], ◌∷◌}
use mathlib.Core.Path.{◌≡◌, refl}
use native.Mathlib.Omega.{arith}
use lib.IntN.{pos}
use lib.ListN.{take, drop, replicate, get_or-replicate}
use Rattle.integers.specs.Range.{minus}
use Rattle.accumulator.specs.declared.limit.Accumulator.{Accumulator}
use Rattle.combine.specs.Boards.{no_board, board_at}
use Rattle.combine.specs.Dot.{Pair, BoardCall, pairs_on}
use Rattle.combine.specs.Call.{Cut, HandsOver}
use Rattle.combine.specs.declared.board.Board.{Board}
use Rattle.combine.proofs.SumExamples.{combined, board, sum}
use Rattle.combine.proofs.Calls.{combine_accepted}
use Rattle.combine.proofs.Contracts.{Summed}
use Rattle.combine.proofs.StretchExamples.{pair, opened, first, second, none, around, trapped, idle}
use Rattle.combine.proofs.StretchExamples.{first_fits, half_fits, second_fits, none_fits, around_fits, trapped_fits, idle_fits}

-- an A with its flags clear
abbrev accumulator : ℕ → Accumulator
accumulator a = record { value = pos a; overflow = false; saturation = false }

-- ---- three pairs, -6 - 6 + 21

abbrev whole : List Pair
whole = pair 3 65534 ∷ pair 3 65534 ∷ pair 7 3 ∷ []

-- on two boards, cut after the second pair; the first board's call is spent there
abbrev two : ℕ → BoardCall
two zero = first 5
two (suc i) = second

abbrev two_cut : ℕ → ℕ
two_cut zero = 0
two_cut (suc zero) = 2
two_cut (suc (suc i)) = 3

two_parts : Cut whole two_cut two 2
unfolding opened
two_parts = record { begins = refl; ends = refl; ascends = up; parts = part }
  where
    up : (i : ℕ) → i < 2 → two_cut i ≤ two_cut (suc i)
    up zero l = omega arith
    up (suc zero) l = omega arith
    up (suc (suc i)) l = omega arith

    part : (i : ℕ) → i < 2 → pairs_on (two i) ≡ take (two_cut (suc i) - two_cut i) (drop (two_cut i) whole)
    part zero l = refl
    part (suc zero) l = refl
    part (suc (suc i)) l = absurd (omega arith)

abbrev two_boards : List Board
two_boards = board (minus 12) false ∷ board (pos 21) false ∷ []

two_handed : (i : ℕ) → i < 2 → HandsOver 0x81 (board_at two_boards i) (two i)
unfolding opened
two_handed zero l = record { fits = half_fits; is = refl }
two_handed (suc zero) l = record { fits = second_fits; is = refl }
two_handed (suc (suc i)) l = absurd (omega arith)

by_two : Summed 0x81 whole (accumulator 9)
unfolding combined
by_two =
    record {
      boards = two_boards;
      count = 2;
      cut = two_cut;
      call = two;
      answer = sum (pos 9) false false;
      combines = combine_accepted two_boards 2 0x81 refl;
      parts = two_parts;
      handed = two_handed;
      is = refl;
      clear = refl;
    }

-- on three, the first and the last with none of it, as their calls are refused
abbrev three : ℕ → BoardCall
three zero = none
three (suc zero) = first 99
three (suc (suc i)) = none

abbrev three_cut : ℕ → ℕ
three_cut zero = 0
three_cut (suc zero) = 0
three_cut (suc (suc i)) = 3

three_parts : Cut whole three_cut three 3
unfolding opened
three_parts = record { begins = refl; ends = refl; ascends = up; parts = part }
  where
    up : (i : ℕ) → i < 3 → three_cut i ≤ three_cut (suc i)
    up zero l = omega arith
    up (suc zero) l = omega arith
    up (suc (suc i)) l = omega arith

    part : (i : ℕ) → i < 3 → pairs_on (three i) ≡ take (three_cut (suc i) - three_cut i) (drop (three_cut i) whole)
    part zero l = refl
    part (suc zero) l = refl
    part (suc (suc zero)) l = refl
    part (suc (suc (suc i))) l = absurd (omega arith)

abbrev three_boards : List Board
three_boards = board (pos 0) false ∷ board (pos 9) false ∷ board (pos 0) false ∷ []

three_handed : (i : ℕ) → i < 3 → HandsOver 0x81 (board_at three_boards i) (three i)
unfolding opened
three_handed zero l = record { fits = none_fits; is = refl }
three_handed (suc zero) l = record { fits = first_fits; is = refl }
three_handed (suc (suc zero)) l = record { fits = none_fits; is = refl }
three_handed (suc (suc (suc i))) l = absurd (omega arith)

by_three : Summed 0x81 whole (accumulator 9)
unfolding combined
by_three =
    record {
      boards = three_boards;
      count = 3;
      cut = three_cut;
      call = three;
      answer = sum (pos 9) false false;
      combines = combine_accepted three_boards 3 0x81 refl;
      parts = three_parts;
      handed = three_handed;
      is = refl;
      clear = refl;
    }

-- ---- no pair at all, on two boards: both parts are empty

no_parts : Cut [] (λ i. 0) (λ i. none) 2
unfolding opened
no_parts = record { begins = refl; ends = refl; ascends = λ i l. omega arith; parts = λ i l. refl }

-- ---- fractional, on eight boards: -12 + 20,800 + 2^31, with OA

abbrev other : List Pair
other = pair 3 65534 ∷ pair 100 104 ∷ pair 32768 32768 ∷ []

-- from the third on they make no step
abbrev eight : ℕ → BoardCall
eight zero = around
eight (suc zero) = trapped
eight (suc (suc i)) = idle

abbrev eight_cut : ℕ → ℕ
eight_cut zero = 0
eight_cut (suc zero) = 2
eight_cut (suc (suc i)) = 3

eight_parts : Cut other eight_cut eight 8
unfolding opened
eight_parts = record { begins = refl; ends = refl; ascends = up; parts = part }
  where
    up : (i : ℕ) → i < 8 → eight_cut i ≤ eight_cut (suc i)
    up zero l = omega arith
    up (suc zero) l = omega arith
    up (suc (suc i)) l = omega arith

    part : (i : ℕ) → i < 8 → pairs_on (eight i) ≡ take (eight_cut (suc i) - eight_cut i) (drop (eight_cut i) other)
    part zero l = refl
    part (suc zero) l = refl
    part (suc (suc i)) l = refl

abbrev eight_boards : List Board
eight_boards = board (pos 20788) false ∷ board (pos (2 ^ 31)) false ∷ replicate 6 no_board

eight_handed : (i : ℕ) → i < 8 → HandsOver 0x72 (board_at eight_boards i) (eight i)
unfolding opened
eight_handed zero l = record { fits = around_fits; is = refl }
eight_handed (suc zero) l = record { fits = trapped_fits; is = refl }
eight_handed (suc (suc i)) l = record { fits = idle_fits; is = get_or-replicate 6 i no_board no_board (omega arith) }

by_eight : Summed 0x72 other (record { value = pos 2147504436; overflow = true; saturation = false })
unfolding combined
by_eight =
    record {
      boards = eight_boards;
      count = 8;
      cut = eight_cut;
      call = eight;
      answer = sum (pos 2147504436) true false;
      combines = combine_accepted eight_boards 8 0x72 refl;
      parts = eight_parts;
      handed = eight_handed;
      is = refl;
      clear = refl;
    }
