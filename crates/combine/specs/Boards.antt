-- The boards' sums, added through the accumulator rules into one A.
use Rattle.std.specs.Prelude.{ℕ, zero, suc, Bool, true, false, cond, ◌&&◌, ◌||◌, List, ltb, ℤ, pos, ◌+ℤ◌, get_or, Result, Ok, Err}
use Rattle.accumulator.specs.Mode.{mode_of, is_good_mode}
use Rattle.accumulator.specs.Limit.{write_of, is_accumulator}
use Rattle.accumulator.specs.declared.limit.Accumulator.{Accumulator}
use Rattle.accumulator.specs.declared.mode.Mode.{Mode}
use Rattle.accumulator.specs.declared.mode.Target.TheVariants.{A}
use Rattle.program.specs.Answer.{refusal_number, ◌then◌, if_accepted}
use Rattle.program.specs.declared.answer.Refusal.{Refusal}
use Rattle.state.specs.declared.state.State.{State}
use Rattle.combine.specs.declared.board.Board.{Board}

-- ---- the boards

-- what a board hands over: A and SA of the state that its run ended with
abbrev pub board_of : State → Board
board_of s = record { a = s.core.a; sa = s.sa }

-- the board of no run
abbrev pub no_board : Board
no_board = record { a = pos 0; sa = false }

-- board i
abbrev pub board_at : List Board → ℕ → Board
board_at boards i = get_or boards i no_board

-- each of the first n has an A of 40 bits
unfoldable pub are_accumulators : List Board → ℕ → Bool
are_accumulators boards zero = true
are_accumulators boards (suc n) = are_accumulators boards n && is_accumulator (board_at boards n).a

-- any of the first n has its SA set
unfoldable pub any_set : List Board → ℕ → Bool
any_set boards zero = false
any_set boards (suc n) = any_set boards n || (board_at boards n).sa

-- ---- their sum

-- from 0; SA also starts set if any board's was
abbrev pub sum_start : List Board → ℕ → Accumulator
sum_start boards count = record { value = pos 0; overflow = false; saturation = any_set boards count }

-- one board's A is added, through the accumulator rules for A
unfoldable pub added : Accumulator → Mode → ℤ → Accumulator
added before m a = write_of before m A (before.value +ℤ a)

-- the first n boards' A, in order
unfoldable pub added_up : Mode → List Board → Accumulator → ℕ → Accumulator
added_up m boards start zero = start
added_up m boards start (suc n) = added (added_up m boards start n) m (board_at boards n).a

-- into one A with its flags
unfoldable pub combined_of : Mode → List Board → ℕ → Accumulator
combined_of m boards count = added_up m boards (sum_start boards count) count

-- ---- the answer

-- 13 fewer than two or more than eight stretches; 14 an A beyond 40 bits; 7 a bad mode word
unfoldable pub combine_refusal : List Board → ℕ → ℕ → ℕ
combine_refusal boards count mode =
    cond (ltb count 2 || ltb 8 count) 13 0 then cond (are_accumulators boards count) 0 14 then cond (is_good_mode mode) 0 7

-- an answer with its refusal by number
abbrev pub numbered : Result Accumulator Refusal → Result Accumulator ℕ
numbered (Ok sum) = Ok sum
numbered (Err r) = Err (refusal_number r)

-- the sum, or the refusal
unfoldable pub combine_of : List Board → ℕ → ℕ → Result Accumulator ℕ
combine_of boards count mode =
    let refusal = combine_refusal boards count mode in
    if_accepted refusal (Ok (combined_of (mode_of mode) boards count)) (Err refusal)
