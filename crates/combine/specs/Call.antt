-- The call that combines the boards' sums: refused, or the sum; and when it is the exact sum over the whole length.
use Rattle.std.specs.Prelude.{ℕ, suc, ◌-◌, ◌<◌, ◌≤◌, false, List, ◌≡◌, length, take, drop, Result, Ok}
use Rattle.accumulator.specs.Mode.{mode_of}
use Rattle.accumulator.specs.declared.limit.Accumulator.{Accumulator}
use Rattle.program.specs.declared.answer.Refusal.{Refusal}
use Rattle.combine.specs.Boards.{board_of, board_at, numbered, combine_of}
use Rattle.combine.specs.Dot.{Pair, dot_of, BoardCall, ran_on, pairs_on, CallFits}
use Rattle.combine.specs.declared.board.Board.{Board}

-- the pairs `whole`, cut into n stretches at ascending points: call i multiplies those from cut i up to cut i + 1, none where both are the same
pub record Cut (whole : List Pair) (cut : ℕ → ℕ) (call : ℕ → BoardCall) (n : ℕ) : Type 0 where
  pub begins : cut 0 ≡ 0
  pub ends : cut n ≡ length whole
  pub ascends : (i : ℕ) → i < n → cut i ≤ cut (suc i)
  pub parts : (i : ℕ) → i < n → pairs_on (call i) ≡ take (cut (suc i) - cut i) (drop (cut i) whole)

-- a board hands over what its call, which fits a dot product by this mode word, ended with
pub record HandsOver (mode : ℕ) (board : Board) (x : BoardCall) : Type 0 where
  pub fits : CallFits mode x
  pub is : board ≡ board_of (ran_on x).machine.state

-- what the call's answer is promised to be
pub record Combines (boards : List Board) (count mode : ℕ) (r : Result Accumulator Refusal) : Type 0 where
  -- the refusal, or the sum
  pub answer : numbered r ≡ combine_of boards count mode
  -- the exact sum: each of the boards ran its stretch of a dot product, however it was cut; if the combined SA is clear, the combined A is the sum of all products
  pub exact :
      (whole : List Pair) (cut : ℕ → ℕ) (call : ℕ → BoardCall) → Cut whole cut call count →
      ((i : ℕ) → i < count → HandsOver mode (board_at boards i) (call i)) → (sum : Accumulator) → r ≡ Ok sum → sum.saturation ≡ false →
      sum.value ≡ dot_of (mode_of mode).integer whole
