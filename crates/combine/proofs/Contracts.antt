-- What the contracts of `combine` and `run` say of their calls in a row. Assumes nothing.
use Prim.Native.Nat.{ℕ, ◌<◌}
use mathlib.Core.Bool.{false}
use mathlib.Core.List.{List}
use mathlib.Core.Path.{◌≡◌, sym, ap, ◌∙◌}
use lib.IntN.{pos}
use Rattle.std.specs.Prelude.{Result as Answer, Ok}
use Rattle.accumulator.specs.Mode.{mode_of}
use Rattle.accumulator.specs.declared.limit.Accumulator.{Accumulator}
use Rattle.program.specs.File.{program_of}
use Rattle.program.specs.declared.answer.Refusal.{Refusal}
use Rattle.state.specs.declared.state.State.{State}
use Rattle.runs.specs.Run.{Result}
use Rattle.runs.specs.Engine.{Engine}
use Rattle.engine.specs.Call.{Runs}
use Rattle.engine.specs.declared.outcome.Outcome.{Outcome}
use Rattle.combine.specs.Boards.{board_of, board_at}
use Rattle.combine.specs.Dot.{Pair, dot_of, BoardCall, pairs_on, CallFits, holds_stray}
use Rattle.combine.specs.Call.{Cut, HandsOver, Combines}
use Rattle.combine.specs.declared.board.Board.{Board}
use Rattle.combine.proofs.Stretches.{stretch_exact}
use Rattle.combine.proofs.Checked.{checked_fits}

-- the board of the state that a call for a run returned hands over what its call ended with
pub run_hands_over : (mode : ℕ) (x : BoardCall) (r : Outcome) (after : List ℕ) → Runs x.file x.settings x.state x.memory x.budget r after
    → CallFits mode x → HandsOver mode (board_of r.state) x
run_hands_over mode x r after ran fits =
    record { fits = fits; is = ap (λ (y : Result Engine). board_of y.machine.state) ran.runs }

-- what a user can check of a program and a start is enough
pub checked_hands_over : (mode : ℕ) (x : BoardCall) (r : Outcome) (after : List ℕ) → Runs x.file x.settings x.state x.memory x.budget r after
    → (mode_of mode).unsigned ≡ false → x.state.core.mode ≡ mode → x.state.core.a ≡ pos 0 → x.state.sa ≡ false
    → holds_stray mode (program_of x.file) ≡ false → HandsOver mode (board_of r.state) x
checked_hands_over mode x r after ran signed word start clear stray = run_hands_over mode x r after ran (checked_fits mode x word stray signed start clear)

-- where its SA is clear, its A is the exact sum of its products
pub run_exact : (mode : ℕ) (x : BoardCall) (r : Outcome) (after : List ℕ) → Runs x.file x.settings x.state x.memory x.budget r after
    → CallFits mode x → r.state.sa ≡ false → r.state.core.a ≡ dot_of (mode_of mode).integer (pairs_on x)
run_exact mode x r after ran fits clear =
    let is = ap (λ (y : Result Engine). y.machine.state) ran.runs in
    ap (λ (s : State). s.core.a) is ∙ stretch_exact mode x fits (ap (λ (s : State). s.sa) (sym is) ∙ clear)

-- a list of pairs that was cut, run on boards and combined to this sum with SA clear
pub record Summed (mode : ℕ) (whole : List Pair) (sum : Accumulator) : Type 0 where
  pub boards : List Board
  pub count : ℕ
  pub cut : ℕ → ℕ
  pub call : ℕ → BoardCall
  pub answer : Answer Accumulator Refusal
  pub combines : Combines boards count mode answer
  pub parts : Cut whole cut call count
  pub handed : (i : ℕ) → i < count → HandsOver mode (board_at boards i) (call i)
  pub is : answer ≡ Ok sum
  pub clear : sum.saturation ≡ false

pub summed_exact : (mode : ℕ) (whole : List Pair) (sum : Accumulator) → Summed mode whole sum → sum.value ≡ dot_of (mode_of mode).integer whole
summed_exact mode whole sum x = x.combines.exact whole x.cut x.call x.parts x.handed sum x.is x.clear

-- two cuttings of one list, on however many boards, give the same A
pub any_cut : (mode : ℕ) (whole : List Pair) (sum sum' : Accumulator) → Summed mode whole sum → Summed mode whole sum' → sum.value ≡ sum'.value
any_cut mode whole sum sum' x x' = summed_exact mode whole sum x ∙ sym (summed_exact mode whole sum' x')

-- and so does one board that runs the whole length with SA clear at its end
pub one_board : (mode : ℕ) (whole : List Pair) (sum : Accumulator) → Summed mode whole sum → (x : BoardCall) (r : Outcome) (after : List ℕ)
    → Runs x.file x.settings x.state x.memory x.budget r after → CallFits mode x → pairs_on x ≡ whole → r.state.sa ≡ false
    → r.state.core.a ≡ sum.value
one_board mode whole sum h x r after ran fits is clear =
    run_exact mode x r after ran fits clear ∙ ap (dot_of (mode_of mode).integer) is ∙ sym (summed_exact mode whole sum h)
