-- What the call that combines the boards' sums leaves, refused or not. Assumes nothing.
use Prim.Native.Nat.{ℕ}
use mathlib.Core.List.{List}
use mathlib.Core.Path.{◌≡◌, sym, ap, ◌∙◌}
use Rattle.std.specs.Prelude.{Result, Ok, Err}
use Rattle.accumulator.specs.Mode.{mode_of}
use Rattle.accumulator.specs.declared.limit.Accumulator.{Accumulator}
use Rattle.program.specs.Answer.{refusal_number}
use Rattle.program.specs.declared.answer.Refusal.{Refusal}
use Rattle.machine.proofs.Calls.{if_refused, refused_some}
use Rattle.combine.specs.Boards.{combined_of, combine_refusal, combine_of}
use Rattle.combine.specs.Call.{Combines}
use Rattle.combine.specs.declared.board.Board.{Board}
use Rattle.combine.proofs.Exact.{cut_exact}

-- the sum of an answer
abbrev sum_in : Accumulator → Result Accumulator Refusal → Accumulator
sum_in x (Ok y) = y
sum_in x (Err r) = x

module _ (boards : List Board) (count mode : ℕ) where
  pub combine_refused : (r : Refusal) → refusal_number r ≡ combine_refusal boards count mode → Combines boards count mode (Err r)
  unfolding combine_of
  combine_refused r e =
      record {
        answer = rw (sym e) (if_refused (refusal_number r) (Ok (combined_of (mode_of mode) boards count)) (Err (refusal_number r)) (refused_some r));
        exact = λ whole cut call is runs sum e' clear. absurd (cc);
      }

  pub combine_accepted : combine_refusal boards count mode ≡ 0 → Combines boards count mode (Ok (combined_of (mode_of mode) boards count))
  unfolding combine_of
  combine_accepted z =
      record {
        answer = rw z;
        exact = λ whole cut call is runs sum e clear.
            let same : combined_of (mode_of mode) boards count ≡ sum = ap (sum_in sum) e in
            ap (λ (x : Accumulator). x.value) (sym same)
            ∙ cut_exact whole cut call count is mode boards runs (ap (λ (x : Accumulator). x.saturation) same ∙ clear);
      }
