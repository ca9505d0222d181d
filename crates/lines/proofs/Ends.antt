-- A line without its end, and with it again. Assumes nothing.
use Prim.Native.Nat.{ℕ, ◌-◌}
use mathlib.Core.Path.{◌≡◌}
use mathlib.Core.List.{List, ◌++◌}
use native.Mathlib.Omega.{arith}
use lib.ListN.{length, length-append}
use lib.Seq.{take_at}
use Rattle.engine.specs.declared.outcome.Outcome.{Outcome}
use Rattle.report.specs.Line.{line_end, long_run_line, unended}

-- the text before the end
pub unended_end : (text : List ℕ) → unended (text ++ line_end) ≡ text
unended_end text =
    let size : length text ≡ length (text ++ line_end) - 1 = rw (length-append text line_end) (omega arith) in
    take_at text line_end (length (text ++ line_end) - 1) size

-- the line of a run in the long form has an end
pub ended_long : (r : Outcome) (memory : List ℕ) → unended (long_run_line r memory) ++ line_end ≡ long_run_line r memory
unfolding long_run_line
ended_long r memory = rw (unended_end _)
