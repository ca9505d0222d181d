-- `file::check_blocks` meets its contract. The invariant: no block so far is refused.
use mathlib.Core.Path.{◌≡◌}
use Rattle.program.specs.Answer.{first_of}
use Rattle.program.specs.File.{refusal_at}
use Rattle.loader.proofs.file.check_blocks.Given as goal

abbrev pub invariant-loop-k : goal.invariant-loop-k
invariant-loop-k l = first_of (refusal_at l.file) l.k ≡ 0
