-- The program `tally`: what is run, and the line that is printed for it.
use Rattle.std.specs.Prelude.{ℕ, List, ◌≡◌, replicate}
use Rattle.state.specs.Settings.{plain_settings}
use Rattle.state.specs.State.{reset_state}
use Rattle.state.specs.declared.settings.Settings.{Settings}
use Rattle.engine.specs.Call.{Runs}
use Rattle.engine.specs.declared.outcome.Outcome.{Outcome}
use Rattle.report.specs.Line.{tally_line}

-- 1,024 words X, no correction, trap word 0
abbrev pub tally_settings : Settings
tally_settings = plain_settings 1024

-- 1,024 words X and 1,024 Y of zeros
abbrev pub tally_memory : List ℕ
tally_memory = replicate 2048 0

-- budget 100,000
abbrev pub tally_budget : ℕ
tally_budget = 100000

-- a text is the line of a file's run from the reset state
pub record Tallies (file text : List ℕ) : Type 0 where
  pub outcome : Outcome
  pub memory : List ℕ
  pub runs : Runs file tally_settings reset_state tally_memory tally_budget outcome memory
  pub line : text ≡ tally_line outcome
