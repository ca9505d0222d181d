-- The table A to L, one statement, by computation through the definition of the run. Assumes nothing.
use mathlib.Core.Path.{◌≡◌, refl}
use lib.ListN.{length}
use Rattle.state.specs.Settings.{plain_settings}
use Rattle.state.specs.State.{reset_state}
use Rattle.runs.specs.Table.{table, TableHolds}
use Rattle.runs.proofs.Opened.{engine}

-- one row each for A, C, G, J and K, two for E, F, H, I and L, three for B, four for D
rows : length table ≡ 22
unfolding table
rows = refl

pub table_holds : TableHolds
unfolding table plain_settings reset_state engine
table_holds = refl
