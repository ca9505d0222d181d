-- Exact sums of every run: of a program that holds no clearing operation, from a state with both flags clear. Assumes nothing.
use Prim.Native.Nat.{ℕ, ◌<◌}
use mathlib.Core.Bool.{true, false, false≢true}
use mathlib.Core.Path.{◌≡◌, refl, sym, ap, ◌∙◌, subst}
use mathlib.Core.Logic.{◌↔◌}
use mathlib.Core.List.{List, []}
use lib.ListN.{length}
use Rattle.operations.specs.Listed.{is_listed}
use Rattle.operations.specs.declared.operation.Operation.{Operation}
use Rattle.state.specs.declared.settings.Settings.{Settings}
use Rattle.state.specs.declared.state.Core.{Core}
use Rattle.state.specs.declared.state.State.{State}
use Rattle.machine.specs.Step.{operation_at}
use Rattle.runs.specs.Run.{Stop, is_left, Result}
use Rattle.runs.specs.Run.Stop.{ended, left}
use Rattle.runs.specs.Engine.{Engine, engine_run}
use Rattle.runs.specs.Ledger.{Ledger, exact_run, ledger_run}
use Rattle.runs.specs.Exact.{holds_clear, FlagsClear, Alike, NeverLeft, ExactSums}
use Rattle.engine.proofs.Agree.{cleared, flagged_clear, Ends, run_agrees}
use Rattle.engine.proofs.Stored.{run_rights}

-- ---- what agreement says

module _ (x : Result Engine) (y : Result Ledger) where
  flags_of : (stop : Stop) → y.stop ≡ stop → Ends x y stop → FlagsClear x.machine.state ↔ NeverLeft y
  flags_of (ended e) is a = (
    λ c l. false≢true (ap is_left (sym is ∙ l)),
    λ never. record { sa = ap (λ (z : Engine). z.state.sa) a.machines; sb = ap (λ (z : Engine). z.state.sb) a.machines },
  )
  flags_of left is a = (
    λ c. absurd (flagged_clear x.machine.state a c),
    λ never. absurd (never is),
  )

  alike_of : (stop : Stop) → y.stop ≡ stop → Ends x y stop → NeverLeft y → Alike x y
  alike_of (ended e) is a never =
      record {
        core = ap (λ (z : Engine). z.state.core) a.machines;
        memory = ap (λ (z : Engine). z.memory) a.machines;
        steps = a.steps;
        stop = a.stop;
      }
  alike_of left is a never = absurd (never is)

-- ---- the theorem

from_cleared : (p : List Operation) (settings : Settings) (c : Core) (memory : List ℕ) (budget : ℕ)
    → ((i : ℕ) → i < length p → is_listed (operation_at p i) ≡ true) → length c.w ≡ 14 → holds_clear p ≡ false
    → ExactSums p settings (cleared c) memory (engine_run p settings budget (cleared c) memory) (ledger_run p settings budget c memory)
unfolding engine_run exact_run
from_cleared p settings c memory budget ok long none =
    let agree = run_agrees p settings none budget 0 (record { core = c; memory = memory; stores = [] }) in
    record {
      flags = flags_of _ _ _ refl agree;
      alike = alike_of _ _ _ refl agree;
      words = λ e i. (run_rights p settings ok none c memory budget long e i).word;
      half = λ e i. (run_rights p settings ok none c memory budget long e i).half;
    }

-- of listed operations, none of them clearing, from a state of fourteen registers with both flags clear
pub exact_sums : (p : List Operation) (settings : Settings) (s : State) (memory : List ℕ) (budget : ℕ)
    → ((i : ℕ) → i < length p → is_listed (operation_at p i) ≡ true) → length s.core.w ≡ 14 → holds_clear p ≡ false → FlagsClear s
    → ExactSums p settings s memory (engine_run p settings budget s memory) (ledger_run p settings budget s.core memory)
exact_sums p settings s memory budget ok long none clean =
    subst (λ (s' : State). ExactSums p settings s' memory (engine_run p settings budget s' memory) (ledger_run p settings budget s.core memory)) same
    (from_cleared p settings s.core memory budget ok long none)
  where
    same : cleared s.core ≡ s
    same = λ i. record { core = s.core; sa = sym clean.sa i; sb = sym clean.sb i }
