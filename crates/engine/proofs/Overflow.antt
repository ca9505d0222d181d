-- Exact even after overflow, of every run: a program without barred operations, both saturations off, trap word 0; A and B of 40 bits at its end. Assumes
-- nothing.
use Prim.Native.Nat.{ℕ}
use mathlib.Core.Bool.{true, false}
use mathlib.Core.List.{List, []}
use mathlib.Core.Path.{◌≡◌, refl, sym, ap}
use lib.Dec.{eqb}
use lib.ListN.{length}
use Rattle.integers.proofs.Modulo.{same_self, same_signed}
use Rattle.accumulator.specs.Limit.{is_accumulator}
use Rattle.accumulator.proofs.Sizes.{accumulator_within}
use Rattle.operations.specs.declared.operation.Operation.{Operation}
use Rattle.state.specs.declared.settings.Settings.{Settings}
use Rattle.state.specs.declared.state.State.{State}
use Rattle.runs.specs.Engine.{Engine, engine_turn, engine_done, engine_from, engine_run}
use Rattle.runs.specs.Ledger.{Ledger, ledger_done, exact_turn, exact_from, exact_run, onward_run}
use Rattle.runs.specs.Ledger.Beyond.{goes_on}
use Rattle.runs.specs.Wraps.{holds_barred, is_saturating, Matches, Wraps}
use Rattle.legs.proofs.Runs.{RunsAlike, alike, run_alike}
use Rattle.engine.proofs.SameSteps.{Going, Nowhere, step_going}

going_matches : (x : Engine) (y : Ledger) → Going x y → Matches x y
going_matches x y h =
    record {
      a = h.a;
      b = h.b;
      w = ap (λ (z : Ledger). z.core.w) (sym h.rest);
      pc = ap (λ (z : Ledger). z.core.pc) (sym h.rest);
      loops = ap (λ (z : Ledger). z.core.loops) (sym h.rest);
      repeat = ap (λ (z : Ledger). z.core.repeat) (sym h.rest);
      mode = ap (λ (z : Ledger). z.core.mode) (sym h.rest);
      memory = ap (λ (z : Ledger). z.memory) (sym h.rest);
    }

module _ (p : List Operation) (settings : Settings) (none : holds_barred p ≡ false) (untrapped : settings.traps ≡ 0) where
  -- the ledger may carry numbers of its own on from an earlier run
  pub run_going : (n k : ℕ) (x : Engine) (y : Ledger) → Going x y → RunsAlike Going (engine_from p settings n k x) (exact_from goes_on p settings n k y)
  run_going n k x y h =
      alike Going _ _
      (run_alike Going Nowhere (engine_done p) (ledger_done p) (λ k x. engine_turn p settings x) (exact_turn goes_on p settings)
      (λ x y h. ap (λ (z : Ledger). eqb z.core.pc (length p)) (sym h.rest)) (λ k x y e. step_going p settings none untrapped k x y)
      (λ k x e z. absurd z) n k x y h)

  pub wraps : (s : State) (memory : List ℕ) (budget : ℕ) → is_saturating s.core.mode ≡ false
      → let x = engine_run p settings budget s memory in
      is_accumulator x.machine.state.core.a ≡ true → is_accumulator x.machine.state.core.b ≡ true
      → Wraps x (onward_run p settings budget s.core memory)
  unfolding engine_run exact_run
  wraps s memory budget off a b =
      let r =
      run_going budget 0 (record { state = s; memory = memory }) (record { core = s.core; memory = memory; stores = [] })
      (record { off = off; a = same_self s.core.a; b = same_self s.core.b; rest = refl }) in
      record {
        matches = going_matches _ _ r.machines;
        a = same_signed 39 _ _ (accumulator_within _ a) r.machines.a;
        b = same_signed 39 _ _ (accumulator_within _ b) r.machines.b;
        steps = r.steps;
        stop = r.stop;
      }
