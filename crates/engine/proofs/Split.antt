-- A run with budget n + m is the run with n and, if that is spent, the run with m from what it left, steps added. Assumes nothing.
use Prim.Native.Nat.{ℕ, ◌+◌}
use mathlib.Core.Bool.{Bool, false}
use mathlib.Core.List.{List}
use mathlib.Core.Path.{◌≡◌, refl, sym, ap, ◌∙◌}
use native.Mathlib.Nat.{add-zero}
use lib.Dec.{eqb}
use Rattle.integers.proofs.Whole.{by_test}
use Rattle.accumulator.specs.Mode.{mode_of}
use Rattle.accumulator.specs.declared.mode.Mode.{Mode}
use Rattle.operations.specs.declared.operation.Operation.{Operation}
use Rattle.state.specs.declared.settings.Settings.{Settings}
use Rattle.state.specs.declared.state.Core.{Core}
use Rattle.state.specs.declared.state.State.{State}
use Rattle.effects.specs.Operations.{work_of}
use Rattle.effects.specs.declared.effect.Exact.{Exact}
use Rattle.effects.specs.declared.effect.Exact.TheVariants.{Keep, Replace}
use Rattle.machine.specs.Step.{operation_at, stepped}
use Rattle.endings.specs.declared.ending.Ending.TheVariants.{Trap}
use Rattle.runs.specs.Run.{Stop, Result, complete}
use Rattle.runs.specs.Run.Stop.{ended}
use Rattle.runs.specs.Run.Turn.{last, next}
use Rattle.runs.specs.Engine.{Engine, engine_turn, engine_done, engine_from, engine_run}
use Rattle.runs.specs.Ledger.{Entry, Ledger, Beyond, stops_at, exact_trap, keep_exact, exact_turn, ledger_done, exact_from, exact_run}
use Rattle.legs.proofs.Runs.{Avoids, is_spent, going_on, run_split, later, run_later}

-- ---- the engine and the ledger

-- a way to stop that is no trap
module _ (way : Stop → Bool) (traps : (n : ℕ) → way (ended (Trap n)) ≡ false) where
  -- a complete step ends a run, if it does, with a trap
  complete_ends : {S : Type 0} (trap : ℕ) (s : S) → Avoids way (complete trap s)
  complete_ends trap s = by_test (Avoids way) (eqb trap 0) {x = next s} {y = last (Trap trap) s} (λ e. tt) (λ e. traps trap)

  -- and so does a step of the engine
  pub engine_ends : (p : List Operation) (settings : Settings) (x : Engine) → Avoids way (engine_turn p settings x)
  unfolding engine_turn
  engine_ends p settings x =
      let r = stepped p settings x.state x.memory in
      by_test (Avoids way) r.counted (λ e. complete_ends r.trap _) (λ e. traps r.trap)

module _ (p : List Operation) (settings : Settings) where
  kept_ends : (beyond : Beyond) (m : Mode) (o : Operation) (e : Exact) (c : Core) (memory : List ℕ) (l : List Entry)
      → Avoids is_spent (keep_exact beyond p settings.traps m o e c memory l)
  unfolding keep_exact
  kept_ends beyond m o Keep c memory l = tt
  kept_ends beyond m o (Replace t r) c memory l =
      by_test (Avoids is_spent) (stops_at beyond m t r) (λ e. refl) (λ e. complete_ends is_spent (λ n. refl) (exact_trap settings.traps t r) _)

  ledger_ends : (beyond : Beyond) (k : ℕ) (y : Ledger) → Avoids is_spent (exact_turn beyond p settings k y)
  unfolding exact_turn
  ledger_ends beyond k y =
      let c = y.core in
      let m = mode_of c.mode in
      let o = operation_at p c.pc in
      let work = work_of settings m o c y.memory in
      by_test (Avoids is_spent) (eqb work.effect.trap 0) (λ e. kept_ends beyond m o work.effect.exact _ _ _) (λ e. refl)

  -- the engine's run with k steps made before it
  pub engine_later : (m k : ℕ) (x : Engine) → engine_from p settings m k x ≡ later k (engine_from p settings m 0 x)
  engine_later m k x =
      ap (λ (j : ℕ). engine_from p settings m j x) (sym (add-zero k)) ∙ run_later (engine_done p) (engine_turn p settings) k m 0 x

  -- the engine's run in two parts
  pub engine_split : (n m : ℕ) (s : State) (memory : List ℕ)
      → engine_run p settings (n + m) s memory
      ≡ going_on (λ k x. later k (engine_run p settings m x.state x.memory)) (engine_run p settings n s memory)
  unfolding engine_run
  engine_split n m s memory =
      run_split (engine_done p) (λ k. engine_turn p settings) (λ k. engine_ends is_spent (λ n. refl) p settings) n m 0 (record { state = s; memory = memory })
      ∙ ap (λ (on : ℕ → Engine → Result Engine). going_on on (engine_from p settings n 0 (record { state = s; memory = memory })))
      (λ i k x. engine_later m k x i)

  -- the ledger's, whether it stops or goes on, its list of stores and its count of steps carried on
  pub ledger_split : (beyond : Beyond) (n m : ℕ) (c : Core) (memory : List ℕ)
      → exact_run beyond p settings (n + m) c memory ≡ going_on (exact_from beyond p settings m) (exact_run beyond p settings n c memory)
  unfolding exact_run
  ledger_split beyond n m c memory = run_split (ledger_done p) (exact_turn beyond p settings) (ledger_ends beyond) n m 0 _
