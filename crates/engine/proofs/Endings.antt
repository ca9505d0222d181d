-- A run ends as document 01 names it: done, spent, trap1..trap7 or refused1..refused7. Assumes nothing.
use Prim.Native.Nat.{ℕ, ◌≤◌, ◌<◌}
use mathlib.Core.Bool.{Bool, true, false, ◌&&◌}
use mathlib.Core.List.{List}
use mathlib.Core.Path.{◌≡◌, refl, subst}
use native.Mathlib.Omega.{arith}
use borrow.Author.Tests.{le-leb, eqb-false}
use lib.Dec.{eqb, leb}
use lib.ListN.{length}
use Rattle.integers.proofs.Whole.{by_test}
use Rattle.operations.specs.Listed.{is_listed}
use Rattle.operations.specs.declared.operation.Operation.{Operation}
use Rattle.state.specs.declared.settings.Settings.{Settings}
use Rattle.state.specs.declared.state.State.{State}
use Rattle.machine.specs.Step.{operation_at, stepped}
use Rattle.machine.proofs.Places.{listed_at}
use Rattle.machine.proofs.Traps.{stepped_trapped}
use Rattle.endings.specs.Ending.{is_run_ending}
use Rattle.runs.specs.Run.{Stop, Turn}
use Rattle.runs.specs.Run.Stop.{ended, left}
use Rattle.runs.specs.Run.Turn.{over, last, next}
use Rattle.runs.specs.Engine.{Engine, engine_turn, engine_done, engine_run}
use Rattle.legs.proofs.Runs.{by_run}

-- the number of a trap or a refusal
pub one_to_seven : (n : ℕ) → (n ≡ 0 → ⊥) → n ≤ 7 → leb 1 n && leb n 7 ≡ true
one_to_seven n some most = rw (le-leb 1 n (omega (arith, some)), le-leb n 7 most)

-- an ending of a run, not marked "left"
abbrev pub is_run_stop : Stop → Bool
is_run_stop (ended e) = is_run_ending e
is_run_stop left = false

-- where a turn stops the run it stops it so
abbrev Ends : Turn Engine → Type 0
Ends (over e) = is_run_stop e ≡ true
Ends (last e x) = is_run_ending e ≡ true
Ends (next x) = Unit {0}

module _ (p : List Operation) (ok : (i : ℕ) → i < length p → is_listed (operation_at p i) ≡ true) (settings : Settings) where
  turn_ends : (x : Engine) → Ends (engine_turn p settings x)
  unfolding engine_turn is_run_ending
  turn_ends x =
      let r = stepped p settings x.state x.memory in
      let trapped = stepped_trapped p settings x.state x.memory (listed_at p ok x.state.core.pc) in
      by_test Ends r.counted
      (λ e. by_test Ends (eqb r.trap 0) (λ f. tt) (λ f. one_to_seven r.trap (eqb-false r.trap 0 f) trapped.most))
      (λ e. one_to_seven r.trap (trapped.some e) trapped.most)

  pub run_ends : (budget : ℕ) (s : State) (memory : List ℕ) → is_run_stop (engine_run p settings budget s memory).stop ≡ true
  unfolding engine_run is_run_ending
  run_ends budget s memory =
      by_run (engine_done p) (λ k x. engine_turn p settings x) (λ n k x r. is_run_stop r.stop ≡ true)
      (record {
        at_done = λ n k x d. refl;
        at_spent = λ k x d. refl;
        at_over = λ n k x e d is. subst Ends is (turn_ends x);
        at_last = λ n k x x' e d is. subst Ends is (turn_ends x);
        at_next = λ n k x x' d is h. h;
      })
      budget 0 (record { state = s; memory = memory })
