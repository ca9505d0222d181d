-- The ledger that goes on keeps every exact result; where none left the limits it is the ledger of document 01. Assumes nothing.
use Prim.Native.Nat.{ℕ}
use mathlib.Core.List.{List, []}
use mathlib.Core.Path.{◌≡◌, refl, sym, ap, subst}
use lib.Dec.{eqb}
use lib.IntN.{ℤ}
use Rattle.integers.proofs.Whole.{by_test, same_test}
use Rattle.accumulator.specs.Mode.{mode_of}
use Rattle.accumulator.specs.Limit.{has_left, overflows}
use Rattle.accumulator.specs.declared.mode.Mode.{Mode}
use Rattle.accumulator.specs.declared.mode.Target.{Target}
use Rattle.operations.specs.declared.operation.Operation.{Operation}
use Rattle.state.specs.State.{with_accumulator}
use Rattle.state.specs.declared.settings.Settings.{Settings}
use Rattle.state.specs.declared.state.Core.{Core}
use Rattle.effects.specs.Operations.{work_of}
use Rattle.effects.specs.declared.effect.Exact.{Exact}
use Rattle.effects.specs.declared.effect.Exact.TheVariants.{Keep, Replace}
use Rattle.machine.specs.Control.{control_of, controlled}
use Rattle.machine.specs.Step.{operation_at}
use Rattle.endings.specs.declared.ending.Ending.TheVariants.{Trap}
use Rattle.runs.specs.Run.{Stop, Turn, Result, complete}
use Rattle.runs.specs.Run.Stop.{ended, left}
use Rattle.runs.specs.Run.Turn.{last, next}
use Rattle.runs.specs.Ledger.{Entry, Ledger, exact_trap, keep_exact, exact_turn, ledger_done, exact_from, exact_run, ledger_run, onward_run}
use Rattle.runs.specs.Ledger.Beyond.{stops, goes_on}
use Rattle.runs.specs.Exact.{NeverLeft}
use Rattle.legs.proofs.Runs.{keeps_true, Into, TurnsAlike, AlikeWhere, AlikeUnless, run_alike}

-- r is kept, wherever it lies, with its O flag; the step is counted, and its store stays on the list
pub onward_keeps : (p : List Operation) (traps : ℕ) (m : Mode) (o : Operation) (t : Target) (r : ℤ) (c : Core) (memory : List ℕ) (l : List Entry)
    → keep_exact goes_on p traps m o (Replace t r) c memory l
    ≡ complete (exact_trap traps t r)
    (record { core = controlled p (control_of o) (with_accumulator c t r (overflows r)); memory = memory; stores = l })
unfolding keep_exact
onward_keeps p traps m o t r c memory l = refl

-- the turn of the ledger that goes on is that of the ledger that stops, unless that one leaves the limits
abbrev SameUnless : Turn Ledger → Turn Ledger → Type 0
SameUnless = TurnsAlike (λ (x y : Ledger). x ≡ y) (λ (x : Ledger). Unit {0})

complete_same : (trap : ℕ) (y : Ledger) → SameUnless (complete trap y) (complete trap y)
complete_same trap y =
    by_test (λ (u : Turn Ledger). SameUnless u u) (eqb trap 0) {x = next y} {y = last (Trap trap) y}
    (λ e. record { machine = y; is = refl; there = refl }) (λ e. record { machine = y; is = refl; there = refl })

complete_steps : (trap : ℕ) (y : Ledger) → Into (λ (x : Ledger). Unit {0}) (complete trap y)
complete_steps trap y = by_test (Into (λ (x : Ledger). Unit {0})) (eqb trap 0) {x = next y} {y = last (Trap trap) y} (λ e. tt) (λ e. tt)

module _ (p : List Operation) (settings : Settings) where
  keep_unless : (m : Mode) (o : Operation) (e : Exact) (c : Core) (memory : List ℕ) (l : List Entry)
      → SameUnless (keep_exact goes_on p settings.traps m o e c memory l) (keep_exact stops p settings.traps m o e c memory l)
  unfolding keep_exact
  keep_unless m o Keep c memory l = record { machine = _; is = refl; there = refl }
  keep_unless m o (Replace t r) c memory l =
      by_test (SameUnless (keep_exact goes_on p settings.traps m o (Replace t r) c memory l)) (has_left m t r)
      (λ e. complete_steps (exact_trap settings.traps t r) _) (λ e. complete_same (exact_trap settings.traps t r) _)

  turn_unless : (k : ℕ) (y : Ledger) → SameUnless (exact_turn goes_on p settings k y) (exact_turn stops p settings k y)
  unfolding exact_turn
  turn_unless k y =
      let c = y.core in
      let m = mode_of c.mode in
      let o = operation_at p c.pc in
      let work = work_of settings m o c y.memory in
      same_test SameUnless (eqb work.effect.trap 0) (λ e. keep_unless m o work.effect.exact _ _ _) (λ e. refl)

  run_unless : (n k : ℕ) (y : Ledger)
      → AlikeUnless (λ (x y : Ledger). x ≡ y) (λ (x : Ledger). Unit {0}) (exact_from goes_on p settings n k y) (exact_from stops p settings n k y)
  run_unless n k y =
      run_alike (λ (x y : Ledger). x ≡ y) (λ (x : Ledger). Unit {0}) (ledger_done p) (ledger_done p) (exact_turn goes_on p settings) (exact_turn stops p settings)
      (λ x y h. ap (ledger_done p) h)
      (λ k x y e h. subst (λ (z : Ledger). SameUnless (exact_turn goes_on p settings k z) (exact_turn stops p settings k y)) (sym h) (turn_unless k y))
      (λ k x e h. keeps_true (exact_turn goes_on p settings k x)) n k y y refl

  same_result : (x y : Result Ledger) (stop : Stop) → y.stop ≡ stop → AlikeWhere (λ (x y : Ledger). x ≡ y) (λ (x : Ledger). Unit {0}) x y stop → NeverLeft y → x ≡ y
  same_result x y (ended e) is h never = λ i. record { machine = h.machines i; steps = h.steps i; stop = h.stop i }
  same_result x y left is h never = absurd (never is)

  pub onward_ledger : (budget : ℕ) (c : Core) (memory : List ℕ) → NeverLeft (ledger_run p settings budget c memory)
      → onward_run p settings budget c memory ≡ ledger_run p settings budget c memory
  unfolding exact_run
  onward_ledger budget c memory =
      let y : Ledger = record { core = c; memory = memory; stores = [] } in
      same_result (exact_from goes_on p settings budget 0 y) (exact_from stops p settings budget 0 y) _ refl (run_unless budget 0 y)
