-- The trap of a step by its number: at most 7, and where the step does not count not 0. Assumes nothing.
use Prim.Native.Nat.{ℕ, ◌≤◌}
use mathlib.Core.Bool.{true, false, not, ◌&&◌}
use mathlib.Core.List.{List}
use mathlib.Core.Path.{◌≡◌, sym}
use native.Mathlib.Omega.{arith}
use borrow.Author.Tests.{eqb-false}
use lib.Dec.{eqb, lit≤}
use lib.IntN.{ℤ}
use Rattle.integers.proofs.Whole.{by_test, never}
use Rattle.accumulator.specs.Mode.{mode_of, saturates}
use Rattle.accumulator.specs.Limit.{has_left, kept_of, overflows}
use Rattle.accumulator.specs.declared.mode.Mode.{Mode}
use Rattle.accumulator.specs.declared.mode.Target.{Target}
use Rattle.accumulator.specs.declared.mode.Target.TheVariants.{A, B}
use Rattle.operations.specs.Listed.{is_listed}
use Rattle.operations.specs.declared.operation.Operation.{Operation}
use Rattle.state.specs.Settings.{traps_overflow, traps_left}
use Rattle.state.specs.declared.settings.Settings.{Settings}
use Rattle.state.specs.declared.state.State.{State}
use Rattle.effects.specs.Operations.{work_of}
use Rattle.effects.specs.declared.effect.Exact.{Exact}
use Rattle.effects.specs.declared.effect.Exact.TheVariants.{Keep, Replace}
use Rattle.machine.specs.Write.{overflow_trap, trap_after, settle_of}
use Rattle.machine.specs.Step.{Step, operation_at, uncounted, completed, stepped}
use Rattle.machine.proofs.Places.{work_fitted}

overflow_most : (t : Target) → overflow_trap t ≤ 7
overflow_most A = lit≤ tt
overflow_most B = lit≤ tt

after_most : (traps : ℕ) (m : Mode) (t : Target) (r : ℤ) → trap_after traps m t r ≤ 7
unfolding trap_after
after_most traps m t r =
    by_test (λ (n : ℕ). n ≤ 7) (has_left m t r && (not (saturates m t) && traps_left traps)) (λ e. lit≤ tt)
    (λ e. by_test (λ (n : ℕ). n ≤ 7) (overflows (kept_of m t r) && traps_overflow traps t) (λ f. overflow_most t) (λ f. lit≤ tt))

settled_most : (traps : ℕ) (m : Mode) (e : Exact) (s : State) → (settle_of traps m e s).trap ≤ 7
unfolding settle_of
settled_most traps m Keep s = lit≤ tt
settled_most traps m (Replace t r) s = after_most traps m t r

-- at most 7, and not 0 where the step does not count
pub record Trapped (r : Step) : Type 0 where
  pub most : r.trap ≤ 7
  pub some : r.counted ≡ false → r.trap ≡ 0 → ⊥

pub stepped_trapped : (p : List Operation) (settings : Settings) (s : State) (memory : List ℕ) → is_listed (operation_at p s.core.pc) ≡ true
    → Trapped (stepped p settings s memory)
unfolding stepped completed
stepped_trapped p settings s memory listed =
    let m = mode_of s.core.mode in
    let o = operation_at p s.core.pc in
    let work = work_of settings m o s.core memory in
    let few = (work_fitted settings m s.core memory o listed).trap in
    by_test Trapped (eqb work.effect.trap 0) {x = completed p settings m o work s memory} {y = uncounted s memory work.effect.trap}
    (λ e. record { most = settled_most _ m work.effect.exact _; some = λ z. never (sym z) })
    (λ e. record { most = omega arith; some = λ z. eqb-false work.effect.trap 0 e })
