-- Kinds 19 to 22 by their words: what they do to the core, and the last operation that a DO names. Assumes nothing.
use Prim.Native.Nat.{ℕ, ◌+◌, ◌≤◌, ◌<◌}
use mathlib.Core.Path.{◌≡◌, sym, ap, ◌∙◌}
use mathlib.Core.Bool.{Bool}
use mathlib.Core.List.{List}
use mathlib.Core.Logic.{◌⊎◌, ⊎_elim}
use native.Mathlib.Omega.{arith}
use native.Mathlib.Nat.{eq-or-lt_of_le}
use borrow.Author.Tests.{lt-leb, ltb-true}
use lib.IntN.{ℤ}
use lib.ListN.{get_or-map}
use Rattle.integers.proofs.Whole.{both}
use Rattle.operations.specs.Listed.{is_register, is_word, is_listed}
use Rattle.operations.specs.declared.operation.Operation.{Operation}
use Rattle.operations.specs.declared.operation.Operation.TheVariants.{Repeat, RepeatRegister, Do, DoRegister, EndEarly}
use Rattle.program.specs.Placement.{role_of, role_at, last_of}
use Rattle.state.specs.declared.state.Core.{Core}
use Rattle.machine.specs.Control.{repeated, entered, control_of, controlled}
use Rattle.machine.specs.Step.{operation_at}
use Rattle.form.specs.Words.{field, kind_in, control_in, coded_at}
use Rattle.form.specs.Form.{Encoded}
use Rattle.form.proofs.Roles.{role_in}
use Rattle.sequencer.specs.Lent.{lent_core}
use Rattle.sequencer.specs.Standing.{count_in}
use Rattle.sequencer.specs.declared.flow.Flow.{Flow}

module _ (code : List ℕ) (at : ℕ) where
  -- ---- the operation of each kind

  pub control_in_lem : 18 < kind_in code at → coded_at code at ≡ control_in code at
  unfolding coded_at
  control_in_lem l =
      let kind = kind_in code at in
      rw (lt-leb kind 7 (omega arith), lt-leb kind 11 (omega arith), lt-leb kind 15 (omega arith), lt-leb kind 18 l)

  pub repeat_in : kind_in code at ≡ 19 → coded_at code at ≡ Repeat (field code at 11)
  repeat_in e = control_in_lem (omega (arith, e)) ∙ rw e

  pub repeat_register_in : kind_in code at ≡ 20 → coded_at code at ≡ RepeatRegister (field code at 1)
  repeat_register_in e = control_in_lem (omega (arith, e)) ∙ rw e

  pub do_in : kind_in code at ≡ 21 → coded_at code at ≡ Do (field code at 11) (field code at 12)
  do_in e = control_in_lem (omega (arith, e)) ∙ rw e

  pub do_register_in : kind_in code at ≡ 22 → coded_at code at ≡ DoRegister (field code at 1) (field code at 12)
  do_register_in e = control_in_lem (omega (arith, e)) ∙ rw e

  -- ---- what they do

  repeat_controlled : (p : List Operation) (c : Core) → 18 < kind_in code at → kind_in code at < 21
      → controlled p (control_of (coded_at code at)) c ≡ repeated c (count_in code at c.w)
  unfolding controlled control_of
  repeat_controlled p c low high =
      ⊎_elim
      (λ e. rw (repeat_in (sym e), ← e))
      (λ l. let e : kind_in code at ≡ 20 = omega arith in rw (repeat_register_in e, e))
      (eq-or-lt_of_le low)

  do_controlled : (p : List Operation) (c : Core) → 20 < kind_in code at → kind_in code at ≤ 22
      → controlled p (control_of (coded_at code at)) c ≡ entered c (count_in code at c.w)
  unfolding controlled control_of
  do_controlled p c low high =
      ⊎_elim
      (λ e. rw (do_in (sym e), ← e))
      (λ l. let e : kind_in code at ≡ 22 = omega arith in rw (do_register_in e, e))
      (eq-or-lt_of_le low)

  -- ---- the same of a core that is lent

  module _ (p : List Operation) (f r : Flow) (n : ℕ) (w : List ℕ) (acc : List ℤ) (oflags : List Bool) (starts passes : List ℕ) (counted : n ≡ count_in code at w) where
    abbrev core : Core
    core = lent_core w acc oflags starts passes f

    pub begins_repeat : 18 < kind_in code at → kind_in code at < 21 → r ≡ record { pc = f.pc + 1; depth = f.depth; repeat = n + 1; mode = f.mode }
        → lent_core w acc oflags starts passes r ≡ controlled p (control_of (coded_at code at)) core
    unfolding repeated
    begins_repeat low high e = rw (repeat_controlled p core low high, ← counted, e)

    pub begins_loop : 20 < kind_in code at → kind_in code at ≤ 22 → (starts' passes' : List ℕ) → lent_core w acc oflags starts' passes' r ≡ entered core n
        → lent_core w acc oflags starts' passes' r ≡ controlled p (control_of (coded_at code at)) core
    begins_loop low high starts' passes' e = rw (do_controlled p core low high, ← counted) e

  -- ---- the last operation that a DO names

  pub do_last : (p : List Operation) (pc : ℕ) → 20 < kind_in code at → kind_in code at ≤ 22 → operation_at p pc ≡ coded_at code at
      → last_of (role_at p pc) ≡ field code at 12
  do_last p pc low high here =
      ap last_of (get_or-map role_of p pc EndEarly ∙ ap role_of here ∙ role_in code at)
      ∙ ⊎_elim (λ e. rw (← e)) (λ l. let e : kind_in code at ≡ 22 = omega arith in rw e) (eq-or-lt_of_le low)

  -- ---- the register that holds a count

  pub register_range : Encoded code at → (kind_in code at ≡ 20) ⊎ (kind_in code at ≡ 22) → field code at 1 < 14
  unfolding is_listed
  register_range encoded =
      ⊎_elim (λ e. ltb-true (field code at 1) 14 (rw (repeat_register_in e) at encoded.listed))
      (λ e.
      ltb-true (field code at 1) 14
      (both (is_register (field code at 1)) (is_word (field code at 12)) (rw (do_register_in e) at encoded.listed)).0)
