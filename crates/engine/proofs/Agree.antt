-- From clear flags the engine's run is the ledger's, or the ledger leaves the limits and a flag stays set to the end. Assumes nothing.
use Prim.Native.Nat.{ℕ}
use mathlib.Core.Bool.{true, false, false≢true}
use mathlib.Core.Path.{◌≡◌, refl, sym, ap, ◌∙◌, subst}
use mathlib.Core.Logic.{◌⊎◌, inl, inr, ⊎_elim}
use mathlib.Core.List.{List}
use lib.Dec.{eqb}
use lib.IntN.{ℤ}
use Rattle.integers.proofs.Whole.{by_test, same_test}
use Rattle.accumulator.specs.Mode.{mode_of}
use Rattle.accumulator.specs.Limit.{has_left, overflows, write_of}
use Rattle.accumulator.specs.declared.mode.Mode.{Mode}
use Rattle.accumulator.specs.declared.mode.Target.{Target}
use Rattle.accumulator.specs.declared.mode.Target.TheVariants.{A, B}
use Rattle.accumulator.proofs.Writing.{kept_inside, write_inside, saturation_only, saturation_stays}
use Rattle.operations.specs.declared.operation.Operation.{Operation}
use Rattle.state.specs.State.{with_accumulator}
use Rattle.state.specs.State.{accumulator_at, with_written}
use Rattle.state.specs.declared.settings.Settings.{Settings}
use Rattle.state.specs.declared.state.Core.{Core}
use Rattle.state.specs.declared.state.State.{State}
use Rattle.effects.specs.Operations.{work_of}
use Rattle.effects.specs.declared.effect.Exact.{Exact}
use Rattle.effects.specs.declared.effect.Exact.TheVariants.{Keep, Replace}
use Rattle.machine.specs.Write.{trap_after, settle_of}
use Rattle.machine.specs.Control.{control_of, controlled, clears, state_controlled}
use Rattle.machine.specs.Step.{Step, operation_at, state_after, completed, stepped}
use Rattle.runs.specs.Run.{Stop, Turn, Result, complete}
use Rattle.runs.specs.Engine.{Engine, turn_of, engine_turn, engine_done, engine_from}
use Rattle.runs.specs.Ledger.{Entry, Ledger, exact_trap, keep_exact, exact_turn, ledger_done, exact_from}
use Rattle.runs.specs.Ledger.Beyond.{stops}
use Rattle.runs.specs.Exact.{holds_clear, FlagsClear}
use Rattle.runs.proofs.Holds.{holds_none}
use Rattle.legs.proofs.Runs.{Keeps, run_keeps, keeps_so, Into, TurnsAlike, AlikeWhere, AlikeUnless, run_alike}

-- ---- what agreement is

-- the engine's state of a core, both flags clear
abbrev pub cleared : Core → State
cleared c = record { core = c; sa = false; sb = false }

-- and the engine of a ledger
abbrev pub clear : Ledger → Engine
clear y = record { state = cleared y.core; memory = y.memory }

-- an accumulator's saturation flag is set
abbrev pub SetIn : Target → State → Type 0
SetIn t s = (accumulator_at s t).saturation ≡ true

-- one of the two
abbrev pub Flagged : State → Type 0
Flagged s = SetIn A s ⊎ SetIn B s

-- in the engine
abbrev pub FlaggedIn : Engine → Type 0
FlaggedIn x = Flagged x.state

-- what keeps each flag keeps one of the two
pub either : (s s' : State) → ((t : Target) → SetIn t s → SetIn t s') → Flagged s → Flagged s'
either s s' keep h = ⊎_elim (λ f. inl (keep A f)) (λ f. inr (keep B f)) h

-- which cannot be where both are clear
pub flagged_clear : (s : State) → Flagged s → FlagsClear s → ⊥
flagged_clear s f c = ⊎_elim (λ e. false≢true (sym c.sa ∙ e)) (λ e. false≢true (sym c.sb ∙ e)) f

-- a turn keeps a flag that is set
abbrev Stays : Target → Turn Engine → Type 0
Stays t = Keeps (λ (x : Engine). SetIn t x.state) (λ (x : Engine). SetIn t x.state)

-- the engine is the ledger with both flags clear
abbrev pub IsClear : Engine → Ledger → Type 0
IsClear x y = x ≡ clear y

-- the engine's turn v is the ledger's turn u with both flags clear; where u leaves the limits v sets a flag
abbrev pub Follows : Turn Engine → Turn Ledger → Type 0
Follows = TurnsAlike IsClear FlaggedIn

-- the same of their runs x and y, where y stops like this
abbrev pub Ends : Result Engine → Result Ledger → Stop → Type 0
Ends = AlikeWhere IsClear FlaggedIn

-- as it does
abbrev pub Agree : Result Engine → Result Ledger → Type 0
Agree = AlikeUnless IsClear FlaggedIn

-- ---- the exact result

module _ (m : Mode) where
  -- inside the limits the engine's trap is the ledger's
  trap_inside : (traps : ℕ) (t : Target) (r : ℤ) → has_left m t r ≡ false → trap_after traps m t r ≡ exact_trap traps t r
  unfolding trap_after exact_trap
  trap_inside traps t r e = rw (e, kept_inside m t r e)

  -- and what it writes is what the ledger keeps
  write_exact : (t : Target) (r : ℤ) (c : Core) → has_left m t r ≡ false
      → with_written (cleared c) t (write_of (accumulator_at (cleared c) t) m t r) ≡ cleared (with_accumulator c t r (overflows r))
  write_exact A r c e = rw (write_inside (accumulator_at (cleared c) A) m A r e)
  write_exact B r c e = rw (write_inside (accumulator_at (cleared c) B) m B r e)

  -- outside them it sets a flag
  write_flags : (t : Target) (r : ℤ) (c : Core) → has_left m t r ≡ true
      → Flagged (with_written (cleared c) t (write_of (accumulator_at (cleared c) t) m t r))
  write_flags A r c e = inl (saturation_only (accumulator_at (cleared c) A) m A r refl ∙ e)
  write_flags B r c e = inr (saturation_only (accumulator_at (cleared c) B) m B r refl ∙ e)

  -- and a flag that was set stays
  pub settle_stays : (traps : ℕ) (t : Target) (e : Exact) (s : State) → SetIn t s → SetIn t (settle_of traps m e s).state
  unfolding settle_of
  settle_stays traps t Keep s h = h
  settle_stays traps A (Replace A r) s h = saturation_stays (accumulator_at s A) m A r h
  settle_stays traps A (Replace B r) s h = h
  settle_stays traps B (Replace A r) s h = h
  settle_stays traps B (Replace B r) s h = saturation_stays (accumulator_at s B) m B r h

-- ---- one step

-- the engine's turn where the exact result e of operation o is written to state s
abbrev settling : List Operation → Operation → ℕ → Mode → Exact → State → List ℕ → Turn Engine
settling p o traps m e s memory =
    let r = settle_of traps m e s in
    complete r.trap (record { state = state_controlled p (control_of o) r.state; memory = memory })

-- in a program that holds no clearing operation none clears
clears_none : (p : List Operation) (i : ℕ) → holds_clear p ≡ false → clears (control_of (operation_at p i)) ≡ false
unfolding control_of
clears_none p i h = holds_none (λ o. clears (control_of o)) refl p i h

module _ (p : List Operation) (o : Operation) (stays : clears (control_of o) ≡ false) where
  -- control leaves a flag that is set
  controlled_stays : (t : Target) (s : State) → SetIn t s → SetIn t (state_controlled p (control_of o) s)
  unfolding state_controlled
  controlled_stays A s h = rw stays h
  controlled_stays B s h = rw stays h

  -- and flags that are clear
  controlled_clear : (c : Core) → state_controlled p (control_of o) (cleared c) ≡ cleared (controlled p (control_of o) c)
  unfolding state_controlled
  controlled_clear c = rw stays

  module _ (traps : ℕ) (m : Mode) where
    settling_follows : (e : Exact) (c : Core) (memory : List ℕ) (l : List Entry)
        → Follows (settling p o traps m e (cleared c) memory) (keep_exact stops p traps m o e c memory l)
    unfolding settle_of keep_exact
    settling_follows Keep c memory l = record { machine = _; is = refl; there = rw (controlled_clear c) }
    settling_follows (Replace t r) c memory l =
        by_test (Follows (settling p o traps m (Replace t r) (cleared c) memory)) (has_left m t r)
        (λ e.
        let s = with_written (cleared c) t (write_of (accumulator_at (cleared c) t) m t r) in
        let set = either s (state_controlled p (control_of o) s) (λ u. controlled_stays u s) (write_flags m t r c e) in
        by_test (Into FlaggedIn) (eqb (trap_after traps m t r) 0) (λ f. set) (λ f. set))
        (λ e.
        rw (trap_inside m traps t r e, write_exact m t r c e, controlled_clear (with_accumulator c t r (overflows r)))
        (same_test Follows (eqb (exact_trap traps t r) 0)
        (λ f. record { machine = _; is = refl; there = refl }) (λ f. record { machine = _; is = refl; there = refl })))

    settling_stays : (t : Target) (e : Exact) (s : State) (memory : List ℕ) → SetIn t s → Stays t (settling p o traps m e s memory)
    settling_stays t e s memory h =
        let set = controlled_stays t _ (settle_stays m traps t e s h) in
        by_test (Stays t) (eqb (settle_of traps m e s).trap 0) (λ f. set) (λ f. set)

-- ---- a run

module _ (p : List Operation) (settings : Settings) (none : holds_clear p ≡ false) where
  -- a step from clear flags
  pub turn_follows : (k : ℕ) (y : Ledger) → Follows (engine_turn p settings (clear y)) (exact_turn stops p settings k y)
  unfolding engine_turn stepped completed exact_turn
  turn_follows k y =
      let c = y.core in
      let m = mode_of c.mode in
      let o = operation_at p c.pc in
      let work = work_of settings m o c y.memory in
      same_test (λ (r : Step) (u : Turn Ledger). Follows (turn_of r) u) (eqb work.effect.trap 0)
      (λ e. settling_follows p o (clears_none p c.pc none) settings.traps m work.effect.exact _ _ _) (λ e. refl)

  -- a step from a flag that is set
  turn_stays : (t : Target) (x : Engine) → SetIn t x.state → Stays t (engine_turn p settings x)
  unfolding engine_turn stepped completed
  turn_stays t x h =
      let c = x.state.core in
      let m = mode_of c.mode in
      let o = operation_at p c.pc in
      let work = work_of settings m o c x.memory in
      by_test (λ (r : Step). Stays t (turn_of r)) (eqb work.effect.trap 0)
      (λ e. settling_stays p o (clears_none p c.pc none) settings.traps m t work.effect.exact (state_after m work x.state) _ (keep t h)) (λ e. tt)
    where
      keep : (t : Target) → SetIn t x.state → SetIn t (state_after (mode_of x.state.core.mode) (work_of settings (mode_of x.state.core.mode) (operation_at p x.state.core.pc) x.state.core x.memory) x.state)
      keep A h = h
      keep B h = h

  -- a run from a flag that is set
  pub run_stays : (t : Target) (n k : ℕ) (x : Engine) → SetIn t x.state → SetIn t (engine_from p settings n k x).machine.state
  run_stays t =
      run_keeps (engine_done p) (λ k. engine_turn p settings) (λ k x. SetIn t x.state) (λ x. SetIn t x.state) (λ k x h. h) (λ k x e h. turn_stays t x h)

  -- one of the two
  turn_flags : (x : Engine) → FlaggedIn x → Keeps FlaggedIn FlaggedIn (engine_turn p settings x)
  turn_flags x h =
      ⊎_elim (λ f. keeps_so (λ z. inl) (engine_turn p settings x) (turn_stays A x f)) (λ f. keeps_so (λ z. inr) (engine_turn p settings x) (turn_stays B x f)) h

  -- a run from clear flags
  pub run_agrees : (n k : ℕ) (y : Ledger) → Agree (engine_from p settings n k (clear y)) (exact_from stops p settings n k y)
  run_agrees n k y =
      run_alike IsClear FlaggedIn (engine_done p) (ledger_done p) (λ k. engine_turn p settings) (exact_turn stops p settings) (λ x y h. ap (engine_done p) h)
      (λ k x y e h. subst (λ (z : Engine). Follows (engine_turn p settings z) (exact_turn stops p settings k y)) (sym h) (turn_follows k y))
      (λ k x e h. turn_flags x h) n k (clear y) y refl
