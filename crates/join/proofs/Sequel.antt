-- The joined program runs as its two parts one after the other. Assumes nothing.
use Prim.Native.Nat.{ℕ, zero, suc, ◌<◌}
use mathlib.Core.Bool.{true, false}
use mathlib.Core.List.{List, [], ◌∷◌}
use mathlib.Core.Path.{◌≡◌, refl, sym, ap, ◌∙◌}
use native.Mathlib.Nat.{add-zero, zero-add}
use native.Mathlib.Omega.{arith}
use borrow.Author.Tests.{eqb-true, ne_eqb}
use lib.Dec.{eqb}
use lib.ListN.{length}
use Rattle.operations.specs.declared.operation.Operation.{Operation}
use Rattle.state.specs.State.{restarted_state}
use Rattle.state.specs.declared.settings.Settings.{Settings}
use Rattle.state.specs.declared.state.State.{State}
use Rattle.machine.specs.Step.{Step, stepped}
use Rattle.machine.proofs.Stands.{restart_stands}
use Rattle.machine.proofs.Ends.{done_loops, done_repeat}
use Rattle.runs.specs.Run.{is_left, is_done, Turn, Result}
use Rattle.runs.specs.Run.Turn.{over, last, next}
use Rattle.runs.specs.Engine.{Engine, turn_of, engine_turn, engine_done, engine_from, engine_run}
use Rattle.legs.proofs.Fits.{Fit, at_operation, turn_fits}
use Rattle.legs.proofs.Runs.{Keeps, Avoids, turn_to, run_maps, then_on, run_then, later}
use Rattle.engine.proofs.Split.{engine_ends, engine_later}
use Rattle.join.specs.Join.{joined}
use Rattle.join.specs.Both.{moved_starts, moved_engine, moved_result}
use Rattle.join.proofs.Moved.{joined_length, PartOf, first_part, second_part}
use Rattle.join.proofs.Whole.{Accepted}
use Rattle.join.proofs.Steps.{moved_test, eqb_moved, moved_step, nested_tied, stepped_moved}

-- the engine at its program's first operation, no loop, no repeat
abbrev pub restarted_engine : Engine → Engine
restarted_engine x = record { state = restarted_state x.state; memory = x.memory }

-- ---- a turn at an operation of a program that stands in another

turn_moved : (n : ℕ) (r : Step) → turn_of (moved_step n r) ≡ turn_to (moved_engine n) (turn_of r)
turn_moved n r =
    moved_test (turn_to (moved_engine n)) r.counted (λ e. moved_test (turn_to (moved_engine n)) (eqb r.trap 0) (λ f. refl) (λ f. refl)) (λ e. refl)

module _ (whole part : List Operation) (n : ℕ) (is : PartOf whole part n) (settings : Settings) (words : ℕ) where
  -- its turn there is its own, moved
  part_turn : (x : Engine) → engine_done part x ≡ false → Fit part words x
      → engine_turn whole settings (moved_engine n x) ≡ turn_to (moved_engine n) (engine_turn part settings x)
  unfolding engine_turn
  part_turn x more h =
      let c = x.state.core in
      ap turn_of
      (stepped_moved whole part n settings x.state x.memory (is.operations c.pc (at_operation part words x more h))
      (nested_tied whole part n is c.pc c.loops h.stands.at h.stands.nested))
      ∙ turn_moved n (stepped part settings x.state x.memory)

-- ---- moved by 0

starts_by_none : (d : ℕ) (l : List ℕ) → moved_starts 0 d l ≡ l
starts_by_none zero l = refl
starts_by_none (suc d) [] = refl
starts_by_none (suc d) (x ∷ l) = rw (zero-add x, starts_by_none d l)

engine_by_none : (x : Engine) → moved_engine 0 x ≡ x
engine_by_none x =
    let c = x.state.core in
    rw (zero-add c.pc, starts_by_none c.loops.depth c.loops.starts)

turn_by_none : (u : Turn Engine) → turn_to (moved_engine 0) u ≡ u
turn_by_none (over e) = refl
turn_by_none (last e x) = ap (last e) (engine_by_none x)
turn_by_none (next x) = ap next (engine_by_none x)

-- ---- the two parts of a joined program

module _ (p q : List Operation) (ok : Accepted p) (ok' : Accepted q) (settings : Settings) (words : ℕ) where
  abbrev n : ℕ
  n = length p

  -- at an operation of the first
  first_same : (k : ℕ) (x : Engine) → engine_done p x ≡ false → Fit p words x
      → (engine_done (joined p q) x ≡ false) × (engine_turn (joined p q) settings x ≡ engine_turn p settings x)
      × Avoids is_done (engine_turn p settings x) × Keeps (Fit p words) (Fit p words) (engine_turn p settings x)
  first_same k x more h =
      let below : x.state.core.pc < n = at_operation p words x more h in (
        ne_eqb x.state.core.pc (length (joined p q)) (λ e. omega (arith, e, joined_length p q)),
        ap (engine_turn (joined p q) settings) (sym (engine_by_none x))
            ∙ part_turn (joined p q) p 0 (first_part p q) settings words x more h
            ∙ turn_by_none (engine_turn p settings x),
        engine_ends is_done (λ trap. refl) p settings x,
        turn_fits p ok.placed ok.listed settings words x more h,
      )

  -- at an operation of the second
  second_moved : (k : ℕ) (x : Engine) → engine_done q x ≡ false → Fit q words x
      → (engine_turn (joined p q) settings (moved_engine n x) ≡ turn_to (moved_engine n) (engine_turn q settings x))
      × Avoids is_left (engine_turn q settings x) × Keeps (Fit q words) (Fit q words) (engine_turn q settings x)
  second_moved k x more h = (
    part_turn (joined p q) q n (second_part p q) settings words x more h,
    engine_ends is_left (λ trap. refl) q settings x,
    turn_fits q ok'.placed ok'.listed settings words x more h,
  )

  second_done : (x : Engine) → engine_done (joined p q) (moved_engine n x) ≡ engine_done q x
  second_done x = rw (joined_length p q) (eqb_moved n x.state.core.pc (length q))

  -- ---- where the first is done

  module _ (x : Engine) (done : engine_done p x ≡ true) (h : Fit p words x) where
    -- but for pc the engine is one that begins the second
    left_moved : x ≡ moved_engine n (restarted_engine x)
    unfolding restarted_state
    left_moved =
        let at : x.state.core.pc ≡ n = eqb-true x.state.core.pc n done in
        rw (add-zero n, ← at, ← done_loops p ok.placed x.state.core at h.stands, ← done_repeat p ok.placed x.state.core at h.stands)

    left_fits : Fit q words (restarted_engine x)
    left_fits = record { stands = restart_stands p q x.state h.stands; ram = h.ram; long = h.long }

    -- the joined program goes on as the second, moved, with k steps made before it
    second_runs : (m k : ℕ)
        → engine_from (joined p q) settings m k x ≡ moved_result n k (engine_run q settings m (restarted_state x.state) x.memory)
    unfolding engine_run
    second_runs m k =
        engine_later (joined p q) settings m k x
        ∙ ap (λ (z : Engine). later k (engine_from (joined p q) settings m 0 z)) left_moved
        ∙ ap (later k)
        (run_maps (moved_engine n) (Fit q words) (engine_done q) (engine_done (joined p q)) (λ i. engine_turn q settings) (λ i. engine_turn (joined p q) settings)
        (λ y g. second_done y) second_moved m 0 (restarted_engine x) left_fits)

  -- ---- the whole run: where the first is done, the second's run in any words `on` that are right there

  pub joined_runs : (budget : ℕ) (s : State) (memory : List ℕ) → Fit p words (record { state = s; memory = memory })
      → (on : ℕ → ℕ → Engine → Result Engine)
      → ((m k : ℕ) (x : Engine) → Fit p words x → moved_result n k (engine_run q settings m (restarted_state x.state) x.memory) ≡ on m k x)
      → engine_run (joined p q) settings budget s memory ≡ then_on is_done on budget (engine_run p settings budget s memory)
  unfolding engine_run
  joined_runs budget s memory h on same =
      run_then (engine_done p) (engine_done (joined p q)) (λ k. engine_turn p settings) (λ k. engine_turn (joined p q) settings) (Fit p words) on
      first_same (λ m k x done g. second_runs x done g m k ∙ same m k x g) budget 0 (record { state = s; memory = memory }) h
      ∙ ap (λ (t : ℕ). then_on is_done on t (engine_run p settings budget s memory)) (add-zero budget)
