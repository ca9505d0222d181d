-- Calls for a run, one for each bag: none is refused, each is a run, and the sums are exact. Assumes nothing.
use Prim.Native.Nat.{ℕ}
use mathlib.Core.List.{List, [], ◌∷◌}
use mathlib.Core.Path.{◌≡◌, refl}
use lib.ListN.{length}
use Rattle.operations.specs.declared.operation.Operation.{Operation}
use Rattle.integers.proofs.Whole.{by_test}
use Rattle.program.specs.File.{file_refusal, program_of}
use Rattle.program.proofs.Accepted.{program_placed}
use Rattle.state.specs.Settings.{settings_refusal}
use Rattle.state.specs.State.{reset_state}
use Rattle.state.specs.Accept.{state_refusal}
use Rattle.state.proofs.Parts.{reset_typed, reset_accepted, restart_accepted}
use Rattle.state.specs.declared.settings.Settings.{Settings}
use Rattle.state.specs.declared.state.State.{State}
use Rattle.machine.specs.Single.{call_refusal}
use Rattle.machine.proofs.Calls.{call_file, call_settings, call_state}
use Rattle.runs.specs.Engine.{Engine, engine_run}
use Rattle.engine.specs.Call.{run_of}
use Rattle.state.specs.Typed.{AreWords, Typed}
use Rattle.service.specs.Service.{Bag, engine_of, engine_before, first_before, Served, engine_served, engine_service, engine_after, call_service}
use Rattle.service.specs.Exact.{Sound, Every, Serves}
use Rattle.machine.proofs.Stands.{stands_accepted}
use Rattle.legs.proofs.Fits.{Fit, file_listed}
use Rattle.service.proofs.Fits.{by_bags, accepted_begins, FitServed, service_fits}
use Rattle.service.proofs.Services.{service_stays, exact_service}

module _ (file : List ℕ) (settings : Settings) where
  module _ (accepted : file_refusal file ≡ 0) (words : ℕ) (set : settings_refusal settings words ≡ 0) where
    abbrev p : List Operation
    p = program_of file

    -- an engine that fits is accepted
    fit_accepted : (x : Engine) → Fit p words x → call_refusal file settings x.state (length x.memory) ≡ 0
    unfolding call_refusal
    fit_accepted x fit = rw (accepted, fit.long, set, stands_accepted p x.state fit.stands)

    -- and its call is a run
    fit_runs : (x : Engine) (n : ℕ) → Fit p words x → run_of file settings x.state x.memory n ≡ engine_run p settings n x.state x.memory
    unfolding run_of
    fit_runs x n fit = rw (fit_accepted x fit)

    -- every bag's run begins and ends with such an engine
    abbrev Fits : List Served → Type 0
    Fits = Every (FitServed p words)

    service_runs : (bags : List Bag) (x : Engine) → Fits (engine_service p settings x bags) → call_service file settings x bags ≡ engine_service p settings x bags
    unfolding call_service
    service_runs =
        by_bags p settings (λ x bags us. Fits us → call_service file settings x bags ≡ us)
        (record { at_none = λ x fits. refl; at_bag = λ b bags x on (fit, fits). rw (fit_runs (engine_before b x) b.budget fit.before, on fits) })

    -- a bag's call is accepted
    abbrev Accepted : Served → Type 0
    Accepted u = call_refusal file settings u.before.state (length u.before.memory) ≡ 0

    service_accepted : (bags : List Bag) (x : Engine) → Fits (engine_service p settings x bags) → Every Accepted (engine_service p settings x bags)
    service_accepted =
        by_bags p settings (λ x bags us. Fits us → Every Accepted us)
        (record { at_none = λ x fits. tt; at_bag = λ b bags x on (fit, fits). (fit_accepted (engine_before b x) fit.before, on fits) })

    -- and so is one with what the last bag left
    after_fits : (bags : List Bag) (x : Engine) → Fits (engine_service p settings x bags) → Fit p words x → Fit p words (engine_after x (engine_service p settings x bags))
    after_fits =
        by_bags p settings (λ x bags us. Fits us → Fit p words x → Fit p words (engine_after x us))
        (record { at_none = λ x fits h. h; at_bag = λ b bags x on (fit, fits) h. on fits fit.after })

    service_again : (bags : List Bag) (x : Engine) → Fits (engine_service p settings x bags)
        → call_refusal file settings (first_before bags x).state (length x.memory) ≡ 0
        → let x' = engine_after x (engine_service p settings x bags) in call_refusal file settings x'.state (length x'.memory) ≡ 0
    unfolding engine_service
    service_again [] x fits none = none
    service_again (b ∷ bags) x (fit, fits) none =
        fit_accepted _ (after_fits bags (engine_served p settings b x).result.machine fits fit.after)

  -- the theorem by calls
  pub serves : (x : Engine) (bags : List Bag) → call_refusal file settings (first_before bags x).state (length x.memory) ≡ 0 → Typed x.state.core
      → AreWords x.memory → Every (Sound (length x.memory)) bags → Serves file settings x bags
  serves x bags none typed ram sound =
      let words = length x.memory in
      let first = (first_before bags x).state in
      let accepted = call_file file settings first words none in
      let set = call_settings file settings first words none in
      let placed = program_placed file accepted in
      let listed = file_listed file accepted in
      let begins = accepted_begins (program_of file) bags x typed ram sound (call_state file settings first words none) in
      let fits = service_fits (program_of file) placed listed settings words bags x sound begins in
      let is = service_runs accepted words set bags x fits in
      record {
        accepted = rw is (service_accepted accepted words set bags x fits);
        again = rw is (service_again accepted words set bags x fits none);
        runs = is;
        stays = λ clears t. rw is (service_stays (program_of file) settings clears t bags x);
        exact = λ clears clean. rw is (exact_service (program_of file) placed listed clears settings x clean bags sound begins);
      }

  -- since the board was switched on: from reset nothing is asked of the state
  pub since_reset : (memory : List ℕ) → file_refusal file ≡ 0 → settings_refusal settings (length memory) ≡ 0 → AreWords memory
      → (bags : List Bag) → Every (Sound (length memory)) bags → Serves file settings (engine_of reset_state memory) bags
  unfolding call_refusal
  since_reset memory accepted set ram bags sound = serves x bags (rw (accepted, set, first bags)) reset_typed ram sound
    where
      x : Engine
      x = engine_of reset_state memory

      first : (bags : List Bag) → state_refusal (program_of file) (first_before bags x).state ≡ 0
      first [] = reset_accepted (program_of file)
      first (b ∷ bags) =
          by_test (λ (s : State). state_refusal (program_of file) s ≡ 0) b.restarts
          (λ e. restart_accepted (program_of file) (program_of file) reset_state (reset_accepted (program_of file))) (λ e. reset_accepted (program_of file))
