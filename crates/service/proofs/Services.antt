-- Exact sums of every service: of an accepted program that holds no clearing operation, from a state with both flags clear. Before them: a bag in two, and a
-- flag that is set stays set. Each law of every bag is by `by_bags`. Assumes nothing.
use Prim.Native.Nat.{ℕ, ◌+◌, ◌<◌}
use mathlib.Core.Bool.{Bool, true, false, cond, false≢true}
use mathlib.Core.List.{List, [], ◌∷◌}
use mathlib.Core.Path.{◌≡◌, refl, sym, ap, ◌∙◌}
use lib.ListN.{length}
use Rattle.integers.proofs.Whole.{by_test}
use Rattle.accumulator.specs.declared.mode.Target.{Target}
use Rattle.accumulator.specs.declared.mode.Target.TheVariants.{A, B}
use Rattle.operations.specs.Listed.{is_listed}
use Rattle.operations.specs.declared.operation.Operation.{Operation}
use Rattle.program.specs.Placement.{is_placed}
use Rattle.state.specs.State.{go_to, no_loops, restarted_state}
use Rattle.state.specs.declared.settings.Settings.{Settings}
use Rattle.machine.specs.Step.{operation_at}
use Rattle.runs.specs.Run.{Stop, is_left, Result}
use Rattle.runs.specs.Run.Stop.{ended, left}
use Rattle.runs.specs.Engine.{Engine, engine_run}
use Rattle.runs.specs.Ledger.{Ledger, ledger_run}
use Rattle.runs.specs.Exact.{holds_clear, FlagsClear, NeverLeft, ExactSums}
use Rattle.engine.proofs.Agree.{SetIn, run_stays}
use Rattle.engine.proofs.Sums.{exact_sums}
use Rattle.legs.proofs.Runs.{is_spent, later}
use Rattle.engine.proofs.Split.{engine_split}
use Rattle.service.specs.Service.{Bag, onward, engine_before, Served, engine_served, engine_service, engine_after, ledger_served, ledger_service}
use Rattle.service.specs.Exact.{Sound, Every, ExactService, Staying}
use Rattle.service.proofs.Fits.{by_bags, Begins, FitServed, service_fits}

-- ---- a bag in two

-- a bag of budget n that is spent and then gone on with for m is the bag of budget n + m, steps added
pub spent_onward : (p : List Operation) (settings : Settings) (fills : List ℕ → List ℕ) (restarts : Bool) (n m : ℕ) (x : Engine)
    → let part : ℕ → Served = λ budget. engine_served p settings (record { fills = fills; restarts = restarts; budget = budget }) x in
    is_spent (part n).result.stop ≡ true
    → (part (n + m)).result ≡ later (part n).result.steps (engine_served p settings (onward m) (part n).result.machine).result
spent_onward p settings fills restarts n m x spent =
    let z = engine_before (record { fills = fills; restarts = restarts; budget = n }) x in
    engine_split p settings n m z.state z.memory ∙ rw spent

-- ---- a flag that is set stays set through every later bag

-- the controller leaves it
before_stays : (t : Target) (b : Bag) (x : Engine) → SetIn t x.state → SetIn t (engine_before b x).state
unfolding restarted_state
before_stays A b x h = by_test (SetIn A) b.restarts (λ e. h) (λ e. h)
before_stays B b x h = by_test (SetIn B) b.restarts (λ e. h) (λ e. h)

module _ (p : List Operation) (settings : Settings) (none : holds_clear p ≡ false) where
  -- after a bag
  served_stays : (t : Target) (b : Bag) (x : Engine) → SetIn t x.state → SetIn t (engine_served p settings b x).result.machine.state
  unfolding engine_run
  served_stays t b x h = run_stays p settings none t b.budget 0 (engine_before b x) (before_stays t b x h)

  -- through every bag
  pub service_stays : (t : Target) (bags : List Bag) (x : Engine) → Staying t x.state (engine_service p settings x bags)
  service_stays t =
      by_bags p settings (λ x bags us. Staying t x.state us)
      (record { at_none = λ x. tt; at_bag = λ b bags x on. (served_stays t b x, on) })

  -- flags that are clear after a bag were clear before it
  served_flags : (b : Bag) (x : Engine) → FlagsClear (engine_served p settings b x).result.machine.state → FlagsClear x.state
  served_flags b x c = record { sa = unset _ _ (served_stays A b x) c.sa; sb = unset _ _ (served_stays B b x) c.sb }
    where
      unset : (t t' : Bool) → (t ≡ true → t' ≡ true) → t' ≡ false → t ≡ false
      unset true t' stays e = sym (stays refl) ∙ e
      unset false t' stays e = refl

  -- and flags that are clear after the last bag, before the first
  service_flags : (bags : List Bag) (x : Engine) → FlagsClear (engine_after x (engine_service p settings x bags)).state → FlagsClear x.state
  service_flags =
      by_bags p settings (λ x bags us. FlagsClear (engine_after x us).state → FlagsClear x.state)
      (record { at_none = λ x c. c; at_bag = λ b bags x on c. served_flags b x (on c) })

  -- ---- one bag, from an engine with both flags clear

  module _ (b : Bag) (x : Engine) where
    abbrev u : Served
    u = engine_served p settings b x

    abbrev v : Result Ledger
    v = ledger_served p settings b x.state.core x.memory

    -- its exact sums: the controller does the same to engine and ledger
    bag_sums : ((i : ℕ) → i < length p → is_listed (operation_at p i) ≡ true) → FlagsClear x.state → length u.before.state.core.w ≡ 14
        → ExactSums p settings u.before.state u.before.memory u.result v
    unfolding restarted_state
    bag_sums ok clean = go b.restarts
      where
        memory : List ℕ
        memory = b.fills x.memory

        go : (t : Bool)
            → let s = cond t (restarted_state x.state) x.state in
            length s.core.w ≡ 14
            → ExactSums p settings s memory (engine_run p settings b.budget s memory)
            (ledger_run p settings b.budget (cond t (go_to x.state.core 0 no_loops 0) x.state.core) memory)
        go true long = exact_sums p settings (restarted_state x.state) memory b.budget ok long none (record { sa = clean.sa; sb = clean.sb })
        go false long = exact_sums p settings x.state memory b.budget ok long none clean

    module _ (bags : List Bag) where
      -- the engine's later bags, and the ledger's where its run stops so
      abbrev us : List Served
      us = engine_service p settings u.result.machine bags

      abbrev vs : Stop → List (Result Ledger)
      vs stop = cond (is_left stop) [] (ledger_service p settings v.machine.core v.machine.memory bags)

      -- one bag more
      one_bag : (stop : Stop) → v.stop ≡ stop → ExactSums p settings u.before.state u.before.memory u.result v
          → (FlagsClear u.result.machine.state
          → ExactService p settings u.result.machine us (ledger_service p settings u.result.machine.state.core u.result.machine.memory bags))
          → ExactService p settings x (u ∷ us) (v ∷ vs stop)
      one_bag (ended e) is exact on =
          let never : NeverLeft v = λ l. false≢true (ap is_left (sym is ∙ l)) in
          let same = exact.alike never in
          let rest : ExactService p settings u.result.machine us (vs (ended e)) = rw (same.core, same.memory) at (on (exact.flags.1 never)) in
          record {
            flags = (λ c. (never, rest.flags.0 c), λ n. rest.flags.1 n.1);
            alike = λ n. (same, rest.alike n.1);
            stores = (record { words = exact.words; half = exact.half }, rest.stores);
          }
      one_bag left is exact on =
          record {
            flags = (λ c. absurd (exact.flags.0 (service_flags bags u.result.machine c) is), λ n. absurd (n.0 is));
            alike = λ n. absurd (n.0 is);
            stores = (record { words = exact.words; half = exact.half }, tt);
          }

-- ---- every bag

-- the theorem: an accepted program that holds no clearing operation, a first call that is accepted, a state with both flags clear, any bags
pub exact_service : (p : List Operation) → is_placed p ≡ true → ((i : ℕ) → i < length p → is_listed (operation_at p i) ≡ true) → holds_clear p ≡ false
    → (settings : Settings) (x : Engine) → FlagsClear x.state → (bags : List Bag) → Every (Sound (length x.memory)) bags
    → Begins p (length x.memory) bags x
    → ExactService p settings x (engine_service p settings x bags) (ledger_service p settings x.state.core x.memory bags)
unfolding ledger_service
exact_service p placed ok none settings x clean bags sound begins =
    let words = length x.memory in
    by_bags p settings
    (λ x bags us.
    Every (FitServed p words) us → FlagsClear x.state → ExactService p settings x us (ledger_service p settings x.state.core x.memory bags))
    (record {
      at_none = λ x fits clean. record { flags = (λ c. tt, λ n. clean); alike = λ n. tt; stores = tt };
      at_bag =
          λ b bags x on (fit, fits) clean.
          one_bag p settings none b x bags _ refl (bag_sums p settings none b x ok clean fit.before.stands.registers) (on fits);
    }) bags x (service_fits p placed ok settings words bags x sound begins) clean
