-- The induction over the bags of a service, `by_bags`, and by it: where the first bag's run begins with an engine that fits, each begins and ends with one.
-- Assumes nothing.
use Prim.Native.Nat.{ℕ, ◌<◌}
use mathlib.Core.Bool.{true, cond}
use mathlib.Core.List.{List, [], ◌∷◌}
use mathlib.Core.Path.{◌≡◌, refl}
use lib.ListN.{length}
use Rattle.integers.proofs.Whole.{by_test}
use Rattle.operations.specs.Listed.{is_listed}
use Rattle.operations.specs.declared.operation.Operation.{Operation}
use Rattle.program.specs.Placement.{is_placed}
use Rattle.state.specs.State.{restarted_state}
use Rattle.state.specs.Accept.{state_refusal}
use Rattle.state.specs.Typed.{AreWords, Typed}
use Rattle.state.specs.declared.settings.Settings.{Settings}
use Rattle.state.specs.declared.state.State.{State}
use Rattle.machine.specs.Step.{operation_at}
use Rattle.machine.proofs.Stands.{Stands, accepted_stands, restart_stands}
use Rattle.runs.specs.Engine.{Engine}
use Rattle.legs.proofs.Fits.{Fit, run_fits}
use Rattle.service.specs.Service.{Bag, engine_before, first_before, Served, engine_served, engine_service}
use Rattle.service.specs.Exact.{Sound, Every}

-- ---- the induction

-- Q of an engine, bags and how they are served from it holds of no bags, and of all bags where it holds of those after the first
pub record Carries (p : List Operation) (settings : Settings) (Q : Engine → List Bag → List Served → Type 0) : Type 0 where
  pub at_none : (x : Engine) → Q x [] []
  pub at_bag :
      (b : Bag) (bags : List Bag) (x : Engine) →
      let u = engine_served p settings b x in
      let us = engine_service p settings u.result.machine bags in
      Q u.result.machine bags us → Q x (b ∷ bags) (u ∷ us)

module _ (p : List Operation) (settings : Settings) (Q : Engine → List Bag → List Served → Type 0) (carries : Carries p settings Q) where
  pub by_bags : (bags : List Bag) (x : Engine) → Q x bags (engine_service p settings x bags)
  unfolding engine_service
  by_bags [] x = carries.at_none x
  by_bags (b ∷ bags) x = carries.at_bag b bags x (by_bags bags (engine_served p settings b x).result.machine)

-- ---- the first bag

-- what stands and has words goes on standing
before_fits : (p : List Operation) (words : ℕ) (b : Bag) (x : Engine) → Sound words b → Fit p words x → Fit p words (engine_before b x)
before_fits p words b x sound h =
    record {
      stands = by_test (λ (s : State). Stands p s.core) b.restarts (λ e. restart_stands p p x.state h.stands) (λ e. h.stands);
      ram = sound.words x.memory h.long h.ram;
      long = sound.long x.memory h.long;
    }

-- the engine that the first bag's run begins with fits
abbrev pub Begins : List Operation → ℕ → List Bag → Engine → Type 0
Begins p words [] x = Unit {0}
Begins p words (b ∷ bags) x = Fit p words (engine_before b x)

-- it does where the engine before it fits
pub fits_begins : (p : List Operation) (words : ℕ) (bags : List Bag) (x : Engine) → Every (Sound words) bags → Fit p words x → Begins p words bags x
fits_begins p words [] x sound fit = tt
fits_begins p words (b ∷ bags) x (here, later) fit = before_fits p words b x here fit

before_typed : (b : Bag) (s : State) → Typed s.core → Typed (cond b.restarts (restarted_state s) s).core
unfolding restarted_state
before_typed b s h =
    by_test (λ (z : State). Typed z.core) b.restarts
    (λ e. record { registers = h.registers; words = h.words; starts = refl; passes = refl }) (λ e. h)

-- and where its state is accepted
pub accepted_begins : (p : List Operation) (bags : List Bag) (x : Engine) → Typed x.state.core → AreWords x.memory
    → Every (Sound (length x.memory)) bags → state_refusal p (first_before bags x).state ≡ 0 → Begins p (length x.memory) bags x
accepted_begins p [] x typed ram sound h = tt
accepted_begins p (b ∷ bags) x typed ram (here, later) h =
    record {
      stands = accepted_stands p (engine_before b x).state (before_typed b x.state typed) h;
      ram = here.words x.memory refl ram;
      long = here.long x.memory refl;
    }

-- ---- every bag

-- a bag's run begins and ends with an engine that fits
pub record FitServed (p : List Operation) (words : ℕ) (u : Served) : Type 0 where
  pub before : Fit p words u.before
  pub after : Fit p words u.result.machine

pub service_fits : (p : List Operation) → is_placed p ≡ true → ((i : ℕ) → i < length p → is_listed (operation_at p i) ≡ true) → (settings : Settings) (words : ℕ)
    (bags : List Bag) (x : Engine) → Every (Sound words) bags → Begins p words bags x → Every (FitServed p words) (engine_service p settings x bags)
service_fits p placed ok settings words =
    by_bags p settings (λ x bags us. Every (Sound words) bags → Begins p words bags x → Every (FitServed p words) us)
    (record {
      at_none = λ x sound begins. tt;
      at_bag =
          λ b bags x on (here, later) fit.
          let after = run_fits p placed ok settings words b.budget (engine_before b x) fit in
          (record { before = fit; after = after }, on later (fits_begins p words bags _ later after));
    })
