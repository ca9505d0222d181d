-- A leg by its steps: what the loop of `step_on` keeps, and how it ends. Assumes nothing.
use Prim.Native.Nat.{ℕ, ◌+◌, ◌-◌, ◌≤◌, ◌<◌}
use mathlib.Core.Bool.{true, false, ◌||◌}
use Rattle.std.specs.Prelude.{Result}
use Rattle.address.specs.Trap.{trap_number}
use Rattle.address.specs.declared.trap.Trap.{Trap}
use mathlib.Core.List.{List}
use mathlib.Core.Path.{◌≡◌, refl, sym, ap, ◌∙◌, subst}
use native.Mathlib.Omega.{arith}
use native.Mathlib.Decide.{dec_le}
use native.Mathlib.Nat.{lt_of_not-le}
use lib.ListN.{length}
use Rattle.integers.proofs.Whole.{never}
use Rattle.operations.specs.declared.operation.Operation.{Operation}
use Rattle.state.specs.Accept.{state_refusal}
use Rattle.state.specs.Typed.{Typed, AreWords}
use Rattle.state.specs.declared.settings.Settings.{Settings}
use Rattle.state.specs.declared.state.State.{State}
use Rattle.machine.specs.Step.{Step, operation_at}
use Rattle.machine.proofs.Stands.{Stands, accepted_stands, stands_accepted}
use Rattle.fields.specs.Carried.{Accumulators}
use Rattle.sequencer.specs.Standing.{Lasts, Standing, Follows}
use Rattle.sequencer.specs.declared.flow.Flow.{Flow}
use Rattle.stepping.specs.Turned.{Held, state_held, flow_after, turn_trap, is_made, turn_in, Turns}
use Rattle.stepping.specs.declared.step.Turn.{Turn}
use Rattle.stepping.proofs.Works.{trap_some}
use Rattle.runs.specs.Run.Stop.{ended}
use Rattle.runs.specs.Engine.{Engine, engine_from}
use Rattle.endings.specs.declared.ending.Ending.TheVariants.{Done}
use Rattle.legs.specs.Leg.{Shows, IsIn, Finds, engine_in, Stood, rest_of, is_elsewhere, is_onward, Goes, ending_of}
use Rattle.legs.specs.declared.window.Window.{Window}
use Rattle.legs.specs.declared.leg.Leg.{Leg}
use Rattle.legs.specs.declared.leg.Pause.{Pause}
use Rattle.legs.specs.declared.leg.Pause.TheVariants.{Elsewhere, OutOfSteps, Trapped, Onward}
use Rattle.legs.proofs.Fits.{Fit, stepped_fits}
use Rattle.legs.proofs.Along.{Along, uncounted_leaves, ends_done, ends_spent, ends_over, ends_last, goes_on}

-- ---- what a leg keeps

-- what holds of a core all along a run, and what is asked where a leg begins
module _ {p : List Operation} {settings : Settings} {h : Held} {f : Flow} where
  stood_stands : Stood p settings h f → Stands p (engine_in h f).state.core
  stood_stands s = accepted_stands p (engine_in h f).state s.typed s.accepted

  fit_stood : {words : ℕ} → Fit p words (engine_in h f) → settings.xwords ≤ words → Lasts p h.registers.loops f.depth → Stood p settings h f
  fit_stood fit part lasts =
      let four = fit.stands.nested.four in
      record {
        typed = record { registers = fit.stands.registers; words = fit.stands.words; starts = four.0; passes = four.1 };
        accepted = stands_accepted p (engine_in h f).state fit.stands;
        ram = fit.ram;
        part = rw fit.long part;
        lasts = lasts;
      }

-- what goes on, with another leg or elsewhere, has all of its run left
rest_left : (pause : Pause) (p : List Operation) (settings : Settings) (budget steps : ℕ) (x : Engine) → (is_onward pause || is_elsewhere pause) ≡ true
    → rest_of pause p settings budget steps x ≡ engine_from p settings (budget - steps) steps x
rest_left Elsewhere p settings budget steps x e = refl
rest_left OutOfSteps p settings budget steps x e = never e
rest_left (Trapped n) p settings budget steps x e = never e
rest_left Onward p settings budget steps x e = refl

-- what does not has its end
rest_ended : (pause : Pause) (p : List Operation) (settings : Settings) (budget steps : ℕ) (x : Engine) → (is_onward pause || is_elsewhere pause) ≡ false
    → rest_of pause p settings budget steps x ≡ record { machine = x; steps = steps; stop = ended (ending_of pause) }
rest_ended Elsewhere p settings budget steps x e = never (sym e)
rest_ended OutOfSteps p settings budget steps x e = refl
rest_ended (Trapped n) p settings budget steps x e = refl
rest_ended Onward p settings budget steps x e = never (sym e)

-- what is not onward
pub not_onward : (pause : Pause) → (pause ≡ Onward → ⊥) → is_onward pause ≡ false
not_onward Elsewhere n = refl
not_onward OutOfSteps n = refl
not_onward (Trapped trap) n = refl
not_onward Onward n = absurd (n refl)

-- with so many steps made the run from h₀, f₀ goes on from h, f
pub record Way (p : List Operation) (settings : Settings) (budget : ℕ) (h₀ : Held) (f₀ : Flow) (steps₀ : ℕ) (h : Held) (f : Flow) (made : ℕ) : Type 0 where
  pub along : Along p settings budget (length h₀.memory) (engine_from p settings (budget - steps₀) steps₀ (engine_in h₀ f₀)) (engine_in h f) made
  pub part : settings.xwords ≤ length h₀.memory
  pub lasts : Lasts p h.registers.loops f.depth
  pub forward : steps₀ ≤ made
  pub still : made ≡ steps₀ → f.pc ≡ f₀.pc

-- it begins
pub way_begins : (p : List Operation) (settings : Settings) (budget : ℕ) (h : Held) (f : Flow) (steps : ℕ) → steps ≤ budget → Stood p settings h f
    → Way p settings budget h f steps h f steps
way_begins p settings budget h f steps l s =
    record {
      along = record { fit = record { stands = stood_stands s; ram = s.ram; long = refl }; within = l; same = refl };
      part = s.part;
      lasts = s.lasts;
      forward = omega arith;
      still = λ e. refl;
    }

module _ {p : List Operation} {settings : Settings} {budget : ℕ} {h₀ : Held} {f₀ : Flow} {steps₀ : ℕ} {h : Held} {f : Flow} {made : ℕ}
    (way : Way p settings budget h₀ f₀ steps₀ h f made) where
  -- what stands now
  pub way_stood : Stood p settings h f
  way_stood = fit_stood way.along.fit way.part way.lasts

  -- the run goes on from here: the operation at pc is outside the window
  pub goes_elsewhere : (v : Window) → (IsIn v f.pc → ⊥) → Goes p settings v budget h₀ f₀ steps₀ h (record { flow = f; steps = made; pause = Elsewhere })
  goes_elsewhere v outside =
      record {
        rest = way.along.same;
        within = way.along.within;
        stood = way_stood;
        long = way.along.fit.long;
        forward = way.forward;
        still = way.still;
        out = λ e. outside;
        more = λ e. never e;
      }

  -- a leg that goes on
  pub goes_onward : (v : Window) → steps₀ < made → Goes p settings v budget h₀ f₀ steps₀ h (record { flow = f; steps = made; pause = Onward })
  goes_onward v l =
      record {
        rest = way.along.same;
        within = way.along.within;
        stood = way_stood;
        long = way.along.fit.long;
        forward = way.forward;
        still = way.still;
        out = λ e. never e;
        more = λ e. l;
      }

  -- another leg follows
  module _ {v : Window} {h' : Held} {r : Leg} (leg : Goes p settings v budget h f made h' r) where
    stays_still : r.steps ≡ steps₀ → r.flow.pc ≡ f₀.pc
    stays_still e =
        let k : steps₀ ≤ made = way.forward in
        let l : made ≤ r.steps = leg.forward in
        leg.still (omega arith) ∙ way.still (omega arith)

    pub goes_along : Goes p settings v budget h₀ f₀ steps₀ h' r
    goes_along =
        let k : steps₀ ≤ made = way.forward in
        let l : made ≤ r.steps = leg.forward in
        record {
          rest = leg.rest ∙ way.along.same;
          within = leg.within;
          stood = leg.stood;
          long = leg.long ∙ way.along.fit.long;
          forward = omega arith;
          still = stays_still;
          out = leg.out;
          more = λ e. let m : made < r.steps = leg.more e in omega arith;
        }

    pub way_along : (is_onward r.pause || is_elsewhere r.pause) ≡ true → Way p settings budget h₀ f₀ steps₀ h' r.flow r.steps
    way_along e =
        let all = goes_along in
        record {
          along = record { fit = record { stands = stood_stands leg.stood; ram = leg.stood.ram; long = all.long }; within = leg.within; same = sym (rest_left r.pause p settings budget r.steps (engine_in h' r.flow) e) ∙ all.rest };
          part = way.part;
          lasts = leg.stood.lasts;
          forward = all.forward;
          still = all.still;
        }

    -- or none: the run ends
    pub goes_ended : (is_onward r.pause || is_elsewhere r.pause) ≡ false
        → record { machine = engine_in h' r.flow; steps = r.steps; stop = ended (ending_of r.pause) } ≡ engine_from p settings (budget - steps₀) steps₀ (engine_in h₀ f₀)
    goes_ended e = sym (rest_ended r.pause p settings budget r.steps (engine_in h' r.flow) e) ∙ goes_along.rest

    -- a leg from inside the window to its outside has made a step
    pub elsewhere_more : is_elsewhere r.pause ≡ true → IsIn v f.pc → made < r.steps
    elsewhere_more e inside =
        elim (dec_le r.steps made) [
          | yes k ↦
              let same : r.steps ≡ made = let l : made ≤ r.steps = leg.forward in omega arith in
              let here : r.flow.pc ≡ f.pc = leg.still same in
              absurd (leg.out e (record { low = rw here inside.low; high = rw here inside.high }))
          | no k ↦ lt_of_not-le k
        ]

  -- done: pc is the count of operations
  pub way_done : f.pc ≡ length p
      → record { machine = engine_in h f; steps = made; stop = ended Done } ≡ engine_from p settings (budget - steps₀) steps₀ (engine_in h₀ f₀)
  way_done e = ends_done way.along e

  -- there is an operation at pc, in the window
  module _ {v : Window} (window : Shows p v) (inside : IsIn v f.pc) where
    pub below : f.pc < length p
    below = let k : v.first + v.count ≤ length p = window.inside in omega (arith, inside.high)

    undone : f.pc ≡ length p → ⊥
    undone e = let k : f.pc < length p = below in omega arith

    -- its place among the words
    pub placed_at : f.pc - v.first < v.count
    placed_at = omega (arith, inside.low, inside.high)

    back_again : v.first + (f.pc - v.first) ≡ f.pc
    back_again = omega (arith, inside.low)

    pub follows : (code : List ℕ) (at : ℕ) → Finds v f.pc code at → Follows p code at f h.registers.loops
    follows code at found =
        rw (found.code_is, found.at_is) (record { here = ap (operation_at p) (sym back_again) ∙ window.same (f.pc - v.first) placed_at; lasts = way.lasts })

    pub standing : Standing f
    standing =
        let most : length p ≤ 4032 = window.most in
        let at : f.pc < length p = below in
        record { at = omega arith; few = way.along.fit.stands.nested.few }

    pub accumulators : Accumulators h.registers.sums.values
    accumulators = record { a = way.along.fit.stands.a; b = way.along.fit.stands.b }

    -- the budget's steps are made
    pub goes_out : made ≡ budget → Goes p settings v budget h₀ f₀ steps₀ h (record { flow = f; steps = made; pause = OutOfSteps })
    goes_out e =
        record {
          rest = ends_spent way.along undone e;
          within = way.along.within;
          stood = way_stood;
          long = way.along.fit.long;
          forward = way.forward;
          still = way.still;
          out = λ e. never e;
          more = λ e. never e;
        }

    -- the operation is executed
    module _ (left : made ≡ budget → ⊥) (h' : Held) (r : Result Turn Trap) (turns : Turns p settings f h h' r) where
      abbrev f' : Flow
      f' = flow_after f r

      -- what stands then
      turned_fits : Fit p (length h₀.memory) (engine_in h' f')
      turned_fits =
          subst (λ (z : Step). Fit p (length h₀.memory) (record { state = z.state; memory = z.memory })) (sym turns.step)
          (stepped_fits p window.placed window.listed settings (length h₀.memory) (engine_in h f) below way.along.fit)

      turned_stood : Stood p settings h' f'
      turned_stood = fit_stood turned_fits way.part turns.lasts

      -- it is not made, for a trap
      pub goes_over : (t : Trap) → turn_trap r ≡ trap_number t → is_made r ≡ false → Goes p settings v budget h₀ f₀ steps₀ h' (record { flow = f'; steps = made; pause = Trapped t })
      goes_over t e c =
          record {
            rest = rw (← e) (ends_over way.along undone left (turn_in h' f r) turns.step c);
            within = way.along.within;
            stood = turned_stood;
            long = turned_fits.long;
            forward = way.forward;
            still = λ e. ap (λ (x : Engine). x.state.core.pc) (rw (sym turns.step) at (uncounted_leaves p settings (engine_in h f)) c) ∙ way.still e;
            out = λ e. never e;
            more = λ e. never e;
          }

      -- made, and has a trap
      pub goes_last : (t : Trap) → turn_trap r ≡ trap_number t → is_made r ≡ true → Goes p settings v budget h₀ f₀ steps₀ h' (record { flow = f'; steps = made + 1; pause = Trapped t })
      goes_last t e c =
          let k : steps₀ ≤ made = way.forward in
          let l : made ≤ budget = way.along.within in
          record {
            rest = rw (← e) (ends_last way.along undone left (turn_in h' f r) turns.step c (λ z. trap_some t (sym e ∙ z)));
            within = omega arith;
            stood = turned_stood;
            long = turned_fits.long;
            forward = omega arith;
            still = λ e. absurd (omega arith);
            out = λ e. never e;
            more = λ e. never e;
          }

      -- made, and has none
      pub goes_next : is_made r ≡ true → turn_trap r ≡ 0 → Way p settings budget h₀ f₀ steps₀ h' f' (made + 1)
      goes_next c z =
          let on = goes_on way.along undone left (turn_in h' f r) turns.step window.placed window.listed c z in
          record {
            along = on;
            part = way.part;
            lasts = turns.lasts;
            forward = let k : steps₀ ≤ made = way.forward in omega arith;
            still = λ e. let k : steps₀ ≤ made = way.forward in absurd (omega arith);
          }

-- ---- a whole run

-- before any step all of the budget is left
pub all_left : (p : List Operation) (settings : Settings) (budget : ℕ) (x : Engine) → engine_from p settings (budget - 0) 0 x ≡ engine_from p settings budget 0 x
all_left p settings budget x = let all : budget - 0 ≡ budget = omega arith in ap (λ (n : ℕ). engine_from p settings n 0 x) all

-- where a state is
abbrev pub flow_of : State → Flow
flow_of s = record { pc = s.core.pc; depth = s.core.loops.depth; repeat = s.core.repeat; mode = s.core.mode }

-- registers of a state stand
pub state_stood : (p : List Operation) (settings : Settings) (s : State) (h : Held) → state_held h.registers (flow_of s) ≡ s → Typed s.core → state_refusal p s ≡ 0
    → AreWords h.memory → settings.xwords ≤ length h.memory → Lasts p h.registers.loops s.core.loops.depth → Stood p settings h (flow_of s)
state_stood p settings s h same typed accepted ram part known =
    record {
      typed = subst (λ (z : State). Typed z.core) (sym same) typed;
      accepted = subst (λ (z : State). state_refusal p z ≡ 0) (sym same) accepted;
      ram = ram;
      part = part;
      lasts = known;
    }
