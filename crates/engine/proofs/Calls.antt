-- What the call for a run leaves, refused or run. Assumes nothing.
use Prim.Native.Nat.{ℕ, suc, ◌≤◌}
use mathlib.Core.Bool.{false}
use mathlib.Core.List.{List, [], ◌∷◌, ◌++◌}
use mathlib.Core.Path.{◌≡◌, refl, sym, ap, ◌∙◌, subst}
use native.Mathlib.Nat.{zero-add}
use native.Mathlib.Omega.{arith}
use lib.ListN.{length}
use Rattle.integers.specs.Bits.{low_bits, SameModulo, signed_of}
use Rattle.program.specs.File.{file_refusal, program_of}
use Rattle.program.proofs.Accepted.{program_placed}
use Rattle.state.specs.Typed.{AreWords, Typed}
use Rattle.state.specs.declared.settings.Settings.{Settings}
use Rattle.state.specs.declared.state.State.{State}
use Rattle.machine.specs.Single.{call_refusal}
use Rattle.machine.proofs.Order.{with_sums}
use Rattle.machine.proofs.Calls.{call_file, call_settings, call_state, call_most, if_refused}
use Rattle.machine.proofs.Stands.{accepted_stands, stands_accepted}
use Rattle.endings.specs.Ending.{is_run_ending, number_of, decimal_of, filled_to, name_of}
use Rattle.endings.specs.declared.ending.Ending.TheVariants.{Done, Refused}
use Rattle.runs.specs.Run.{Result}
use Rattle.runs.specs.Run.Stop.{ended}
use Rattle.runs.specs.Engine.{Engine, engine_done, engine_turn, engine_run}
use Rattle.runs.specs.Ledger.{onward_run}
use Rattle.runs.specs.Wraps.{holds_barred, is_saturating}
use Rattle.engine.specs.Call.{result_of, refused, run_of, Runs, stop_name, stop_number}
use Rattle.engine.specs.declared.outcome.Outcome.{Outcome}
use Rattle.legs.proofs.Runs.{run_within}
use Rattle.engine.proofs.Sums.{exact_sums}
use Rattle.engine.proofs.Overflow.{wraps}
use Rattle.legs.proofs.Fits.{Fit, run_fits, file_listed}
use Rattle.engine.proofs.Endings.{one_to_seven, is_run_stop, run_ends}

module _ (file : List ℕ) (settings : Settings) (s : State) (memory : List ℕ) (budget : ℕ) where
  pub call_refused : (n : ℕ) → n ≡ call_refusal file settings s (length memory) → (n ≡ 0 → ⊥)
      → Runs file settings s memory budget (record { ending = Refused n; state = s; steps = 0 }) memory
  unfolding run_of is_run_ending
  call_refused n e h =
      let is : refused n s memory ≡ run_of file settings s memory budget =
      rw (sym e) (if_refused n (engine_run (program_of file) settings budget s memory) (refused n s memory) h) in
      record {
        runs = is;
        ends = one_to_seven n h (rw e (call_most file settings s (length memory)));
        name = ap (λ (x : Result Engine). stop_name x.stop) is;
        number = ap (λ (x : Result Engine). stop_number x.stop) is;
        within = omega arith;
        again = λ z. z;
        exact = λ z. absurd (h (e ∙ z));
        wraps = λ z. absurd (h (e ∙ z));
      }

  run_steps : (engine_run (program_of file) settings budget s memory).steps ≤ budget
  unfolding engine_run
  run_steps = rw zero-add at (run_within (engine_done (program_of file)) (λ k x. engine_turn (program_of file) settings x) budget 0 (record { state = s; memory = memory }))

  -- a run from an accepted call fits all along
  run_fit : call_refusal file settings s (length memory) ≡ 0 → Typed s.core → AreWords memory
      → Fit (program_of file) (length memory) (engine_run (program_of file) settings budget s memory).machine
  run_fit none typed ram =
      let words = length memory in
      let accepted : file_refusal file ≡ 0 = call_file file settings s words none in
      run_fits (program_of file) (program_placed file accepted) (file_listed file accepted) settings words budget (record { state = s; memory = memory })
      (record { stands = accepted_stands (program_of file) s typed (call_state file settings s words none); ram = ram; long = refl })

  -- and leaves what an accepted call may begin with
  run_again : call_refusal file settings s (length memory) ≡ 0 → Typed s.core → AreWords memory
      → let x = (engine_run (program_of file) settings budget s memory).machine in
      call_refusal file settings x.state (length x.memory) ≡ 0
  unfolding call_refusal
  run_again none typed ram =
      let words = length memory in
      let accepted : file_refusal file ≡ 0 = call_file file settings s words none in
      let fit = run_fit none typed ram in
      let after = (engine_run (program_of file) settings budget s memory).machine.state in
      rw (accepted, fit.long, call_settings file settings s words none, stands_accepted (program_of file) after fit.stands)

  pub call_run : call_refusal file settings s (length memory) ≡ 0 → Typed s.core → AreWords memory → (r : Outcome) (after : List ℕ)
      → result_of r after ≡ engine_run (program_of file) settings budget s memory → Runs file settings s memory budget r after
  unfolding run_of
  call_run none typed ram r after is =
      let accepted : file_refusal file ≡ 0 = call_file file settings s (length memory) none in
      let same : result_of r after ≡ run_of file settings s memory budget = rw none is in
      record {
        runs = same;
        ends =
            ap (λ (x : Result Engine). is_run_stop x.stop) is ∙ run_ends (program_of file) (file_listed file accepted) settings budget s memory;
        name = ap (λ (x : Result Engine). stop_name x.stop) same;
        number = ap (λ (x : Result Engine). stop_number x.stop) same;
        within = rw (ap (λ (x : Result Engine). x.steps) is) run_steps;
        again =
            λ z.
            subst (λ (x : Result Engine). call_refusal file settings x.machine.state (length x.machine.memory) ≡ 0) (sym is)
            (run_again none typed ram);
        exact =
            λ _ none-clears clear.
            rw is (exact_sums (program_of file) settings s memory budget (file_listed file accepted) typed.registers none-clears clear);
        wraps =
            λ _ none_barred off untrapped.
            let stands = (run_fit none typed ram).stands in
            rw is (wraps (program_of file) settings none_barred untrapped s memory budget off stands.a stands.b);
      }

-- a refused call, by the contract alone: its ending has the paper's name and number of that refusal
pub refused_named : (file : List ℕ) (settings : Settings) (s : State) (memory : List ℕ) (budget n : ℕ) (r : Outcome) (after : List ℕ)
    → call_refusal file settings s (length memory) ≡ suc n → Runs file settings s memory budget r after
    → (name_of r.ending ≡ filled_to 9 ((114 ∷ 101 ∷ 102 ∷ 117 ∷ 115 ∷ 101 ∷ 100 ∷ []) ++ decimal_of (suc n))) × (number_of r.ending ≡ suc n)
unfolding run_of name_of number_of
refused_named file settings s memory budget n r after e h = (h.name ∙ rw e, h.number ∙ rw e)

-- a run that is done, by the contract alone
pub done_named : (file : List ℕ) (settings : Settings) (s : State) (memory : List ℕ) (budget : ℕ) (r : Outcome) (after : List ℕ)
    → (run_of file settings s memory budget).stop ≡ ended Done → Runs file settings s memory budget r after
    → (name_of r.ending ≡ filled_to 9 (100 ∷ 111 ∷ 110 ∷ 101 ∷ [])) × (number_of r.ending ≡ 0)
unfolding name_of number_of
done_named file settings s memory budget r after e h = (h.name ∙ rw e, h.number ∙ rw e)

-- two calls in a row, by their contracts alone: what an accepted call returned, however it ended, begins a run
pub next_runs : (file : List ℕ) (settings : Settings) (s : State) (memory : List ℕ) (n m : ℕ) (r r' : Outcome) (after after' : List ℕ)
    → call_refusal file settings s (length memory) ≡ 0 → Runs file settings s memory n r after → Runs file settings r.state after m r' after'
    → result_of r' after' ≡ engine_run (program_of file) settings m r.state after
unfolding run_of
next_runs file settings s memory n m r r' after after' none first second = rw (first.again none) at second.runs

-- exact even after overflow, by the contract alone: an accepted call of such a program leaves the core of the ledger that goes on, its numbers cut to 40 bits and
-- equal modulo 2^40, with O flags of its own, and its memory, after as many steps and with its ending
pub call_wraps : (file : List ℕ) (settings : Settings) (s : State) (memory : List ℕ) (budget : ℕ) (r : Outcome) (after : List ℕ)
    → call_refusal file settings s (length memory) ≡ 0 → holds_barred (program_of file) ≡ false → is_saturating s.core.mode ≡ false → settings.traps ≡ 0
    → Runs file settings s memory budget r after
    → let y = onward_run (program_of file) settings budget s.core memory in
    let c = y.machine.core in
    (r.state.core ≡ with_sums c (signed_of 40 (low_bits 40 c.a)) (signed_of 40 (low_bits 40 c.b)) r.state.core.oa r.state.core.ob)
    × SameModulo 40 r.state.core.a c.a
    × SameModulo 40 r.state.core.b c.b
    × (after ≡ y.machine.memory)
    × (r.steps ≡ y.steps)
    × (ended r.ending ≡ y.stop)
call_wraps file settings s memory budget r after none none_barred off untrapped h =
    let w = h.wraps none none_barred off untrapped in
    let m = w.matches in (
      λ i.
          record {
            w = m.w i;
            a = w.a i;
            b = w.b i;
            pc = m.pc i;
            loops = m.loops i;
            repeat = m.repeat i;
            mode = m.mode i;
            oa = r.state.core.oa;
            ob = r.state.core.ob;
          },
      m.a,
      m.b,
      m.memory,
      w.steps,
      w.stop,
    )
