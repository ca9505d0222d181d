-- The call that serves a list of bags: refused, or every bag served.
use Rattle.std.specs.Prelude.{ℕ, ◌+◌, ◌*◌, Bool, cond, ◌&&◌, List, map, ◌≡◌, leb, length, Result, Ok, Err}
use Rattle.program.specs.Answer.{◌then◌, if_accepted}
use Rattle.program.specs.Bytes.{over}
use Rattle.program.specs.declared.answer.Refusal.{Refusal}
use Rattle.state.specs.declared.settings.Settings.{Settings}
use Rattle.state.specs.declared.state.State.{State}
use Rattle.machine.specs.Single.{call_refusal}
use Rattle.endings.specs.Ending.{code_of}
use Rattle.runs.specs.Run.{Stop}
use Rattle.runs.specs.Run.Stop.{ended, left}
use Rattle.runs.specs.Engine.{Engine}
use Rattle.service.specs.Service.{first_before, Served, engine_after, call_service}
use Rattle.service.specs.Exact.{Serves}
use Rattle.service.specs.Bags.{Schedule, first_bags, bags_of}

-- the lent slices are long enough: a memory of so many words for the window; a restart, `size` words, an ending and a count of steps for each bag
unfoldable pub is_enough : Schedule → ℕ → ℕ → ℕ → Bool
is_enough d memory endings steps =
    let bags = length d.budgets in
    leb (d.window.first.0 + d.window.size) memory
    && leb bags (length d.restarts)
    && leb (bags * d.window.size) (length d.words)
    && leb bags endings
    && leb bags steps

-- 1 to 7 of the first bag's call; 8: a lent slice is too short
unfoldable pub service_refusal : List ℕ → Settings → Engine → Schedule → ℕ → ℕ → ℕ
service_refusal file settings x d endings steps =
    let memory = length x.memory in
    call_refusal file settings (first_before (bags_of d) x).state memory then cond (is_enough d memory endings steps) 0 8

-- how a bag's run ended, by its code; the ledger's "left", which is no run of the engine's, has one that no ending has
abbrev pub code_in : Stop → ℕ
code_in (ended e) = code_of e
code_in left = 0x40

-- the first n bags are served from engine x: the engine after them, their endings by code and their steps in the lent slices, of which the rest stays
pub record ServedUpTo (file : List ℕ) (settings : Settings) (x : Engine) (d : Schedule) (endings steps : List ℕ) (n : ℕ)
    (x' : Engine) (endings' steps' : List ℕ) : Type 0 where
  pub machine : x' ≡ engine_after x (call_service file settings x (first_bags d n))
  pub ends : endings' ≡ over (map (λ (u : Served). code_in u.result.stop) (call_service file settings x (first_bags d n))) endings
  pub counts : steps' ≡ over (map (λ (u : Served). u.result.steps) (call_service file settings x (first_bags d n))) steps

-- the state after the call's answer: where it is refused the caller's, as it came
abbrev pub state_left : State → Result State Refusal → State
state_left s (Ok after) = after
state_left s (Err r) = s

-- what the call's refusal, the engine and the lent slices after it are promised to be
pub record ServesBags (file : List ℕ) (settings : Settings) (x : Engine) (d : Schedule) (endings steps : List ℕ)
    (refusal : ℕ) (x' : Engine) (endings' steps' : List ℕ) : Type 0 where
  -- its number, or 0
  pub refused : refusal ≡ service_refusal file settings x d (length endings) (length steps)
  -- every bag is served, or none where it is refused
  pub served : ServedUpTo file settings x d endings steps (if_accepted refusal (length d.budgets) 0) x' endings' steps'
  -- no bag is refused, each is a run, and the sums are exact over all of them
  pub serves : refusal ≡ 0 → Serves file settings x (bags_of d)
