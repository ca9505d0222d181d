-- The steps of a run, in order, each with the machine before and after it.
use Rattle.std.specs.Prelude.{ℕ, zero, suc, List, [], ◌∷◌, ◌++◌}
use Rattle.runs.specs.Run.{Result}

-- a step that a run made
pub record Transition (S : Type 0) : Type 0 where
  pub from : S
  pub to : S

-- the first n steps of a run that comes to `runs b` under a budget of b and makes so many: step i leads from the machine after i steps to the one after i + 1
unfoldable pub first_steps : {S : Type 0} → (ℕ → Result S) → ℕ → List (Transition S)
first_steps runs zero = []
first_steps runs (suc i) = first_steps runs i ++ (record { from = (runs i).machine; to = (runs (suc i)).machine } ∷ [])

-- the steps that it makes under a budget
abbrev pub steps_of : {S : Type 0} → (ℕ → Result S) → ℕ → List (Transition S)
steps_of runs budget = first_steps runs (runs budget).steps
