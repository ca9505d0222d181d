-- One step, by the ending of a run of at most one step.
use Rattle.std.specs.Prelude.{ℕ}
use Rattle.endings.specs.declared.ending.Ending.{Ending}
use Rattle.endings.specs.declared.ending.Ending.TheVariants.{Done, Spent, Trap, Refused}

-- the refusal, 0 none
abbrev pub refusal_in : Ending → ℕ
refusal_in Done = 0
refusal_in Spent = 0
refusal_in (Trap n) = 0
refusal_in (Refused n) = n

-- the trap, 0 none
abbrev pub trap_in : Ending → ℕ
trap_in Done = 0
trap_in Spent = 0
trap_in (Trap n) = n
trap_in (Refused n) = 0
