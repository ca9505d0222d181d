-- Stepping and ending, common to engine and ledger. S is the machine, its memory included.
use Rattle.std.specs.Prelude.{ℕ, zero, suc, Bool, true, false, cond, eqb}
use Rattle.endings.specs.declared.ending.Ending.{Ending}
use Rattle.endings.specs.declared.ending.Ending.TheVariants.{Done, Spent, Trap, Refused}

-- how a run stops: with an ending, or, the ledger's alone, marked "left"
pub data Stop : Type 0 where
  ended : Ending → Stop
  left : Stop

-- marked "left"
abbrev pub is_left : Stop → Bool
is_left (ended e) = false
is_left left = true

-- ended as done
abbrev pub is_done : Stop → Bool
is_done (ended Done) = true
is_done (ended Spent) = false
is_done (ended (Trap n)) = false
is_done (ended (Refused n)) = false
is_done left = false

-- what executing the operation at pc comes to
pub data Turn (S : Type 0) : Type 0 where
  -- the run stops with no effect and no step
  over : Stop → Turn S
  -- the step is complete and counted, and the run stops
  last : Ending → S → Turn S
  -- the step is complete and counted
  next : S → Turn S

-- the machine, the steps made and how the run stopped
pub record Result (S : Type 0) : Type 0 where
  pub machine : S
  pub steps : ℕ
  pub stop : Stop

-- a complete step, and the trap after it: 5 to 7, or 0 for none
abbrev pub complete : {S : Type 0} → ℕ → S → Turn S
complete trap s = cond (eqb trap 0) (next s) (last (Trap trap) s)

-- the run after a turn at s with k steps made
abbrev pub after : {S : Type 0} → S → ℕ → (S → Result S) → Turn S → Result S
after s k go (over e) = record { machine = s; steps = k; stop = e }
after s k go (last e s') = record { machine = s'; steps = suc k; stop = ended e }
after s k go (next s') = go s'

-- Before each operation: done, else spent, else execute. From s, with n left of the budget and k steps made; `turn k` is the step after k others.
unfoldable pub run : {S : Type 0} → (S → Bool) → (ℕ → S → Turn S) → ℕ → ℕ → S → Result S
run done turn zero k s = record { machine = s; steps = k; stop = ended (cond (done s) Done Spent) }
run done turn (suc n) k s =
    cond (done s)
    (record { machine = s; steps = k; stop = ended Done })
    (after s k (λ s'. run done turn n (suc k) s') (turn k s))
