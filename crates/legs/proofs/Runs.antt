-- Laws of runs, all by one induction on the budget left, `by_run`: a run stays within its budget; what every step keeps it keeps; two machines that step alike
-- run alike, over any relation that a step keeps; a run goes on where another stops; a run in two parts. Assumes nothing.
use Prim.Native.Nat.{ℕ, zero, suc, ◌+◌, ◌-◌, ◌≤◌}
use mathlib.Core.Bool.{Bool, true, false, cond}
use mathlib.Core.Path.{◌≡◌, refl, sym, ap, ◌∙◌, subst}
use native.Mathlib.Nat.{zero-add, suc-add, add-suc, add-zero}
use native.Mathlib.Omega.{arith}
use Rattle.integers.proofs.Whole.{never, by_test}
use Rattle.endings.specs.declared.ending.Ending.{Ending}
use Rattle.endings.specs.declared.ending.Ending.TheVariants.{Done, Spent, Trap, Refused}
use Rattle.runs.specs.Run.{Stop, is_left, is_done, Turn, Result, after, run}
use Rattle.runs.specs.Run.Stop.{ended, left}
use Rattle.runs.specs.Run.Turn.{over, last, next}

-- ---- a run by its first turn

module _ {S : Type 0} (done : S → Bool) (turn : ℕ → S → Turn S) where
  -- where it is done it ends at once, whatever is left of the budget
  pub run_done : (n k : ℕ) (s : S) → done s ≡ true → run done turn n k s ≡ record { machine = s; steps = k; stop = ended Done }
  unfolding run
  run_done zero k s e = rw e
  run_done (suc n) k s e = rw e

  pub run_spent : (k : ℕ) (s : S) → done s ≡ false → run done turn 0 k s ≡ record { machine = s; steps = k; stop = ended Spent }
  unfolding run
  run_spent k s e = rw e

  pub run_turn : (n k : ℕ) (s : S) (u : Turn S) → done s ≡ false → turn k s ≡ u → run done turn (suc n) k s ≡ after s k (run done turn n (suc k)) u
  unfolding run
  run_turn n k s u e is = rw (e, is)

-- ---- the induction

-- Q of the budget left, the steps made, the machine and how a run from there ends holds where the run is done or spent, where its turn stops it, and where its
-- turn goes on and it holds of the run from there
pub record ByTurns {S : Type 0} (done : S → Bool) (turn : ℕ → S → Turn S) (Q : ℕ → ℕ → S → Result S → Type 0) : Type 0 where
  pub at_done : (n k : ℕ) (s : S) → done s ≡ true → Q n k s (record { machine = s; steps = k; stop = ended Done })
  pub at_spent : (k : ℕ) (s : S) → done s ≡ false → Q 0 k s (record { machine = s; steps = k; stop = ended Spent })
  pub at_over : (n k : ℕ) (s : S) (e : Stop) → done s ≡ false → turn k s ≡ over e → Q (suc n) k s (record { machine = s; steps = k; stop = e })
  pub at_last :
      (n k : ℕ) (s s' : S) (e : Ending) → done s ≡ false → turn k s ≡ last e s' → Q (suc n) k s (record { machine = s'; steps = suc k; stop = ended e })
  pub at_next :
      (n k : ℕ) (s s' : S) → done s ≡ false → turn k s ≡ next s' → Q n (suc k) s' (run done turn n (suc k) s') → Q (suc n) k s (run done turn n (suc k) s')

module _ {S : Type 0} (done : S → Bool) (turn : ℕ → S → Turn S) (Q : ℕ → ℕ → S → Result S → Type 0) (passes : ByTurns done turn Q) where
  after_turn : (n k : ℕ) (s : S) (u : Turn S) → done s ≡ false → turn k s ≡ u → ((s' : S) → Q n (suc k) s' (run done turn n (suc k) s'))
      → Q (suc n) k s (after s k (run done turn n (suc k)) u)
  after_turn n k s (over e) d is on = passes.at_over n k s e d is
  after_turn n k s (last e s') d is on = passes.at_last n k s s' e d is
  after_turn n k s (next s') d is on = passes.at_next n k s s' d is (on s')

  pub by_run : (n k : ℕ) (s : S) → Q n k s (run done turn n k s)
  unfolding run
  by_run zero k s =
      by_test (λ (e : Ending). Q 0 k s (record { machine = s; steps = k; stop = ended e })) (done s) (passes.at_done 0 k s) (passes.at_spent k s)
  by_run (suc n) k s =
      by_test (λ (r : Result S). Q (suc n) k s r) (done s) (passes.at_done (suc n) k s) (λ e. after_turn n k s (turn k s) e refl (λ s'. by_run n (suc k) s'))

-- ---- one machine

module _ {S : Type 0} (done : S → Bool) (turn : ℕ → S → Turn S) where
  -- with n left of the budget and k steps made, at most k + n are made at its end
  pub run_within : (n k : ℕ) (s : S) → (run done turn n k s).steps ≤ k + n
  run_within =
      by_run done turn (λ n k s r. r.steps ≤ k + n)
      (record {
        at_done = λ n k s d. omega arith;
        at_spent = λ k s d. omega arith;
        at_over = λ n k s e d is. omega arith;
        at_last = λ n k s s' e d is. omega arith;
        at_next = λ n k s s' d is h. omega arith;
      })

  -- the steps made before it are counted
  pub run_counts : (n k : ℕ) (s : S) → k ≤ (run done turn n k s).steps
  run_counts =
      by_run done turn (λ n k s r. k ≤ r.steps)
      (record {
        at_done = λ n k s d. omega arith;
        at_spent = λ k s d. omega arith;
        at_over = λ n k s e d is. omega arith;
        at_last = λ n k s s' e d is. omega arith;
        at_next = λ n k s s' d is h. omega arith;
      })

-- of the machine that a turn's step leaves: P where the run goes on, Q where it stops
abbrev pub Keeps : {S : Type 0} → (S → Type 0) → (S → Type 0) → Turn S → Type 0
Keeps P Q (over e) = Unit {0}
Keeps P Q (last e s) = Q s
Keeps P Q (next s) = P s

module _ {S : Type 0} (done : S → Bool) (turn : ℕ → S → Turn S) (P : ℕ → S → Type 0) (Q : S → Type 0)
    (ends : (k : ℕ) (s : S) → P k s → Q s)
    (step : (k : ℕ) (s : S) → done s ≡ false → P k s → Keeps (P (suc k)) Q (turn k s)) where
  -- P k holds along a run after k steps, and so Q at its end
  pub run_keeps : (n k : ℕ) (s : S) → P k s → Q (run done turn n k s).machine
  run_keeps =
      by_run done turn (λ n k s r. P k s → Q r.machine)
      (record {
        at_done = λ n k s d h. ends k s h;
        at_spent = λ k s d h. ends k s h;
        at_over = λ n k s e d is h. ends k s h;
        at_last = λ n k s s' e d is h. subst (Keeps (P (suc k)) Q) is (step k s d h);
        at_next = λ n k s s' d is on h. on (subst (Keeps (P (suc k)) Q) is (step k s d h));
      })

-- what follows from what a turn keeps
pub keeps_so : {S : Type 0} {P P' : S → Type 0} → ((s : S) → P s → P' s) → (u : Turn S) → Keeps P P u → Keeps P' P' u
keeps_so so (over e) h = tt
keeps_so so (last e s) h = so s h
keeps_so so (next s) h = so s h

-- every turn keeps what always holds
pub keeps_true : {S : Type 0} (u : Turn S) → Keeps (λ (s : S). Unit {0}) (λ (s : S). Unit {0}) u
keeps_true (over e) = tt
keeps_true (last e s) = tt
keeps_true (next s) = tt

-- ---- two machines that step alike

-- a turn that stops or goes on in this way, at a machine in P
pub record Reaches {S : Type 0} (way : S → Turn S) (P : S → Type 0) (u : Turn S) : Type 0 where
  pub machine : S
  pub is : u ≡ way machine
  pub there : P machine

-- a turn that steps into Z
abbrev pub Into : {S : Type 0} → (S → Type 0) → Turn S → Type 0
Into Z (over e) = ⊥
Into Z (last e s) = Z s
Into Z (next s) = Z s

-- the turn u is like the turn v: it stops alike, or steps to a machine in R with v's; where v is marked "left", u steps into Z
abbrev pub TurnsAlike : {S T : Type 0} → (S → T → Type 0) → (S → Type 0) → Turn S → Turn T → Type 0
TurnsAlike R Z u (over (ended e)) = u ≡ over (ended e)
TurnsAlike R Z u (over left) = Into Z u
TurnsAlike R Z u (last e t) = Reaches (last e) (λ s. R s t) u
TurnsAlike R Z u (next t) = Reaches next (λ s. R s t) u

-- two runs that end in machines in R, after equally many steps and alike
pub record RunsAlike {S T : Type 0} (R : S → T → Type 0) (x : Result S) (y : Result T) : Type 0 where
  pub machines : R x.machine y.machine
  pub steps : x.steps ≡ y.steps
  pub stop : x.stop ≡ y.stop

-- unless y stops "left": then x ends in Z
abbrev pub AlikeWhere : {S T : Type 0} → (S → T → Type 0) → (S → Type 0) → Result S → Result T → Stop → Type 0
AlikeWhere R Z x y (ended e) = RunsAlike R x y
AlikeWhere R Z x y left = Z x.machine

abbrev pub AlikeUnless : {S T : Type 0} → (S → T → Type 0) → (S → Type 0) → Result S → Result T → Type 0
AlikeUnless R Z x y = AlikeWhere R Z x y y.stop

-- no turn steps into nowhere: such runs are alike
pub alike : {S T : Type 0} (R : S → T → Type 0) (x : Result S) (y : Result T) → AlikeUnless R (λ s. ⊥) x y → RunsAlike R x y
alike R x y h = go y.stop h
  where
    go : (stop : Stop) → AlikeWhere R (λ s. ⊥) x y stop → RunsAlike R x y
    go (ended e) a = a
    go left a = absurd a

module _ {S T : Type 0} (R : S → T → Type 0) (Z : S → Type 0) (doneS : S → Bool) (doneT : T → Bool) (turnS : ℕ → S → Turn S) (turnT : ℕ → T → Turn T)
    (same-done : (s : S) (t : T) → R s t → doneS s ≡ doneT t)
    (step : (k : ℕ) (s : S) (t : T) → doneT t ≡ false → R s t → TurnsAlike R Z (turnS k s) (turnT k t))
    (stays : (k : ℕ) (s : S) → doneS s ≡ false → Z s → Keeps Z Z (turnS k s)) where
  -- the first's run from each machine in R with t is like the run y of the second
  abbrev LikeAll : ℕ → ℕ → T → Result T → Type 0
  LikeAll n k t y = (s : S) → R s t → AlikeUnless R Z (run doneS turnS n k s) y

  -- a run whose turn steps into Z ends in it
  into_ends : (n k : ℕ) (s : S) (u : Turn S) → Into Z u → Z (after s k (run doneS turnS n (suc k)) u).machine
  into_ends n k s (over e) h = absurd h
  into_ends n k s (last e s') h = h
  into_ends n k s (next s') h = run_keeps doneS turnS (λ k. Z) Z (λ k s z. z) stays n (suc k) s' h

  over_alike : (n k : ℕ) (t : T) (e : Stop) → doneT t ≡ false → turnT k t ≡ over e → LikeAll (suc n) k t (record { machine = t; steps = k; stop = e })
  over_alike n k t (ended e) d is s h =
      let u : turnS k s ≡ over (ended e) = subst (TurnsAlike R Z (turnS k s)) is (step k s t d h) in
      rw (run_turn doneS turnS n k s (over (ended e)) (same-done s t h ∙ d) u) (record { machines = h; steps = refl; stop = refl })
  over_alike n k t left d is s h =
      rw (run_turn doneS turnS n k s (turnS k s) (same-done s t h ∙ d) refl) (into_ends n k s (turnS k s) (subst (TurnsAlike R Z (turnS k s)) is (step k s t d h)))

  -- the law: a relation that the turns of two machines keep is kept by their runs
  pub run_alike : (n k : ℕ) (s : S) (t : T) → R s t → AlikeUnless R Z (run doneS turnS n k s) (run doneT turnT n k t)
  run_alike n k s t h =
      by_run doneT turnT LikeAll
      (record {
        at_done = λ n k t d s h. rw (run_done doneS turnS n k s (same-done s t h ∙ d)) (record { machines = h; steps = refl; stop = refl });
        at_spent = λ k t d s h. rw (run_spent doneS turnS k s (same-done s t h ∙ d)) (record { machines = h; steps = refl; stop = refl });
        at_over = over_alike;
        at_last =
            λ n k t t' e d is s h.
            let u : Reaches (last e) (λ s'. R s' t') (turnS k s) = subst (TurnsAlike R Z (turnS k s)) is (step k s t d h) in
            rw (run_turn doneS turnS n k s (last e u.machine) (same-done s t h ∙ d) u.is) (record { machines = u.there; steps = refl; stop = refl });
        at_next =
            λ n k t t' d is on s h.
            let u : Reaches next (λ s'. R s' t') (turnS k s) = subst (TurnsAlike R Z (turnS k s)) is (step k s t d h) in
            rw (run_turn doneS turnS n k s (next u.machine) (same-done s t h ∙ d) u.is) (on u.machine u.there);
      }) n k t s h

-- ---- a machine that maps to another

-- a turn that does not stop a run in this way
abbrev pub Avoids : {S : Type 0} → (Stop → Bool) → Turn S → Type 0
Avoids way (over e) = way e ≡ false
Avoids way (last e s) = way (ended e) ≡ false
Avoids way (next s) = Unit {0}

-- a turn, mapped
abbrev pub turn_to : {S T : Type 0} → (S → T) → Turn S → Turn T
turn_to f (over e) = over e
turn_to f (last e s) = last e (f s)
turn_to f (next s) = next (f s)

-- a result, mapped
abbrev pub result_to : {S T : Type 0} → (S → T) → Result S → Result T
result_to f r = record { machine = f r.machine; steps = r.steps; stop = r.stop }

module _ {S T : Type 0} (f : S → T) (P : S → Type 0) where
  -- a machine in P, beside the one that it maps to
  abbrev Maps : T → S → Type 0
  Maps t s = P s × (t ≡ f s)

  turn_maps : (u : Turn S) (v : Turn T) → v ≡ turn_to f u → Avoids is_left u → Keeps P P u → TurnsAlike Maps (λ t. ⊥) v u
  turn_maps (over (ended e)) v is h kept = is
  turn_maps (over left) v is h kept = never (sym h)
  turn_maps (last e s) v is h kept = record { machine = f s; is = is; there = (kept, refl) }
  turn_maps (next s) v is h kept = record { machine = f s; is = is; there = (kept, refl) }

  module _ (doneS : S → Bool) (doneT : T → Bool) (turnS : ℕ → S → Turn S) (turnT : ℕ → T → Turn T)
      (same-done : (s : S) → P s → doneT (f s) ≡ doneS s)
      (step : (k : ℕ) (s : S) → doneS s ≡ false → P s
      → (turnT k (f s) ≡ turn_to f (turnS k s)) × Avoids is_left (turnS k s) × Keeps P P (turnS k s)) where
    step_maps : (k : ℕ) (t : T) (s : S) → doneS s ≡ false → Maps t s → TurnsAlike Maps (λ t. ⊥) (turnT k t) (turnS k s)
    step_maps k t s more (h, is) =
        let (maps, avoids, kept) = step k s more h in
        turn_maps (turnS k s) (turnT k t) (ap (turnT k) is ∙ maps) avoids kept

    pub run_maps : (n k : ℕ) (s : S) → P s → run doneT turnT n k (f s) ≡ result_to f (run doneS turnS n k s)
    run_maps n k s h =
        let a =
        alike Maps _ _
        (run_alike Maps (λ t. ⊥) doneT doneS turnT turnS (λ t s (g, is). ap doneT is ∙ same-done s g) step_maps (λ k t e z. absurd z) n k (f s) s (h, refl)) in
        λ i. record { machine = a.machines.1 i; steps = a.steps i; stop = a.stop i }

-- ---- a run that goes on where another stops

-- the result r of a run whose budget and steps at its start are `total` together; where it stops in this way, what `on` makes of the budget left and the steps
-- made
abbrev pub then_on : {S : Type 0} → (Stop → Bool) → (ℕ → ℕ → S → Result S) → ℕ → Result S → Result S
then_on way on total r = cond (way r.stop) (on (total - r.steps) r.steps r.machine) r

-- a machine that takes the same turns until the run stops, with m more of the budget
module _ {S : Type 0} (way : Stop → Bool) (done done' : S → Bool) (turn turn' : ℕ → S → Turn S) (P : S → Type 0) (m : ℕ) (on : ℕ → ℕ → S → Result S)
    (same : (k : ℕ) (s : S) → done s ≡ false → P s
    → (done' s ≡ false) × (turn' k s ≡ turn k s) × Avoids way (turn k s) × Keeps P P (turn k s))
    (where-done : (n k : ℕ) (s : S) → done s ≡ true → P s
    → run done' turn' (n + m) k s ≡ then_on way on (n + m + k) (record { machine = s; steps = k; stop = ended Done }))
    (where-spent : (k : ℕ) (s : S) → done s ≡ false → P s
    → run done' turn' m k s ≡ then_on way on (m + k) (record { machine = s; steps = k; stop = ended Spent })) where
  -- its run from a turn on
  turn_onward : (n k : ℕ) (s : S) (u : Turn S) → done s ≡ false → turn k s ≡ u → P s → run done' turn' (suc n + m) k s ≡ after s k (run done' turn' (n + m) (suc k)) u
  turn_onward n k s u d is h =
      let (more, alike, avoids, kept) = same k s d h in
      ap (λ (b : ℕ). run done' turn' b k s) (suc-add n m) ∙ run_turn done' turn' (n + m) k s u more (alike ∙ is)

  pub run_onward : (n k : ℕ) (s : S) → P s → run done' turn' (n + m) k s ≡ then_on way on (n + m + k) (run done turn n k s)
  run_onward =
      by_run done turn (λ n k s r. P s → run done' turn' (n + m) k s ≡ then_on way on (n + m + k) r)
      (record {
        at_done = where-done;
        at_spent = λ k s d h. rw (zero-add m) (where-spent k s d h);
        at_over = λ n k s e d is h. turn_onward n k s (over e) d is h ∙ rw (subst (Avoids way) is (same k s d h).2);
        at_last = λ n k s s' e d is h. turn_onward n k s (last e s') d is h ∙ rw (subst (Avoids way) is (same k s d h).2);
        at_next =
            λ n k s s' d is onward h.
            let total : n + m + suc k ≡ suc n + m + k = omega arith in
            turn_onward n k s (next s') d is h
            ∙ onward (subst (Keeps P P) is (same k s d h).3)
            ∙ ap (λ (b : ℕ). then_on way on b (run done turn n (suc k) s')) total;
      })

-- where a run is done, another goes on
module _ {S : Type 0} (done done' : S → Bool) (turn turn' : ℕ → S → Turn S) (P : S → Type 0) (on : ℕ → ℕ → S → Result S)
    (same : (k : ℕ) (s : S) → done s ≡ false → P s
    → (done' s ≡ false) × (turn' k s ≡ turn k s) × Avoids is_done (turn k s) × Keeps P P (turn k s))
    (goes : (n k : ℕ) (s : S) → done s ≡ true → P s → run done' turn' n k s ≡ on n k s) where
  pub run_then : (n k : ℕ) (s : S) → P s → run done' turn' n k s ≡ then_on is_done on (n + k) (run done turn n k s)
  run_then n k s h =
      rw (add-zero n) at
      (run_onward is_done done done' turn turn' P 0 on same
      (λ n k s d h.
      let left : n + k - k ≡ n = omega arith in
      rw (add-zero n) (goes n k s d h ∙ ap (λ (b : ℕ). on b k s) (sym left)))
      (λ k s d h. run_spent done' turn' k s (same k s d h).0) n k s h)

-- ---- a run in two parts

-- the budget is spent
abbrev pub is_spent : Stop → Bool
is_spent (ended Done) = false
is_spent (ended Spent) = true
is_spent (ended (Trap n)) = false
is_spent (ended (Refused n)) = false
is_spent left = false

-- a run that is spent goes on: `on` from its machine and its steps
abbrev pub going_on : {S : Type 0} → (ℕ → S → Result S) → Result S → Result S
going_on on r = cond (is_spent r.stop) (on r.steps r.machine) r

-- a run with budget n + m is the run with n and, if that is spent, the run with m from what it left
pub run_split : {S : Type 0} (done : S → Bool) (turn : ℕ → S → Turn S) → ((k : ℕ) (s : S) → Avoids is_spent (turn k s)) → (n m k : ℕ) (s : S)
    → run done turn (n + m) k s ≡ going_on (run done turn m) (run done turn n k s)
run_split done turn ends n m k s =
    run_onward is_spent done done turn turn (λ s. Unit {0}) m (λ b. run done turn m)
    (λ k s d h. (d, refl, ends k s, keeps_true (turn k s))) (λ n k s d h. run_done done turn (n + m) k s d) (λ k s d h. refl) n k s tt

-- a result with j steps made before it
abbrev pub later : {S : Type 0} → ℕ → Result S → Result S
later j r = record { machine = r.machine; steps = j + r.steps; stop = r.stop }

-- a machine that does not look at the steps made
pub run_later : {S : Type 0} (done : S → Bool) (turn : S → Turn S) (j n k : ℕ) (s : S) → run done (λ i. turn) n (j + k) s ≡ later j (run done (λ i. turn) n k s)
run_later done turn j =
    by_run done (λ i. turn) (λ n k s r. run done (λ i. turn) n (j + k) s ≡ later j r)
    (record {
      at_done = λ n k s d. run_done done (λ i. turn) n (j + k) s d;
      at_spent = λ k s d. run_spent done (λ i. turn) (j + k) s d;
      at_over = λ n k s e d is. run_turn done (λ i. turn) n (j + k) s (over e) d is;
      at_last = λ n k s s' e d is. run_turn done (λ i. turn) n (j + k) s (last e s') d is ∙ rw (add-suc j k);
      at_next =
          λ n k s s' d is on.
          run_turn done (λ i. turn) n (j + k) s (next s') d is ∙ ap (λ (i : ℕ). run done (λ i. turn) n i s') (sym (add-suc j k)) ∙ on;
    })
