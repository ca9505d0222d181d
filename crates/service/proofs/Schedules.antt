-- Bags as lent slices: serving them one after the other comes to their service, and what they make of the memory is sound. Assumes nothing.
use Prim.Native.Nat.{ℕ, zero, suc, ◌+◌, ◌*◌, ◌≤◌, ◌<◌}
use mathlib.Core.Bool.{true, false, cond, ◌&&◌}
use mathlib.Core.List.{List, [], ◌∷◌, ◌++◌, map, map-append}
use mathlib.Core.Path.{◌≡◌, refl, sym, ap, ◌∙◌}
use native.Mathlib.Nat.{le_refl, le_of_lt, suc-mul, mul-le-mul_right}
use native.Mathlib.Numerals.{add-one}
use native.Mathlib.Omega.{arith}
use borrow.Author.Tests.{leb-true, lt-ltb}
use lib.Dec.{ltb, leb}
use lib.ListN.{length, get_or, take, drop, set, length-append, length-drop, length-map, length-set}
use lib.Seq.{length-take-le}
use Rattle.integers.proofs.Whole.{both}
use Rattle.program.specs.Answer.{refusal_number}
use Rattle.program.specs.declared.answer.Refusal.{Refusal}
use Rattle.program.proofs.Answers.{refused_first}
use Rattle.program.specs.Bytes.{over}
use Rattle.program.proofs.Slices.{over_next}
use Rattle.state.specs.State.{restarted_state}
use Rattle.state.specs.Typed.{AreWords, Typed}
use Rattle.state.specs.declared.state.State.{State}
use Rattle.state.specs.declared.settings.Settings.{Settings}
use Rattle.machine.specs.Single.{call_refusal}
use Rattle.machine.proofs.Calls.{refused_some}
use Rattle.machine.proofs.Words.{take_words, drop_words, append_words}
use Rattle.endings.specs.Ending.{code_of}
use Rattle.runs.specs.Engine.{Engine}
use Rattle.runs.specs.Run.{Result}
use Rattle.engine.specs.Call.{result_of}
use Rattle.engine.specs.declared.outcome.Outcome.{Outcome}
use Rattle.service.specs.Service.{Bag, engine_before, first_before, Served, engine_after, call_served, call_service}
use Rattle.service.specs.Exact.{Sound, Every}
use Rattle.service.specs.Bags.{Schedule, filled, words_of, bag_at, first_bags, bags_of}
use Rattle.service.specs.Call.{is_enough, service_refusal, code_in, ServedUpTo, ServesBags}
use Rattle.service.proofs.Calls.{serves}

-- ---- one bag more

after_more : (us : List Served) (u : Served) (x : Engine) → engine_after x (us ++ (u ∷ [])) ≡ u.result.machine
after_more [] u x = refl
after_more (v ∷ us) u x = after_more us u v.result.machine

first_long : (d : Schedule) (n : ℕ) → length (first_bags d n) ≡ n
unfolding first_bags
first_long d zero = refl
first_long d (suc n) = length-append (first_bags d n) _ ∙ rw (first_long d n) (add-one n)

module _ (file : List ℕ) (settings : Settings) where
  -- two services one after the other are one
  pub service_append : (bags more : List Bag) (x : Engine)
      → call_service file settings x (bags ++ more)
      ≡ call_service file settings x bags ++ call_service file settings (engine_after x (call_service file settings x bags)) more
  unfolding call_service
  service_append [] more x = refl
  service_append (b ∷ bags) more x =
      let u = call_served file settings b x in
      ap (λ (us : List Served). u ∷ us) (service_append bags more u.result.machine)

  service_long : (bags : List Bag) (x : Engine) → length (call_service file settings x bags) ≡ length bags
  unfolding call_service
  service_long [] x = refl
  service_long (b ∷ bags) x = ap suc (service_long bags (call_served file settings b x).result.machine)

  module _ (x : Engine) (d : Schedule) (n : ℕ) where
    -- how the first n bags were served
    abbrev us : List Served
    us = call_service file settings x (first_bags d n)

    -- and the next
    abbrev u : Served
    u = call_served file settings (bag_at d n) (engine_after x us)

    next_service : call_service file settings x (first_bags d (n + 1)) ≡ us ++ (u ∷ [])
    unfolding first_bags call_service
    next_service = rw (add-one n) (service_append (first_bags d n) (bag_at d n ∷ []) x)

    -- a slice that holds a number for each bag holds one more
    column_more : (f : Served → ℕ) (old now : List ℕ) (v : ℕ) → now ≡ over (map f us) old → n < length old → v ≡ f u
        → set now n v ≡ over (map f (call_service file settings x (first_bags d (n + 1)))) old
    column_more f old now v is room e =
        let long : length (map f us) ≡ n = length-map us f ∙ service_long (first_bags d n) x ∙ first_long d n in
        ap (λ (l : List ℕ). set l n v) is
        ∙ over_next (map f us) old v n (sym long) room
        ∙ ap (λ (l : List ℕ). over l old) grown
      where
        grown : map f us ++ (v ∷ []) ≡ map f (call_service file settings x (first_bags d (n + 1)))
        grown = ap (λ (z : ℕ). map f us ++ (z ∷ [])) e ∙ sym (map-append f us (u ∷ [])) ∙ ap (map f) (sym next_service)

    pub served_more : (endings steps : List ℕ) (x' : Engine) (endings' steps' : List ℕ) → ServedUpTo file settings x d endings steps n x' endings' steps'
        → n < length endings → n < length steps → (r : Outcome) (after : List ℕ)
        → result_of r after ≡ (call_served file settings (bag_at d n) x').result
        → ServedUpTo file settings x d endings steps (n + 1) (record { state = r.state; memory = after }) (set endings' n (code_of r.ending))
        (set steps' n r.steps)
    served_more endings steps x' endings' steps' h room room' r after e =
        let is : result_of r after ≡ u.result = e ∙ ap (λ (z : Engine). (call_served file settings (bag_at d n) z).result) h.machine in
        record {
          machine = ap (λ (q : Result Engine). q.machine) is ∙ sym (after_more us u x) ∙ ap (engine_after x) (sym next_service);
          ends =
              column_more (λ v. code_in v.result.stop) endings endings' (code_of r.ending) h.ends room
              (ap (λ (q : Result Engine). code_in q.stop) is);
          counts = column_more (λ v. v.result.steps) steps steps' r.steps h.counts room' (ap (λ (q : Result Engine). q.steps) is);
        }

-- none is served yet
pub served_none : (file : List ℕ) (settings : Settings) (x : Engine) (d : Schedule) (endings steps : List ℕ)
    → ServedUpTo file settings x d endings steps 0 x endings steps
unfolding first_bags call_service
served_none file settings x d endings steps = record { machine = refl; ends = refl; counts = refl }

-- ---- what a bag makes of the memory

filled_long : (first : ℕ) (words memory : List ℕ) → first + length words ≤ length memory → length (filled first words memory) ≡ length memory
filled_long first words memory h =
    let before : length (take first memory) ≡ first = length-take-le first memory (omega arith) in
    simp (length-append, length-drop) (omega arith)

filled_words : (first : ℕ) (words memory : List ℕ) → AreWords words → AreWords memory → AreWords (filled first words memory)
filled_words first words memory h k =
    append_words (take first memory) _ (take_words first memory k)
    (append_words words _ h (drop_words (length words) (drop first memory) (drop_words first memory k)))

-- ---- slices that are long enough

-- what `is_enough` asks
pub record Enough (d : Schedule) (memory endings steps : ℕ) : Type 0 where
  pub inside : d.window.first.0 + d.window.size ≤ memory
  pub restarts : length d.budgets ≤ length d.restarts
  pub words : length d.budgets * d.window.size ≤ length d.words
  pub ends : length d.budgets ≤ endings
  pub counts : length d.budgets ≤ steps

pub enough_so : (d : Schedule) (memory endings steps : ℕ) → is_enough d memory endings steps ≡ true → Enough d memory endings steps
unfolding is_enough
enough_so d memory endings steps h =
    let bags = length d.budgets in
    let inside = leb (d.window.first.0 + d.window.size) memory in
    let restarts = leb bags (length d.restarts) in
    let words = leb (bags * d.window.size) (length d.words) in
    let (four, e) = both (inside && restarts && words && leb bags endings) (leb bags steps) h in
    let (three, dd) = both (inside && restarts && words) (leb bags endings) four in
    let (two, c) = both (inside && restarts) words three in
    let (a, b) = both inside restarts two in
    record { inside = leb-true _ _ a; restarts = leb-true _ _ b; words = leb-true _ _ c; ends = leb-true _ _ dd; counts = leb-true _ _ e }

module _ (d : Schedule) (memory endings steps : ℕ) (h : Enough d memory endings steps) where
  -- a bag's words are there
  pub words_there : (i : ℕ) → i < length d.budgets → i * d.window.size + d.window.size ≤ length d.words
  words_there i below =
      let most : suc i * d.window.size ≤ length d.budgets * d.window.size = mul-le-mul_right d.window.size below in
      let is : suc i * d.window.size ≡ i * d.window.size + d.window.size = suc-mul i d.window.size in
      omega (arith, h.words)

  pub words_long : (i : ℕ) → i < length d.budgets → length (words_of d i) ≡ d.window.size
  words_long i below =
      let there : i * d.window.size + d.window.size ≤ length d.words = words_there i below in
      length-take-le d.window.size (drop (i * d.window.size) d.words) (simp length-drop (omega arith))

  bag_sound : AreWords d.words → (i : ℕ) → i < length d.budgets → Sound memory (bag_at d i)
  bag_sound ok i below =
      let fits : d.window.first.0 + length (words_of d i) ≤ memory = rw (words_long i below) h.inside in
      record {
        long = λ l e. filled_long d.window.first.0 (words_of d i) l (rw e fits) ∙ e;
        words =
            λ l e k.
            filled_words d.window.first.0 (words_of d i) l
            (take_words d.window.size _ (drop_words (i * d.window.size) d.words ok)) k;
      }

  -- every one of them is sound
  pub bags_sound : AreWords d.words → (n : ℕ) → n ≤ length d.budgets → Every (Sound memory) (first_bags d n)
  unfolding first_bags
  bags_sound ok zero most = tt
  bags_sound ok (suc n) most = every_more (first_bags d n) (bag_at d n) (bags_sound ok n (le_of_lt most)) (bag_sound ok n most)
    where
      every_more : (bags : List Bag) (b : Bag) → Every (Sound memory) bags → Sound memory b → Every (Sound memory) (bags ++ (b ∷ []))
      every_more [] b here last = (last, tt)
      every_more (c ∷ bags) b (first, rest) last = (first, every_more bags b rest last)

-- ---- the loop over the bags

-- what it keeps: the first i bags are served, and the lent slices are as long as they were
pub record Along (file : List ℕ) (settings : Settings) (x : Engine) (d : Schedule) (endings steps : List ℕ) (i : ℕ)
    (x' : Engine) (endings' steps' : List ℕ) : Type 0 where
  pub most : i ≤ length d.budgets
  pub served : ServedUpTo file settings x d endings steps i x' endings' steps'
  pub memory : length x'.memory ≡ length x.memory
  pub ends : length endings' ≡ length endings
  pub counts : length steps' ≡ length steps

pub along_none : (file : List ℕ) (settings : Settings) (x : Engine) (d : Schedule) (endings steps : List ℕ)
    → Along file settings x d endings steps 0 x endings steps
along_none file settings x d endings steps =
    record { most = omega arith; served = served_none file settings x d endings steps; memory = refl; ends = refl; counts = refl }

pub along_more : (file : List ℕ) (settings : Settings) (x : Engine) (d : Schedule) (endings steps : List ℕ) (i : ℕ) (x' : Engine) (endings' steps' : List ℕ)
    → Along file settings x d endings steps i x' endings' steps' → i < length d.budgets
    → Enough d (length x.memory) (length endings) (length steps) → (r : Outcome) (after : List ℕ)
    → result_of r after ≡ (call_served file settings (bag_at d i) x').result → length after ≡ length x'.memory
    → Along file settings x d endings steps (i + 1) (record { state = r.state; memory = after }) (set endings' i (code_of r.ending))
    (set steps' i r.steps)
along_more file settings x d endings steps i x' endings' steps' h below enough r after is long =
    record {
      most = omega arith;
      served =
          served_more file settings x d i endings steps x' endings' steps' h.served (omega (arith, enough.ends)) (omega (arith, enough.counts)) r after is;
      memory = long ∙ h.memory;
      ends = length-set endings' i _ ∙ h.ends;
      counts = length-set steps' i _ ∙ h.counts;
    }

-- ---- the first bag

-- a bag more does not change which is the first
first_stays : (bags : List Bag) (b : Bag) (x : Engine) → 0 < length bags → first_before (bags ++ (b ∷ [])) x ≡ first_before bags x
first_stays [] b x some = absurd (omega arith)
first_stays (c ∷ bags) b x some = refl

first_bag : (d : Schedule) (n : ℕ) (x : Engine) → first_before (first_bags d (suc n)) x ≡ engine_before (bag_at d 0) x
unfolding first_bags
first_bag d zero x = refl
first_bag d (suc n) x =
    first_stays (first_bags d (suc n)) (bag_at d (suc n)) x (rw (first_long d (suc n)) (omega arith)) ∙ first_bag d n x

-- the state that the first call is made with
pub first_state : (d : Schedule) (x : Engine)
    → (first_before (bags_of d) x).state ≡ cond (ltb 0 (length d.budgets) && get_or d.restarts 0 false) (restarted_state x.state) x.state
unfolding first_bags
first_state d x = go (length d.budgets)
  where
    go : (n : ℕ) → (first_before (first_bags d n) x).state ≡ cond (ltb 0 n && get_or d.restarts 0 false) (restarted_state x.state) x.state
    go zero = refl
    go (suc n) = ap (λ (z : Engine). z.state) (first_bag d n x) ∙ rw (lt-ltb 0 (suc n) (omega arith))

-- ---- the call

-- the first call is made with state s
module _ (file : List ℕ) (settings : Settings) (x : Engine) (d : Schedule) (endings steps : List ℕ) (s : State)
    (first : s ≡ cond (ltb 0 (length d.budgets) && get_or d.restarts 0 false) (restarted_state x.state) x.state) where
  first_refusal : call_refusal file settings s (length x.memory) ≡ call_refusal file settings (first_before (bags_of d) x).state (length x.memory)
  first_refusal = ap (λ (z : State). call_refusal file settings z (length x.memory)) (first ∙ sym (first_state d x))

  refused_as : (n : ℕ) → n ≡ service_refusal file settings x d (length endings) (length steps) → (n ≡ 0 → ⊥)
      → ServesBags file settings x d endings steps n x endings steps
  refused_as zero e h = absurd (h refl)
  refused_as (suc n) e h =
      record { refused = e; served = served_none file settings x d endings steps; serves = λ z. absurd (h z) }

  -- by the first call's refusal
  pub service_refused : (r : Refusal) → refusal_number r ≡ call_refusal file settings s (length x.memory)
      → ServesBags file settings x d endings steps (refusal_number r) x endings steps
  unfolding service_refusal
  service_refused r e = refused_as (refusal_number r) (refused_first r _ _ (e ∙ first_refusal)) (refused_some r)

  module _ (none : call_refusal file settings s (length x.memory) ≡ 0) where
    accepted : call_refusal file settings (first_before (bags_of d) x).state (length x.memory) ≡ 0
    accepted = sym first_refusal ∙ none

    -- by a slice that is too short
    pub service_short : is_enough d (length x.memory) (length endings) (length steps) ≡ false → ServesBags file settings x d endings steps 8 x endings steps
    unfolding service_refusal
    service_short short = refused_as 8 (rw (accepted, short)) (λ e. absurd (omega (arith, e)))

    pub service_served : is_enough d (length x.memory) (length endings) (length steps) ≡ true → Typed x.state.core → AreWords x.memory
        → AreWords d.words → (x' : Engine) (endings' steps' : List ℕ)
        → ServedUpTo file settings x d endings steps (length d.budgets) x' endings' steps' → ServesBags file settings x d endings steps 0 x' endings' steps'
    unfolding service_refusal
    service_served enough typed ram ok x' endings' steps' h =
        record {
          refused = rw (accepted, enough);
          served = h;
          serves =
              λ z.
              serves file settings x (bags_of d) accepted typed ram
              (bags_sound d (length x.memory) (length endings) (length steps) (enough_so d _ _ _ enough) ok (length d.budgets) (le_refl (length d.budgets)));
        }
