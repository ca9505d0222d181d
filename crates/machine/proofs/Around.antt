-- The slots that refusal 7 accepts are exactly those of the loops around pc: both ways. Assumes nothing.
use Prim.Native.Nat.{ℕ, zero, suc, ◌≤◌, ◌<◌}
use mathlib.Core.Bool.{Bool, true, false, cond, not, ◌&&◌, ◌||◌, true≢false}
use mathlib.Core.Path.{◌≡◌, refl, sym, ap, ◌∙◌}
use mathlib.Core.List.{List}
use mathlib.Core.Logic.{⊎_elim}
use native.Mathlib.Nat.{eq-or-lt_of_le, le_of_suc-le-suc, le_step, not-suc-le-zero}
use native.Mathlib.Omega.{arith}
use lib.Dec.{eqb, ltb, leb}
use lib.ListN.{length, get_or}
use borrow.Author.Tests.{ltb-true, ltb-false, leb-true, eqb-true, lt-ltb, le-ltb, le-leb, eq-eqb}
use Rattle.integers.proofs.Whole.{by_test, both}
use Rattle.operations.specs.declared.operation.Operation.{Operation}
use Rattle.program.specs.Placement.{role_at, last_of}
use Rattle.state.specs.Accept.{is_around, around_in, stand_in, most_passes, is_slot, are_loops}
use Rattle.state.specs.declared.state.Loops.{Loops}
use Rattle.machine.proofs.Nested.{slot_start, passes_of, Passes, Nested}

-- operation d opens a loop around pc
abbrev Around : List Operation → ℕ → ℕ → Type 0
Around p pc d = (d < pc) × (pc ≤ last_of (role_at p d))

around_so : (p : List Operation) (pc d : ℕ) → is_around p pc d ≡ true → Around p pc d
around_so p pc d h =
    let (below, inside) = both (ltb d pc) (leb pc (last_of (role_at p d))) h in
    (ltb-true d pc below, leb-true pc (last_of (role_at p d)) inside)

so_around : (p : List Operation) (pc d : ℕ) → d < pc → pc ≤ last_of (role_at p d) → is_around p pc d ≡ true
so_around p pc d below inside = rw (lt-ltb d pc below, le-leb pc (last_of (role_at p d)) inside)

-- ---- accepted slots

module _ (p : List Operation) (pc : ℕ) (starts : List ℕ) where
  -- operation n, if it opens a loop around pc, stands in its slot
  abbrev here : ℕ → Bool
  here n = not (is_around p pc n) || eqb (get_or starts (around_in p pc n) 0) n

  stood : (n : ℕ) → is_around p pc n ≡ true → here n ≡ true → get_or starts (around_in p pc n) 0 ≡ n
  stood n a h = eqb-true (get_or starts (around_in p pc n) 0) n (rw a at h)

  -- every loop around pc has a slot
  stand_all : (n d : ℕ) → d < n → is_around p pc d ≡ true → stand_in p pc starts n ≡ true
      → (around_in p pc d < around_in p pc n) × (get_or starts (around_in p pc d) 0 ≡ d)
  stand_all zero d l a h = absurd (not-suc-le-zero l)
  stand_all (suc n) d l a h =
      let (before, now) = both (stand_in p pc starts n) (here n) h in
      ⊎_elim
      (λ (e : d ≡ n).
      let a' : is_around p pc n ≡ true = rw e at a in
      rw (e, a') (omega arith, stood n a' now))
      (λ k.
      let (less, is) = stand_all n d k a before in
      (by_test (λ (m : ℕ). around_in p pc d < m) (is_around p pc n) (λ e. omega arith) (λ e. omega arith), is))
      (eq-or-lt_of_le (le_of_suc-le-suc l))

  -- one operation more: what holds of the slots before it and of its own holds of all
  one_more : (P : ℕ → Type 0) (n : ℕ) → (is_around p pc n ≡ true → P (around_in p pc n)) → ((i : ℕ) → i < around_in p pc n → P i)
      → (i : ℕ) → i < around_in p pc (suc n) → P i
  one_more P n new old i = go (is_around p pc n) refl
    where
      go : (t : Bool) → is_around p pc n ≡ t → i < cond t (suc (around_in p pc n)) (around_in p pc n) → P i
      go true e l = ⊎_elim (λ (q : i ≡ around_in p pc n). rw q (new e)) (λ k. old i k) (eq-or-lt_of_le (le_of_suc-le-suc l))
      go false e l = old i l

  -- every slot in use holds a loop around pc, opened before n
  abbrev Holds : ℕ → ℕ → Type 0
  Holds n i = (is_around p pc (get_or starts i 0) ≡ true) × (get_or starts i 0 < n)

  stand_each : (n : ℕ) → stand_in p pc starts n ≡ true → (i : ℕ) → i < around_in p pc n → Holds n i
  stand_each zero h i l = absurd (not-suc-le-zero l)
  stand_each (suc n) h i l =
      let (before, now) = both (stand_in p pc starts n) (here n) h in
      one_more (Holds (suc n)) n
      (λ a. let is = stood n a now in rw is (a, omega arith))
      (λ j k. let (a, b) = stand_each n before j k in (a, le_step b)) i l

  -- and they stand in their order
  stand_order : (n : ℕ) → stand_in p pc starts n ≡ true → (j : ℕ) → j < around_in p pc n → (i : ℕ) → i < j → get_or starts i 0 < get_or starts j 0
  stand_order zero h j l = absurd (not-suc-le-zero l)
  stand_order (suc n) h j l =
      let (before, now) = both (stand_in p pc starts n) (here n) h in
      one_more (λ (j : ℕ). (i : ℕ) → i < j → get_or starts i 0 < get_or starts j 0) n
      (λ a i l. rw (stood n a now) (stand_each n before i l).1)
      (λ i k. stand_order n before i k) j l

-- a check of all four slots is one of each
each_slot : (l : Loops) → (is_slot l 0 && is_slot l 1 && is_slot l 2 && is_slot l 3) ≡ true → (i : ℕ) → i < 4 → is_slot l i ≡ true
each_slot l h i k =
    let (three, s3) = both (is_slot l 0 && is_slot l 1 && is_slot l 2) (is_slot l 3) h in
    let (two, s2) = both (is_slot l 0 && is_slot l 1) (is_slot l 2) three in
    let (s0, s1) = both (is_slot l 0) (is_slot l 1) two in
    pick i k s0 s1 s2 s3
  where
    pick : (i : ℕ) → i < 4 → is_slot l 0 ≡ true → is_slot l 1 ≡ true → is_slot l 2 ≡ true → is_slot l 3 ≡ true → is_slot l i ≡ true
    pick zero k s0 s1 s2 s3 = s0
    pick (suc zero) k s0 s1 s2 s3 = s1
    pick (suc (suc zero)) k s0 s1 s2 s3 = s2
    pick (suc (suc (suc zero))) k s0 s1 s2 s3 = s3
    pick (suc (suc (suc (suc i)))) k s0 s1 s2 s3 = absurd (omega arith)

-- a checked slot that is in use, and one that is not
slot_used : (l : Loops) (i : ℕ) → i < l.depth → is_slot l i ≡ true → Passes (passes_of l i)
slot_used l i k h =
    let (low, high) = both (leb 1 (passes_of l i)) (leb (passes_of l i) most_passes) (rw (lt-ltb i l.depth k) at h) in
    (leb-true 1 (passes_of l i) low, leb-true (passes_of l i) most_passes high)

slot_free : (l : Loops) (i : ℕ) → l.depth ≤ i → is_slot l i ≡ true → (slot_start l i ≡ 0) × (passes_of l i ≡ 0)
slot_free l i k h =
    let (start, passes) = both (eqb (slot_start l i) 0) (eqb (passes_of l i) 0) (rw (le-ltb i l.depth k) at h) in
    (eqb-true (slot_start l i) 0 start, eqb-true (passes_of l i) 0 passes)

-- loops that are accepted are the loops around pc
pub loops_nested : (p : List Operation) (pc : ℕ) (l : Loops) → length l.starts ≡ 4 → length l.passes ≡ 4 → are_loops p pc l ≡ true → Nested p pc l
unfolding are_loops
loops_nested p pc l long long' h =
    let (stood, slots) = both (leb l.depth 4 && eqb l.depth (around_in p pc pc) && stand_in p pc l.starts pc) _ h in
    let (counted, stand) = both (leb l.depth 4 && eqb l.depth (around_in p pc pc)) (stand_in p pc l.starts pc) stood in
    let (few, around) = both (leb l.depth 4) (eqb l.depth (around_in p pc pc)) counted in
    let most : l.depth ≤ 4 = leb-true l.depth 4 few in
    let same : l.depth ≡ around_in p pc pc = eqb-true _ _ around in
    let each : (i : ℕ) → i < l.depth → is_around p pc (slot_start l i) ≡ true =
    λ i k. (stand_each p pc l.starts pc stand i (omega arith)).0 in
    record {
      four = (long, long');
      few = most;
      begun = λ i k. (around_so p pc (slot_start l i) (each i k)).0;
      within = λ i k. (around_so p pc (slot_start l i) (each i k)).1;
      ordered = λ i j a b. stand_order p pc l.starts pc stand j (omega arith) i a;
      counted = λ i k. slot_used l i k (each_slot l slots i (omega arith));
      unused = λ i k f. slot_free l i k (each_slot l slots i f);
      all =
          λ d lo hi.
          let (less, is) = stand_all p pc l.starts pc d lo (so_around p pc d lo hi) stand in
          (around_in p pc d, omega arith, is);
    }

-- ---- and back

module _ (p : List Operation) (pc : ℕ) (l : Loops) (h : Nested p pc l) where
  -- of the active loops the first m are opened before n
  record Counts (n m : ℕ) : Type 0 where
    most : m ≤ l.depth
    before : (i : ℕ) → i < m → slot_start l i < n
    onward : (i : ℕ) → m ≤ i → i < l.depth → n ≤ slot_start l i
    stands : stand_in p pc l.starts n ≡ true

  -- a loop around pc at n is the next
  next_is : (n m : ℕ) → Counts n m → is_around p pc n ≡ true → (m < l.depth) × (slot_start l m ≡ n)
  next_is n m c a =
      let (lo, hi) = around_so p pc n a in
      let (i, used, is) = h.all n lo hi in
      let not-before : m ≤ i = go i used is (ltb i m) refl in
      ⊎_elim (λ (e : m ≡ i). rw e (used, is)) (λ k. absurd (omega (arith, h.ordered m i k used, c.onward m (omega arith) (omega arith)))) (eq-or-lt_of_le not-before)
    where
      go : (i : ℕ) → i < l.depth → slot_start l i ≡ n → (t : Bool) → ltb i m ≡ t → m ≤ i
      go i used is true e = absurd (omega (arith, c.before i (ltb-true i m e)))
      go i used is false e = ltb-false i m e

  count_one : (n : ℕ) (t : Bool) → is_around p pc n ≡ t → Counts n (around_in p pc n) → Counts (suc n) (cond t (suc (around_in p pc n)) (around_in p pc n))
  count_one n true e c =
      let m = around_in p pc n in
      let (used, is) = next_is n m c e in
      record {
        most = used;
        before =
            λ i k.
            ⊎_elim (λ (z : i ≡ m). omega (arith, ap (slot_start l) z)) (λ b. omega (arith, c.before i b)) (eq-or-lt_of_le (le_of_suc-le-suc k));
        onward = λ i k b. omega (arith, h.ordered m i k b);
        stands = rw (c.stands, e, eq-eqb (slot_start l m) n is);
      }
  count_one n false e c =
      let m = around_in p pc n in
      record {
        most = c.most;
        before = λ i k. le_step (c.before i k);
        onward =
            λ i k b.
            ⊎_elim
            (λ (z : n ≡ slot_start l i).
            absurd (true≢false (sym (so_around p pc (slot_start l i) (h.begun i b) (h.within i b)) ∙ ap (is_around p pc) (sym z) ∙ e)))
            (λ j. j) (eq-or-lt_of_le (c.onward i k b));
        stands = rw (c.stands, e);
      }

  counts : (n : ℕ) → Counts n (around_in p pc n)
  counts zero =
      record { most = omega arith; before = λ i k. absurd (not-suc-le-zero k); onward = λ i k b. omega arith; stands = refl }
  counts (suc n) = count_one n (is_around p pc n) refl (counts n)

  -- all of them are opened before pc
  all_counted : l.depth ≡ around_in p pc pc
  all_counted =
      let m = around_in p pc pc in
      let c = counts pc in
      ⊎_elim (λ z. sym z) (λ k. absurd (omega (arith, c.onward m (omega arith) k, h.begun m k))) (eq-or-lt_of_le c.most)

  slot_good : (i : ℕ) → i < 4 → is_slot l i ≡ true
  slot_good i f =
      by_test (λ (t : Bool). t ≡ true) (ltb i l.depth)
      (λ e.
      let (low, high) = h.counted i (ltb-true i l.depth e) in
      rw (le-leb 1 (passes_of l i) low, le-leb (passes_of l i) most_passes high))
      (λ e.
      let (start, passes) = h.unused i (ltb-false i l.depth e) f in
      rw (eq-eqb (slot_start l i) 0 start, eq-eqb (passes_of l i) 0 passes))

  -- the loops around pc are accepted
  pub nested_loops : are_loops p pc l ≡ true
  unfolding are_loops
  nested_loops =
      rw (
        le-leb l.depth 4 h.few,
        eq-eqb l.depth (around_in p pc pc) all_counted,
        (counts pc).stands,
        slot_good 0 (omega arith),
        slot_good 1 (omega arith),
        slot_good 2 (omega arith),
        slot_good 3 (omega arith),
      )
