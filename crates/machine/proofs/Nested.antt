-- The active loops are exactly the loops around pc: what the order of execution keeps of them in a placed program. Assumes nothing.
use Prim.Native.Nat.{ℕ, zero, suc, ◌+◌, ◌-◌, ◌≤◌, ◌<◌}
use mathlib.Core.Bool.{true, false, true≢false}
use mathlib.Core.List.{List, [], ◌∷◌}
use mathlib.Core.Logic.{⊎_elim}
use mathlib.Core.Path.{◌≡◌, refl, sym, ap, ◌∙◌}
use native.Mathlib.Nat.{eq-or-lt_of_le}
use native.Mathlib.Omega.{arith}
use lib.ListN.{length, get_or, set, length-set}
use lib.Seq.{get_or-set_same, get_or-set_other}
use Rattle.operations.specs.declared.operation.Operation.{Operation}
use Rattle.program.specs.Placement.{role_at, is_repeat, last_of, is_placed}
use Rattle.program.specs.declared.placement.Role.TheVariants.{Repeats, Loops as Looped}
use Rattle.state.specs.Accept.{most_passes}
use Rattle.state.specs.declared.state.Loops.{Loops}
use Rattle.machine.specs.Loops.{inner_start, pushed, with_passes, popped}
use Rattle.program.proofs.Placed.{LoopPlaced, lasting, loop_placed}

-- DO's number of loop i
abbrev pub slot_start : Loops → ℕ → ℕ
slot_start l i = get_or l.starts i 0

-- its passes left
abbrev pub passes_of : Loops → ℕ → ℕ
passes_of l i = get_or l.passes i 0

-- and its last operation
abbrev pub last_in : List Operation → Loops → ℕ → ℕ
last_in p l i = last_of (role_at p (slot_start l i))

-- so many passes may be left
abbrev pub Passes : ℕ → Type 0
Passes n = (1 ≤ n) × (n ≤ most_passes)

-- the active loops are exactly the loops around pc, an outer one before an inner one, with passes left; a slot that is not in use is zero
pub record Nested (p : List Operation) (pc : ℕ) (l : Loops) : Type 0 where
  pub four : (length l.starts ≡ 4) × (length l.passes ≡ 4)
  pub few : l.depth ≤ 4
  pub begun : (i : ℕ) → i < l.depth → slot_start l i < pc
  pub within : (i : ℕ) → i < l.depth → pc ≤ last_in p l i
  pub ordered : (i j : ℕ) → i < j → j < l.depth → slot_start l i < slot_start l j
  pub counted : (i : ℕ) → i < l.depth → Passes (passes_of l i)
  pub unused : (i : ℕ) → l.depth ≤ i → i < 4 → (slot_start l i ≡ 0) × (passes_of l i ≡ 0)
  pub all : (d : ℕ) → d < pc → pc ≤ last_of (role_at p d) → (i : ℕ) × (i < l.depth) × (slot_start l i ≡ d)

-- a slot that is set to zero is zero, also past the end
zeroed : (l : List ℕ) (i : ℕ) → get_or (set l i 0) i 0 ≡ 0
zeroed [] i = refl
zeroed (x ∷ l) zero = refl
zeroed (x ∷ l) (suc i) = zeroed l i

module _ (p : List Operation) (placed : is_placed p ≡ true) (pc : ℕ) (l : Loops) (at : pc ≤ length p) (h : Nested p pc l) where
  -- an active loop's DO is one that stands where it may
  active_loop : (i : ℕ) → i < l.depth → role_at p (slot_start l i) ≡ Looped (last_in p l i)
  active_loop i k = lasting (role_at p (slot_start l i)) (omega (arith, h.begun i k, h.within i k))

  active_placed : (i : ℕ) → i < l.depth → LoopPlaced p (slot_start l i) (last_in p l i)
  active_placed i k = loop_placed p placed (slot_start l i) (last_in p l i) (omega (arith, h.begun i k)) (active_loop i k)

  -- the innermost loop's DO is no REPEAT
  pub inner_loop : 0 < l.depth → is_repeat (role_at p (inner_start l)) ≡ false
  inner_loop some = ap is_repeat (active_loop (l.depth - 1) (omega arith))

  -- what stands inside an active loop ends before it
  inner_last : (i k : ℕ) → i < l.depth → slot_start l i < k → k ≤ pc → last_of (role_at p k) < last_in p l i
  inner_last i k a lo hi = (active_placed i a).inner k lo (omega (arith, h.within i a))

  -- a loop around the innermost DO + 1 is around pc
  outer_around : 0 < l.depth → (d : ℕ) → d < inner_start l → inner_start l + 1 ≤ last_of (role_at p d) → pc ≤ last_of (role_at p d)
  outer_around some d lo hi =
      let inner = l.depth - 1 in
      let last : inner < l.depth = omega arith in
      let before : slot_start l inner < pc = h.begun inner last in
      let some-last : 0 < last_of (role_at p d) = omega arith in
      let q = loop_placed p placed d (last_of (role_at p d)) (omega arith) (lasting (role_at p d) some-last) in
      omega (arith, h.within inner last, q.inner (slot_start l inner) lo (omega arith))

  -- a REPEAT at pc is no active loop's last
  pub repeat_inside : role_at p pc ≡ Repeats → (i : ℕ) → i < l.depth → pc < last_in p l i
  repeat_inside e i k =
      ⊎_elim
      (λ (z : pc ≡ last_in p l i).
      absurd (true≢false (sym (ap is_repeat e) ∙ ap (λ (j : ℕ). is_repeat (role_at p j)) z ∙ (active_placed i k).last)))
      (λ m. m) (eq-or-lt_of_le (h.within i k))

  -- nor is a DO at pc
  do_inside : pc < length p → role_at p pc ≡ Looped (last_of (role_at p pc)) → (i : ℕ) → i < l.depth → pc < last_in p l i
  do_inside m e i k =
      omega (arith, (loop_placed p placed pc (last_of (role_at p pc)) m e).room, inner_last i pc k (h.begun i k) (omega arith))

  -- nor is any operation that is not the innermost's last
  pub plain_inside : (0 < l.depth → pc ≡ last_in p l (l.depth - 1) → ⊥) → (i : ℕ) → i < l.depth → pc < last_in p l i
  plain_inside other i k =
      let inner = l.depth - 1 in
      let some : 0 < l.depth = omega arith in
      let last : inner < l.depth = omega arith in
      let before : pc < last_in p l inner = ⊎_elim (λ z. absurd (other some z)) (λ m. m) (eq-or-lt_of_le (h.within inner last)) in
      ⊎_elim
      (λ (z : suc i ≡ l.depth).
      let same : i ≡ inner = omega arith in
      rw same before)
      (λ more. omega (arith, before, inner_last i (slot_start l inner) k (h.ordered i inner (omega arith) last) (omega (arith, h.begun inner last))))
      (eq-or-lt_of_le k)

  -- ---- what keeps it

  -- a loop around pc + 1 is around pc, where no DO stands at pc
  around_before : last_of (role_at p pc) ≡ 0 → (d : ℕ) → d < pc + 1 → pc + 1 ≤ last_of (role_at p d) → d < pc
  around_before plain d lo hi =
      let most : d ≤ pc = omega arith in
      ⊎_elim (λ (e : d ≡ pc). absurd (omega (arith, ap (λ (j : ℕ). last_of (role_at p j)) e))) (λ k. k) (eq-or-lt_of_le most)

  pub nested_next : last_of (role_at p pc) ≡ 0 → ((i : ℕ) → i < l.depth → pc < last_in p l i) → Nested p (pc + 1) l
  nested_next plain on =
      record {
        four = h.four;
        few = h.few;
        begun = λ i k. omega (arith, h.begun i k);
        within = λ i k. omega (arith, on i k);
        ordered = h.ordered;
        counted = h.counted;
        unused = h.unused;
        all = λ d lo hi. h.all d (around_before plain d lo hi) (omega arith);
      }

  -- back to the innermost DO + 1
  pub nested_back : 0 < l.depth → Nested p (inner_start l + 1) l
  nested_back some =
      let inner = l.depth - 1 in
      let last : inner < l.depth = omega arith in
      record {
        four = h.four;
        few = h.few;
        begun =
            λ i k.
            ⊎_elim
            (λ (z : suc i ≡ l.depth).
            let same : i ≡ inner = omega arith in
            rw same (omega arith))
            (λ more. omega (arith, h.ordered i inner (omega arith) last)) (eq-or-lt_of_le k);
        within = λ i k. omega (arith, h.begun inner last, h.within i k);
        ordered = h.ordered;
        counted = h.counted;
        unused = h.unused;
        all =
            λ d lo hi.
            let most : d ≤ slot_start l inner = omega arith in
            ⊎_elim (λ e. (inner, last, sym e))
            (λ k. h.all d (omega (arith, h.begun inner last)) (outer_around some d k hi)) (eq-or-lt_of_le most);
      }

  pub nested_passes : (n : ℕ) → Passes n → 0 < l.depth → Nested p pc (with_passes l n)
  unfolding with_passes
  nested_passes n good some =
      let long : length l.passes ≡ 4 = h.four.1 in
      let most : l.depth ≤ 4 = h.few in
      record {
        four = (h.four.0, length-set l.passes (l.depth - 1) n ∙ h.four.1);
        few = h.few;
        begun = h.begun;
        within = h.within;
        ordered = h.ordered;
        counted =
            λ i k.
            let near : i ≤ l.depth - 1 = omega arith in
            ⊎_elim (λ (e : i ≡ l.depth - 1). rw (e, get_or-set_same l.passes (l.depth - 1) n 0 (omega arith)) good)
            (λ j. rw (get_or-set_other l.passes (l.depth - 1) i n 0 (λ e. omega arith)) (h.counted i k)) (eq-or-lt_of_le near);
        unused =
            λ i k m.
            let (s, t) = h.unused i k m in
            (s, get_or-set_other l.passes (l.depth - 1) i n 0 (λ e. omega arith) ∙ t);
        all = h.all;
      }

  -- a loop begins
  module _ (n : ℕ) (good : Passes n) (free : l.depth < 4) where
    abbrev more : Loops
    more = pushed l pc n

    pushed_other : (i : ℕ) → (i ≡ l.depth → ⊥) → (slot_start more i ≡ slot_start l i) × (passes_of more i ≡ passes_of l i)
    unfolding pushed
    pushed_other i e = (get_or-set_other l.starts l.depth i pc 0 e, get_or-set_other l.passes l.depth i n 0 e)

    pushed_same : (slot_start more l.depth ≡ pc) × (passes_of more l.depth ≡ n)
    unfolding pushed
    pushed_same =
        let (a, b) = h.four in
        (get_or-set_same l.starts l.depth pc 0 (omega arith), get_or-set_same l.passes l.depth n 0 (omega arith))

    -- a slot in use is the new one or an old one
    pushed_slot : (P : ℕ → ℕ → Type 0) → P pc n → (i : ℕ) → (i < l.depth → P (slot_start l i) (passes_of l i)) → i < more.depth
        → P (slot_start more i) (passes_of more i)
    unfolding pushed
    pushed_slot P new i old k =
        let most : i ≤ l.depth = omega arith in
        ⊎_elim (λ (z : i ≡ l.depth). rw (z, pushed_same.0, pushed_same.1) new)
        (λ m.
        let (a, b) = pushed_other i (λ e. omega arith) in
        rw (a, b) (old m))
        (eq-or-lt_of_le most)

    pub nested_pushed : pc < length p → role_at p pc ≡ Looped (last_of (role_at p pc)) → Nested p (pc + 1) more
    unfolding pushed
    nested_pushed m e =
        record {
          four = (length-set l.starts l.depth pc ∙ h.four.0, length-set l.passes l.depth n ∙ h.four.1);
          few = omega arith;
          begun = λ i k. pushed_slot (λ s t. s < pc + 1) (omega arith) i (λ a. omega (arith, h.begun i a)) k;
          within =
              λ i k.
              pushed_slot (λ s t. pc + 1 ≤ last_of (role_at p s)) (omega (arith, (loop_placed p placed pc (last_of (role_at p pc)) m e).room)) i
              (λ a. omega (arith, do_inside m e i a)) k;
          ordered =
              λ i j a b.
              let old : slot_start more i ≡ slot_start l i = (pushed_other i (λ z. omega (arith, b))).0 in
              rw old
              (pushed_slot (λ s t. slot_start l i < s) (h.begun i (omega (arith, b))) j (λ k. h.ordered i j a k) b);
          counted = λ i k. pushed_slot (λ s t. Passes t) good i (h.counted i) k;
          unused =
              λ i k f.
              let (s, t) = h.unused i (omega (arith, k)) f in
              let (s', t') = pushed_other i (λ z. omega (arith, k)) in
              (s' ∙ s, t' ∙ t);
          all =
              λ d lo hi.
              let most : d ≤ pc = omega arith in
              ⊎_elim (λ z. (l.depth, omega arith, pushed_same.0 ∙ sym z))
              (λ k.
              let (i, a, q) = h.all d k (omega arith) in
              (i, omega arith, (pushed_other i (λ z. omega arith)).0 ∙ q))
              (eq-or-lt_of_le most);
        }

  -- the innermost loop ends
  module _ (some : 0 < l.depth) where
    abbrev fewer : Loops
    fewer = popped l

    popped_other : (i : ℕ) → (i ≡ l.depth - 1 → ⊥) → (slot_start fewer i ≡ slot_start l i) × (passes_of fewer i ≡ passes_of l i)
    unfolding popped
    popped_other i e = (get_or-set_other l.starts (l.depth - 1) i 0 0 e, get_or-set_other l.passes (l.depth - 1) i 0 0 e)

    pub nested_popped : last_of (role_at p pc) ≡ 0 → pc ≡ last_in p l (l.depth - 1) → Nested p (pc + 1) fewer
    unfolding popped
    nested_popped plain e =
        let inner = l.depth - 1 in
        let last : inner < l.depth = omega arith in
        let most : l.depth ≤ 4 = h.few in
        record {
          four = (length-set l.starts inner 0 ∙ h.four.0, length-set l.passes inner 0 ∙ h.four.1);
          few = omega arith;
          begun = λ i k. omega (arith, (popped_other i (λ z. omega arith)).0, h.begun i (omega arith));
          within =
              λ i k.
              rw (popped_other i (λ z. omega arith)).0
              (omega (arith, inner_last i (slot_start l inner) (omega arith) (h.ordered i inner (omega arith) last) (omega (arith, h.begun inner last))));
          ordered =
              λ i j a b.
              omega (arith, (popped_other i (λ z. omega arith)).0, (popped_other j (λ z. omega arith)).0, h.ordered i j a (omega arith));
          counted = λ i k. rw (popped_other i (λ z. omega arith)).1 (h.counted i (omega arith));
          unused =
              λ i k f.
              ⊎_elim
              (λ (z : inner ≡ i). (rw (← z) (zeroed l.starts inner), rw (← z) (zeroed l.passes inner)))
              (λ z.
              let (s, t) = h.unused i (omega arith) f in
              let (s', t') = popped_other i (λ y. omega arith) in
              (s' ∙ s, t' ∙ t))
              (eq-or-lt_of_le k);
          all =
              λ d lo hi.
              let (i, a, q) = h.all d (around_before plain d lo hi) (omega arith) in
              let most' : i ≤ inner = omega arith in
              ⊎_elim (λ (z : i ≡ inner). absurd (omega (arith, e, ap (λ (j : ℕ). last_of (role_at p j)) (ap (slot_start l) (sym z) ∙ q))))
              (λ k. (i, k, (popped_other i (λ y. omega arith)).0 ∙ q)) (eq-or-lt_of_le most');
        }
