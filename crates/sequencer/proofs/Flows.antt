-- Repeat left, loops and pc, by the last operations that are kept beside the loops. Assumes nothing.
use Prim.Native.Nat.{ℕ, zero, suc, ◌+◌, ◌-◌, ◌≤◌, ◌<◌, min}
use mathlib.Core.Path.{◌≡◌, refl, sym, ◌∙◌}
use mathlib.Core.Bool.{Bool, true, false, cond, ◌&&◌}
use mathlib.Core.List.{List}
use mathlib.Core.Logic.{⊎_elim}
use native.Mathlib.Omega.{arith}
use native.Mathlib.Nat.{eq-or-lt_of_le}
use borrow.Author.Tests.{eq-eqb, ne_eqb, lt-ltb, le-ltb}
use lib.Dec.{eqb, ltb}
use lib.IntN.{ℤ}
use lib.ListN.{length, get_or, set}
use lib.Seq.{get_or-set_same, get_or-set_other}
use Rattle.operations.specs.declared.operation.Operation.{Operation}
use Rattle.program.specs.Placement.{role_at, last_of}
use Rattle.machine.specs.Control.{fallen, advanced, is_near_last, ended_early}
use Rattle.machine.specs.Loops.{with_passes, popped}
use Rattle.sequencer.specs.Lent.{lent_core}
use Rattle.sequencer.specs.Standing.{last_in, Lasts, Moves}
use Rattle.sequencer.specs.declared.flow.Flow.{Flow}
use Rattle.sequencer.specs.declared.loops.ActiveLoops.{ActiveLoops}

-- ---- the last operations kept

module _ (p : List Operation) (starts : List ℕ) where
  -- slots from i on are none of i loops
  last_other : (i j start : ℕ) → i ≤ j → last_in p (set starts j start) i ≡ last_in p starts i
  last_other zero j start l = refl
  last_other (suc i) j start l = rw (get_or-set_other starts j (suc i - 1) start 0 (λ e. omega arith))

  -- the loop that begins in slot `depth`
  last_begun : (depth pc : ℕ) → depth < length starts → last_in p (set starts depth pc) (depth + 1) ≡ last_of (role_at p pc)
  last_begun depth pc slot =
      let some : 0 < depth + 1 = omega arith in
      let back : depth + 1 - 1 ≡ depth = omega arith in
      rw (lt-ltb 0 (depth + 1) some, back, get_or-set_same starts depth pc 0 slot)

  last_some : (depth : ℕ) → 0 < depth → last_in p starts depth ≡ last_of (role_at p (get_or starts (depth - 1) 0))
  last_some depth some = rw (lt-ltb 0 depth some)

module _ (p : List Operation) (before after : ActiveLoops) where
  pub lasts_begun : length before.starts ≡ 4 → length before.lasts ≡ 5 → (depth pc to : ℕ) → depth < 4 → last_of (role_at p pc) ≡ to → after.starts ≡ set before.starts depth pc → after.lasts ≡ set before.lasts (depth + 1) to
      → Lasts p before depth → Lasts p after (depth + 1)
  lasts_begun four five depth pc to few named starts lasts kept =
      let slot : depth < length before.starts = omega (arith, four) in
      let end : depth + 1 < length before.lasts = omega (arith, five) in
      record {
        each = λ i l.
            rw (starts, lasts)
            (⊎_elim
            (λ e. rw e (get_or-set_same before.lasts (depth + 1) to 0 end ∙ sym (last_begun p before.starts depth pc slot ∙ named)))
            (λ k.
            get_or-set_other before.lasts (depth + 1) i to 0 (λ e. omega arith) ∙ kept.each i (omega arith)
            ∙ sym (last_other p before.starts i depth pc (omega arith)))
            (eq-or-lt_of_le l));
      }

  pub lasts_ended : (depth : ℕ) → after.starts ≡ set before.starts (depth - 1) 0 → after.lasts ≡ before.lasts → Lasts p before depth → Lasts p after (depth - 1)
  lasts_ended depth starts lasts kept =
      record { each = λ i l. rw (starts, lasts) (kept.each i (omega arith) ∙ sym (last_other p before.starts i (depth - 1) 0 l)) }

  pub lasts_kept : (depth : ℕ) → after.starts ≡ before.starts → after.lasts ≡ before.lasts → Lasts p before depth → Lasts p after depth
  lasts_kept depth starts lasts kept = record { each = λ i l. rw (starts, lasts) (kept.each i l) }

-- at its last operation there is a loop
pub some_loop : (loops : ActiveLoops) (pc depth : ℕ) → pc ≡ get_or loops.lasts depth 0 → pc < 65536 → 0 < depth
some_loop loops pc zero e l = absurd (omega (arith, e, loops.outer))
some_loop loops pc (suc depth) e l = omega arith

module _ (p : List Operation) (f : Flow) (before after : ActiveLoops) (kept : Lasts p before f.depth) (lasts : after.lasts ≡ before.lasts) where
  abbrev more : ℕ
  more = get_or before.passes (f.depth - 1) 0

  abbrev last_one : ℕ
  last_one = last_of (role_at p (get_or before.starts (f.depth - 1) 0))

  -- ---- another pass, or the loop's end

  pub another : (r : Flow) → 1 < more → after.starts ≡ before.starts → after.passes ≡ set before.passes (f.depth - 1) (more - 1)
      → r ≡ record { pc = get_or before.starts (f.depth - 1) 0 + 1; depth = f.depth; repeat = 0; mode = f.mode } → Moves p fallen f before after r
  unfolding fallen with_passes
  another r l starts passes e =
      let left : 0 < more - 1 = omega arith in
      record { core = λ w acc oflags. rw (starts, passes, e, lt-ltb 0 (more - 1) left); lasts = rw e (lasts_kept p before after f.depth starts lasts kept) }

  pub no_more : (r : Flow) → more ≤ 1 → after.starts ≡ set before.starts (f.depth - 1) 0 → after.passes ≡ set before.passes (f.depth - 1) 0
      → r ≡ record { pc = f.pc + 1; depth = f.depth - 1; repeat = 0; mode = f.mode } → Moves p fallen f before after r
  unfolding fallen popped
  no_more r l starts passes e =
      let none : more - 1 ≤ 0 = omega arith in
      record { core = λ w acc oflags. rw (starts, passes, e, le-ltb 0 (more - 1) none); lasts = rw e (lasts_ended p before after f.depth starts lasts kept) }

-- another repetition reads no slot
pub repeats_any : (p : List Operation) (f : Flow) (starts passes : List ℕ) (r : Flow) → 1 < f.repeat → r ≡ record { pc = f.pc; depth = f.depth; repeat = f.repeat - 1; mode = f.mode }
    → (w : List ℕ) (acc : List ℤ) (oflags : List Bool) → lent_core w acc oflags starts passes r ≡ advanced p (lent_core w acc oflags starts passes f)
unfolding advanced
repeats_any p f starts passes r l e w acc oflags = rw (e, lt-ltb 1 f.repeat l)

module _ (p : List Operation) (f : Flow) (loops : ActiveLoops) (kept : Lasts p loops f.depth) where
  -- ---- the next operation

  pub repeats : (r : Flow) → 1 < f.repeat → r ≡ record { pc = f.pc; depth = f.depth; repeat = f.repeat - 1; mode = f.mode }
      → Moves p (advanced p) f loops loops r
  repeats r l e = record { core = repeats_any p f loops.starts loops.passes r l e; lasts = rw e kept }

  abbrev inner_end : ℕ
  inner_end = last_of (role_at p (get_or loops.starts (f.depth - 1) 0))

  pub onward : (r : Flow) → f.repeat ≤ 1 → (f.pc ≡ get_or loops.lasts f.depth 0 → ⊥) → r ≡ record { pc = f.pc + 1; depth = f.depth; repeat = 0; mode = f.mode }
      → Moves p (advanced p) f loops loops r
  unfolding advanced
  onward r once other e =
      record { core = λ w acc oflags. rw (e, le-ltb 1 f.repeat once, not_last (ltb 0 f.depth) (kept.each f.depth (omega arith))); lasts = rw e kept }
    where
      not_last : (b : Bool) → get_or loops.lasts f.depth 0 ≡ cond b inner_end 65536 → (b && eqb f.pc inner_end) ≡ false
      not_last true e = ne_eqb f.pc inner_end (rw e at other)
      not_last false e = refl

  module _ (some : 0 < f.depth) where
    pub inner : get_or loops.lasts f.depth 0 ≡ inner_end
    inner = kept.each f.depth (omega arith) ∙ last_some p loops.starts f.depth some

    pub falls : f.repeat ≤ 1 → f.pc ≡ get_or loops.lasts f.depth 0
        → (w : List ℕ) (acc : List ℤ) (oflags : List Bool) → advanced p (lent_core w acc oflags loops.starts loops.passes f) ≡ fallen (lent_core w acc oflags loops.starts loops.passes f)
    unfolding advanced
    falls once e w acc oflags = rw (le-ltb 1 f.repeat once, lt-ltb 0 f.depth some, eq-eqb f.pc inner_end (e ∙ inner))

    -- ---- end early

    pub fewer : (most : ℕ) → most ≡ cond (is_near_last f.pc (get_or loops.lasts f.depth 0)) 2 1 → (w : List ℕ) (acc : List ℤ) (oflags : List Bool)
        → lent_core w acc oflags loops.starts (set loops.passes (f.depth - 1) (min (get_or loops.passes (f.depth - 1) 0) most)) f ≡ ended_early p (lent_core w acc oflags loops.starts loops.passes f)
    unfolding ended_early with_passes
    fewer most near w acc oflags = rw (lt-ltb 0 f.depth some, ← inner, ← near)

pub no_loop : (p : List Operation) (f : Flow) (starts passes w : List ℕ) (acc : List ℤ) (oflags : List Bool) → f.depth ≡ 0
    → lent_core w acc oflags starts passes f ≡ ended_early p (lent_core w acc oflags starts passes f)
unfolding ended_early
no_loop p f starts passes w acc oflags none = let no : f.depth ≤ 0 = omega arith in rw (le-ltb 0 f.depth no)
