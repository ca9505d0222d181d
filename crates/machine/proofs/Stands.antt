-- What refusal 7 asks of a state holds all along a run of an accepted program: a step keeps it, and it is all that a step relies on. Assumes nothing.
use Prim.Native.Nat.{ℕ, ◌+◌, ◌-◌, ◌^◌, ◌≤◌, ◌<◌, min}
use mathlib.Core.Bool.{Bool, true, false, cond, ◌&&◌}
use mathlib.Core.List.{List}
use mathlib.Core.Path.{◌≡◌, refl, sym, ap, ◌∙◌}
use native.Mathlib.Omega.{arith}
use borrow.Author.Tests.{ltb-true, ltb-false, leb-true, eqb-true, eq-eqb, lt-ltb, le-leb}
use lib.Dec.{eqb, ltb, leb}
use lib.IntN.{ℤ}
use lib.ListN.{length}
use Rattle.integers.proofs.Whole.{both, by_test, never}
use Rattle.accumulator.specs.Mode.{is_good_mode, mode_of}
use Rattle.accumulator.specs.Limit.{is_accumulator, kept_of, write_of}
use Rattle.accumulator.specs.declared.mode.Mode.{Mode}
use Rattle.accumulator.specs.declared.mode.Target.TheVariants.{A, B}
use Rattle.accumulator.proofs.Sizes.{within_accumulator, kept_within}
use Rattle.operations.specs.Listed.{is_listed}
use Rattle.operations.specs.declared.operation.Operation.{Operation}
use Rattle.program.specs.Placement.{role_at, is_repeat, last_of, is_placed}
use Rattle.program.specs.declared.placement.Role.TheVariants.{Plain, Repeats, Loops as Looped}
use Rattle.state.specs.State.{register, go_to, with_mode, restarted_state}
use Rattle.state.specs.Accept.{most_passes, follows_repeat, is_repeat_left, state_refusal}
use Rattle.state.proofs.Parts.{accepted_parts, parts_accepted, restart_accepted}
use Rattle.state.specs.declared.settings.Settings.{Settings}
use Rattle.state.specs.declared.state.Loops.{Loops}
use Rattle.state.specs.declared.state.Core.{Core}
use Rattle.state.specs.declared.state.State.{State}
use Rattle.effects.specs.Effect.{Work}
use Rattle.effects.specs.Operations.{work_of}
use Rattle.effects.specs.declared.effect.Exact.{Exact}
use Rattle.effects.specs.declared.effect.Exact.TheVariants.{Keep, Replace}
use Rattle.machine.specs.Loops.{inner_start, inner_passes, pushed, with_passes, popped}
use Rattle.machine.specs.Write.{settle_of, value_word}
use Rattle.machine.specs.Control.{inner_last, is_near_last, fallen, advanced, repeated, entered, ended_early, control_of, controlled, begins, state_controlled}
use Rattle.machine.specs.Step.{Step, operation_at, state_after, completed, stepped}
use Rattle.machine.specs.declared.control.Control.{Control}
use Rattle.machine.specs.declared.control.Control.TheVariants.{None as Onward, Repeat as Repeating, RepeatRegister as RepeatingRegister, Do as Looping}
use Rattle.machine.specs.declared.control.Control.TheVariants.{DoRegister as LoopingRegister, EndEarly as EndingEarly, SetMode as SettingMode}
use Rattle.machine.specs.declared.control.Control.TheVariants.{ClearSaturation as Clearing}
use Rattle.machine.proofs.Works.{settled_pc, settled_loops}
use Rattle.machine.proofs.Order.{with_sums}
use Rattle.machine.proofs.ControlKinds.{Suits, by_kind}
use Rattle.machine.proofs.Places.{work_fitted}
use Rattle.state.specs.Typed.{AreWords, Typed}
use Rattle.program.proofs.Placed.{role_is}
use Rattle.machine.proofs.Nested.{slot_start, Passes, Nested, inner_loop, repeat_inside, plain_inside, nested_next, nested_back, nested_passes, nested_pushed, nested_popped}
use Rattle.machine.proofs.Around.{loops_nested, nested_loops}
use Rattle.machine.proofs.Words.{put_long, put_register_lem}

-- what holds of a core all along a run: what refusal 7 asks, and what the types of the code give
pub record Stands (p : List Operation) (c : Core) : Type 0 where
  pub at : c.pc ≤ length p
  pub a : is_accumulator c.a ≡ true
  pub b : is_accumulator c.b ≡ true
  pub good : is_good_mode c.mode ≡ true
  pub nested : Nested p c.pc c.loops
  pub left : is_repeat_left p c.pc c.repeat ≡ true
  pub registers : length c.w ≡ 14
  pub words : AreWords c.w

-- ---- it is refusal 7's demand

pub accepted_stands : (p : List Operation) (s : State) → Typed s.core → state_refusal p s ≡ 0 → Stands p s.core
accepted_stands p s typed h =
    let k = accepted_parts p s h in
    record {
      at = k.at;
      a = k.a;
      b = k.b;
      good = k.good;
      nested = loops_nested p s.core.pc s.core.loops typed.starts typed.passes k.loops;
      left = k.left;
      registers = typed.registers;
      words = typed.words;
    }

pub stands_accepted : (p : List Operation) (s : State) → Stands p s.core → state_refusal p s ≡ 0
stands_accepted p s h =
    parts_accepted p s
    (record { at = h.at; a = h.a; b = h.b; good = h.good; loops = nested_loops p s.core.pc s.core.loops h.nested; left = h.left })

-- each of the four slots names an operation, where there is one at pc
pub slots_known : (p : List Operation) (c : Core) → Stands p c → c.pc < length p → (i : ℕ) → i < 4 → slot_start c.loops i < length p
slots_known p c h l i f = known i f (ltb i c.loops.depth) refl
  where
    known : (i : ℕ) → i < 4 → (t : Bool) → ltb i c.loops.depth ≡ t → slot_start c.loops i < length p
    known i f true e = omega (arith, h.nested.begun i (ltb-true i c.loops.depth e))
    known i f false e = omega (arith, h.nested.unused i (ltb-false i c.loops.depth e) f)

-- ---- repeat left

-- the operation before pc + 1 is the one at pc
follows_next : (p : List Operation) (pc : ℕ) (t : Bool) → is_repeat (role_at p pc) ≡ t → follows_repeat p (pc + 1) ≡ t
follows_next p pc t e =
    let back : pc + 1 - 1 ≡ pc = omega arith in
    rw (lt-ltb 0 (pc + 1) (omega arith), back) e

module _ (p : List Operation) (pc : ℕ) where
  left_none : is_repeat (role_at p pc) ≡ false → is_repeat_left p (pc + 1) 0 ≡ true
  unfolding is_repeat_left
  left_none e = rw (follows_next p pc false e)

  left_some : (n : ℕ) → is_repeat (role_at p pc) ≡ true → n < 2 ^ 16 → is_repeat_left p (pc + 1) (n + 1) ≡ true
  unfolding is_repeat_left
  left_some n e l = rw (follows_next p pc true e, le-leb 1 (n + 1) (omega arith), le-leb (n + 1) 65536 (omega arith))

  -- one repeat is made
  left_less : (n : ℕ) → 1 < n → is_repeat_left p pc n ≡ true → is_repeat_left p pc (n - 1) ≡ true
  unfolding is_repeat_left
  left_less n more = go (follows_repeat p pc)
    where
      go : (t : Bool) → cond t (leb 1 n && leb n 65536) (eqb n 0) ≡ true → cond t (leb 1 (n - 1) && leb (n - 1) 65536) (eqb (n - 1) 0) ≡ true
      go true h =
          let most : n ≤ 65536 = leb-true n 65536 (both (leb 1 n) (leb n 65536) h).1 in
          rw (le-leb 1 (n - 1) (omega arith), le-leb (n - 1) 65536 (omega arith))
      go false h = absurd (omega (arith, eqb-true n 0 h))

-- ---- the order of execution keeps it

module _ (p : List Operation) (placed : is_placed p ≡ true) (c : Core) (l : c.pc < length p) (h : Stands p c) where
  at : c.pc ≤ length p
  at = omega arith

  moved : (pc : ℕ) (loops : Loops) (left : ℕ) → pc ≤ length p → Nested p pc loops → is_repeat_left p pc left ≡ true → Stands p (go_to c pc loops left)
  moved pc loops left below n r =
      record { at = below; a = h.a; b = h.b; good = h.good; nested = n; left = r; registers = h.registers; words = h.words }

  -- the innermost loop's passes
  inner_passes_lem : 0 < c.loops.depth → Passes (inner_passes c.loops)
  inner_passes_lem some = h.nested.counted (c.loops.depth - 1) (omega arith)

  module _ (plain : role_at p c.pc ≡ Plain) where
    fallen_stands : 0 < c.loops.depth → c.pc ≡ inner_last p c → Stands p (fallen c)
    unfolding fallen with_passes
    fallen_stands some e =
        let left = inner_passes c.loops - 1 in
        let (low, high) = inner_passes_lem some in
        by_test (Stands p) (ltb 0 left)
        (λ f.
        let more : 0 < left = ltb-true 0 left f in
        moved (inner_start c.loops + 1) (with_passes c.loops left) 0
        (omega (arith, h.nested.begun (c.loops.depth - 1) (omega arith)))
        (nested_back p placed c.pc (with_passes c.loops left) at
        (nested_passes p placed c.pc c.loops at h.nested left (omega arith) some) some)
        (left_none p (inner_start c.loops) (inner_loop p placed c.pc c.loops at h.nested some)))
        (λ f.
        moved (c.pc + 1) (popped c.loops) 0 (omega arith)
        (nested_popped p placed c.pc c.loops at h.nested some (ap last_of plain) e) (left_none p c.pc (ap is_repeat plain)))

    advanced_stands : Stands p (advanced p c)
    unfolding advanced
    advanced_stands =
        by_test (Stands p) (ltb 1 c.repeat)
        (λ e. moved c.pc c.loops (c.repeat - 1) at h.nested (left_less p c.pc c.repeat (ltb-true 1 c.repeat e) h.left))
        (λ e.
        by_test (Stands p) (ltb 0 c.loops.depth && eqb c.pc (inner_last p c))
        (λ f.
        let (some, same) = both (ltb 0 c.loops.depth) (eqb c.pc (inner_last p c)) f in
        fallen_stands (ltb-true 0 c.loops.depth some) (eqb-true c.pc (inner_last p c) same))
        (λ f.
        moved (c.pc + 1) c.loops 0 (omega arith)
        (nested_next p placed c.pc c.loops at h.nested (ap last_of plain)
        (plain_inside p placed c.pc c.loops at h.nested
        (λ some same. never (sym f ∙ rw (lt-ltb 0 c.loops.depth some, eq-eqb c.pc (inner_last p c) same)))))
        (left_none p c.pc (ap is_repeat plain))))

    -- end early leaves pc where it is
    ended_stands : Stands p (ended_early p c) × ((ended_early p c).pc ≡ c.pc)
    unfolding ended_early
    ended_stands =
        let most : ℕ = cond (is_near_last c.pc (inner_last p c)) 2 1 in
        let one : (1 ≤ most) × (most ≤ 2) =
        by_test (λ (n : ℕ). (1 ≤ n) × (n ≤ 2)) (is_near_last c.pc (inner_last p c)) (λ e. omega arith) (λ e. omega arith) in
        by_test (λ (d : Core). Stands p d × (d.pc ≡ c.pc)) (ltb 0 c.loops.depth)
        (λ e.
        let some : 0 < c.loops.depth = ltb-true 0 c.loops.depth e in
        let (low, high) = inner_passes_lem some in (
          moved c.pc (with_passes c.loops (min (inner_passes c.loops) most)) c.repeat at
              (nested_passes p placed c.pc c.loops at h.nested (min (inner_passes c.loops) most) (omega arith) some) h.left,
          refl,
        ))
        (λ e. (h, refl))

  repeated_stands : (n : ℕ) → role_at p c.pc ≡ Repeats → n < 2 ^ 16 → Stands p (repeated c n)
  unfolding repeated
  repeated_stands n e few =
      moved (c.pc + 1) c.loops (n + 1) (omega arith)
      (nested_next p placed c.pc c.loops at h.nested (ap last_of e) (repeat_inside p placed c.pc c.loops at h.nested e))
      (left_some p c.pc n (ap is_repeat e) few)

  entered_stands : (n : ℕ) → role_at p c.pc ≡ Looped (last_of (role_at p c.pc)) → n < most_passes → c.loops.depth < 4 → Stands p (entered c n)
  unfolding entered
  entered_stands n e few free =
      moved (c.pc + 1) (pushed c.loops c.pc (n + 1)) 0 (omega arith)
      (nested_pushed p placed c.pc c.loops at h.nested (n + 1) (omega arith) free l e) (left_none p c.pc (ap is_repeat e))

module _ (p : List Operation) (placed : is_placed p ≡ true) where
  controlled_stands : (k : Control) (c : Core) → c.pc < length p → Stands p c → Suits k (role_at p c.pc)
      → (begins k ≡ true → c.loops.depth < 4) → Stands p (controlled p k c)
  unfolding controlled
  controlled_stands Onward c l h s free = advanced_stands p placed c l h s
  controlled_stands (Repeating n) c l h s free = repeated_stands p placed c l h n s.0 s.1
  controlled_stands (RepeatingRegister r) c l h s free = repeated_stands p placed c l h (register c.w r) s (h.words r)
  controlled_stands (Looping n) c l h s free = entered_stands p placed c l h n s.0 (omega (arith, s.1)) (free refl)
  controlled_stands (LoopingRegister r) c l h s free = entered_stands p placed c l h (register c.w r) s (h.words r) (free refl)
  controlled_stands EndingEarly c l h s free =
      let (kept, same) = ended_stands p placed c l h s in
      advanced_stands p placed (ended_early p c) (rw same l) kept (rw same s)
  controlled_stands (SettingMode word) c l h s free =
      advanced_stands p placed (with_mode c word) l
      (record { at = h.at; a = h.a; b = h.b; good = s.1; nested = h.nested; left = h.left; registers = h.registers; words = h.words }) s.0
  controlled_stands Clearing c l h s free = advanced_stands p placed c l h s

  -- ---- a step keeps it

  -- other accumulators of 40 bits
  summed : (c : Core) (a b : ℤ) (oa ob : Bool) → Stands p c → is_accumulator a ≡ true → is_accumulator b ≡ true
      → Stands p (with_sums c a b oa ob)
  summed c a b oa ob h ha hb =
      record { at = h.at; a = ha; b = hb; good = h.good; nested = h.nested; left = h.left; registers = h.registers; words = h.words }

  -- an accumulator's write: what is kept has 40 bits
  settled_stands : (t : ℕ) (m : Mode) (e : Exact) (s : State) → Stands p s.core → Stands p (settle_of t m e s).state.core
  unfolding settle_of write_of
  settled_stands t m Keep s h = h
  settled_stands t m (Replace A r) s h = summed s.core _ _ _ _ h (within_accumulator (kept_of m A r) (kept_within m A r)) h.b
  settled_stands t m (Replace B r) s h = summed s.core _ _ _ _ h h.a (within_accumulator (kept_of m B r) (kept_within m B r))

  completed_stands : (settings : Settings) (m : Mode) (o : Operation) (work : Work) (s : State) (memory : List ℕ)
      → Stands p s.core → Stands p (state_after m work s).core → s.core.pc < length p → Suits (control_of o) (role_at p s.core.pc)
      → (begins (control_of o) ≡ true → s.core.loops.depth < 4) → Stands p (completed p settings m o work s memory).state.core
  unfolding completed state_controlled
  completed_stands settings m o work s memory h kept l suits free =
      let t = settings.traps in
      let e = work.effect.exact in
      let after = state_after m work s in
      controlled_stands (control_of o) (settle_of t m e after).state.core (rw (settled_pc t m e after) l) (settled_stands t m e after kept)
      (rw (settled_pc t m e after) suits) (λ b. rw (settled_loops t m e after) (free b))

  pub stepped_stands : (settings : Settings) (s : State) (memory : List ℕ) → is_listed (operation_at p s.core.pc) ≡ true
      → s.core.pc < length p → AreWords memory → Stands p s.core → Stands p (stepped p settings s memory).state.core
  unfolding stepped
  stepped_stands settings s memory ok l ram h =
      let m = mode_of s.core.mode in
      let o = operation_at p s.core.pc in
      let work = work_of settings m o s.core memory in
      let fitted = work_fitted settings m s.core memory o ok in
      let (words, value) = fitted.words h.words ram in
      let place = work.effect.place in
      let word = value_word m work.effect.value in
      by_test (λ (r : Step). Stands p r.state.core) (eqb work.effect.trap 0)
      (λ e.
      completed_stands settings m o work s memory h
      (record {
        at = h.at;
        a = h.a;
        b = h.b;
        good = h.good;
        nested = h.nested;
        left = h.left;
        registers = put_long place word work.w ∙ fitted.long ∙ h.registers;
        words = put_register_lem place word work.w (value m) words;
      })
      l (rw (role_is p s.core.pc) ((by_kind o).suits ok))
      (λ b. fitted.slot b (eqb-true work.effect.trap 0 e)))
      (λ e. h)

-- ---- the restart keeps it

-- for every program
pub restart_stands : (p q : List Operation) (s : State) → Stands p s.core → Stands q (restarted_state s).core
unfolding restarted_state
restart_stands p q s h =
    accepted_stands q (restarted_state s) (record { registers = h.registers; words = h.words; starts = refl; passes = refl })
    (restart_accepted p q s (stands_accepted p s h))
