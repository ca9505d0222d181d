-- A step at an operation of a program that stands in another is that program's step, moved. Assumes nothing.
use Prim.Native.Nat.{ℕ, zero, suc, ◌+◌, ◌-◌, ◌≤◌, ◌<◌}
use mathlib.Core.Bool.{Bool, true, false, cond, ◌&&◌}
use mathlib.Core.List.{List, [], ◌∷◌}
use mathlib.Core.Path.{◌≡◌, refl, ap, ◌∙◌}
use native.Mathlib.Nat.{add_assoc, add_left_cancel}
use native.Mathlib.Numerals.{add-one}
use native.Mathlib.Omega.{arith}
use borrow.Author.Tests.{ltb-true, eqb-true, eqb-false, eq-eqb, ne_eqb}
use lib.Dec.{eqb, ltb}
use lib.ListN.{length, get_or, set}
use Rattle.integers.proofs.Whole.{by_test, same_test, both}
use Rattle.accumulator.specs.Mode.{mode_of}
use Rattle.accumulator.specs.declared.mode.Mode.{Mode}
use Rattle.accumulator.specs.declared.mode.Target.TheVariants.{A, B}
use Rattle.operations.specs.declared.operation.Operation.{Operation}
use Rattle.program.specs.Placement.{role_at, last_of}
use Rattle.state.specs.State.{with_mode}
use Rattle.state.specs.declared.settings.Settings.{Settings}
use Rattle.state.specs.declared.state.Loops.{Loops}
use Rattle.state.specs.declared.state.Core.{Core}
use Rattle.state.specs.declared.state.State.{State}
use Rattle.effects.specs.Effect.{Work}
use Rattle.effects.specs.Operations.{work_of}
use Rattle.effects.specs.declared.effect.Exact.{Exact}
use Rattle.effects.specs.declared.effect.Exact.TheVariants.{Keep, Replace}
use Rattle.effects.proofs.Alike.{work_elsewhere}
use Rattle.machine.specs.Loops.{inner_start, inner_passes, pushed, with_passes, popped}
use Rattle.machine.specs.Write.{settle_of}
use Rattle.machine.specs.Control.{inner_last, fallen, advanced, repeated, entered, ended_early, control_of, controlled, state_controlled}
use Rattle.machine.specs.Step.{Step, operation_at, state_after, completed, stepped}
use Rattle.machine.specs.declared.control.Control.{Control}
use Rattle.machine.specs.declared.control.Control.TheVariants.{None as Onward, Repeat as Repeating, RepeatRegister as RepeatingRegister, Do as Looping}
use Rattle.machine.specs.declared.control.Control.TheVariants.{DoRegister as LoopingRegister, EndEarly as EndingEarly, SetMode as SettingMode}
use Rattle.machine.specs.declared.control.Control.TheVariants.{ClearSaturation as Clearing}
use Rattle.machine.proofs.Works.{settled_loops}
use Rattle.machine.proofs.Nested.{Nested}
use Rattle.join.specs.Join.{moved_operation}
use Rattle.join.specs.Both.{moved_starts, moved_loops, moved_core, moved_state}
use Rattle.join.proofs.Moved.{by_moved, moved_last, PartOf, part_role}

-- what is chosen by a test and moved is what is chosen of the moved ones
pub moved_test : {X Y : Type 0} (f : X → Y) (t : Bool) {x x' : X} {y y' : Y} → (t ≡ true → y ≡ f x) → (t ≡ false → y' ≡ f x')
    → cond t y y' ≡ f (cond t x x')
moved_test f t h h' = same_test (λ b a. b ≡ f a) t h h'

pub eqb_moved : (n a b : ℕ) → eqb (n + a) (n + b) ≡ eqb a b
eqb_moved n a b = go (eqb a b) refl
  where
    go : (t : Bool) → eqb a b ≡ t → eqb (n + a) (n + b) ≡ t
    go true e = eq-eqb (n + a) (n + b) (ap (λ (x : ℕ). n + x) (eqb-true a b e))
    go false e = ne_eqb (n + a) (n + b) (λ z. eqb-false a b e (add_left_cancel n z))

-- ---- operations

-- moving leaves an operation's control
pub moved_control : (n : ℕ) (o : Operation) → control_of (moved_operation n o) ≡ control_of o
unfolding control_of
moved_control n = by_moved n (λ o o'. control_of o' ≡ control_of o) (λ o e z. refl) (λ count last. refl) (λ r last. refl)

-- and its work
moved_work : (n : ℕ) (s : Settings) (m : Mode) (o : Operation) (c : Core) (memory : List ℕ)
    → work_of s m (moved_operation n o) (moved_core n c) memory ≡ work_of s m o c memory
unfolding work_of
moved_work n s m o c memory =
    work_elsewhere s m memory c (n + c.pc) (moved_loops n c.loops) c.repeat refl (moved_operation n o)
    ∙ by_moved n (λ o o'. work_of s m o' c memory ≡ work_of s m o c memory) (λ o e z. refl) (λ count last. refl) (λ r last. refl) o

-- ---- the loops, moved

starts_pushed : (n d : ℕ) (l : List ℕ) (v : ℕ) → set (moved_starts n d l) d (n + v) ≡ moved_starts n (suc d) (set l d v)
starts_pushed n zero [] v = refl
starts_pushed n zero (x ∷ l) v = refl
starts_pushed n (suc d) [] v = refl
starts_pushed n (suc d) (x ∷ l) v = ap (λ (t : List ℕ). (n + x) ∷ t) (starts_pushed n d l v)

starts_popped : (n d : ℕ) (l : List ℕ) → 0 < d → set (moved_starts n d l) (d - 1) 0 ≡ moved_starts n (d - 1) (set l (d - 1) 0)
starts_popped n zero l some = absurd (omega arith)
starts_popped n (suc d) l some =
    let back : suc d - 1 ≡ d = omega arith in
    rw back (go d l)
  where
    go : (d : ℕ) (l : List ℕ) → set (moved_starts n (suc d) l) d 0 ≡ moved_starts n d (set l d 0)
    go zero [] = refl
    go zero (x ∷ l) = refl
    go (suc d) [] = refl
    go (suc d) (x ∷ l) = ap (λ (t : List ℕ). (n + x) ∷ t) (go d l)

starts_inner : (n d : ℕ) (l : List ℕ) → 0 < d → d ≤ length l → get_or (moved_starts n d l) (d - 1) 0 ≡ n + get_or l (d - 1) 0
starts_inner n zero l some long = absurd (omega arith)
starts_inner n (suc d) l some long =
    let back : suc d - 1 ≡ d = omega arith in
    rw back (go d l long)
  where
    go : (d : ℕ) (l : List ℕ) → d < length l → get_or (moved_starts n (suc d) l) d 0 ≡ n + get_or l d 0
    go d [] k = absurd (omega arith)
    go zero (x ∷ l) k = refl
    go (suc d) (x ∷ l) k = go d l (omega arith)

-- ---- a step, moved

-- a step counted from the joined program's start
abbrev pub moved_step : ℕ → Step → Step
moved_step n r = record { state = moved_state n r.state; memory = r.memory; trap = r.trap; counted = r.counted }

module _ (whole part : List Operation) (n : ℕ) where
  -- the innermost loop is the moved one: DO's number, and its last
  pub record Tied (l : Loops) : Type 0 where
    pub start : inner_start (moved_loops n l) ≡ n + inner_start l
    pub last : last_of (role_at whole (n + inner_start l)) ≡ n + last_of (role_at part (inner_start l))

  -- where there is one
  abbrev Ties : Loops → Type 0
  Ties l = 0 < l.depth → Tied l

  pub nested_tied : PartOf whole part n → (pc : ℕ) (l : Loops) → pc ≤ length part → Nested part pc l → Ties l
  nested_tied is pc l at h some =
      let inner = l.depth - 1 in
      let last : inner < l.depth = omega arith in
      let few : l.depth ≤ 4 = h.few in
      let long : length l.starts ≡ 4 = h.four.0 in
      let begun : inner_start l < pc = h.begun inner last in
      record {
        start = starts_inner n l.depth l.starts some (omega arith);
        last =
            ap last_of (part_role whole part n is (inner_start l) (omega arith))
            ∙ moved_last n (role_at part (inner_start l)) (omega (arith, h.within inner last));
      }

  inner_moved : (c : Core) → Tied c.loops → inner_last whole (moved_core n c) ≡ n + inner_last part c
  inner_moved c h = rw h.start h.last

  fallen_moved : (c : Core) → 0 < c.loops.depth → Tied c.loops → fallen (moved_core n c) ≡ moved_core n (fallen c)
  unfolding fallen with_passes popped
  fallen_moved c some h =
      moved_test (moved_core n) (ltb 0 (inner_passes c.loops - 1)) (λ e. rw (h.start, add_assoc n (inner_start c.loops) 1))
      (λ e. rw (starts_popped n c.loops.depth c.loops.starts some, add_assoc n c.pc 1))

  last_moved : (c : Core) → Ties c.loops
      → (ltb 0 c.loops.depth && eqb (n + c.pc) (inner_last whole (moved_core n c))) ≡ (ltb 0 c.loops.depth && eqb c.pc (inner_last part c))
  last_moved c h = go (ltb 0 c.loops.depth) refl
    where
      go : (t : Bool) → ltb 0 c.loops.depth ≡ t → (t && eqb (n + c.pc) (inner_last whole (moved_core n c))) ≡ (t && eqb c.pc (inner_last part c))
      go true e = rw (inner_moved c (h (ltb-true 0 c.loops.depth e))) (eqb_moved n c.pc (inner_last part c))
      go false e = refl

  advanced_moved : (c : Core) → Ties c.loops → advanced whole (moved_core n c) ≡ moved_core n (advanced part c)
  unfolding advanced
  advanced_moved c h =
      moved_test (moved_core n) (ltb 1 c.repeat) (λ e. refl)
      (λ e.
      rw (last_moved c h)
      (moved_test (moved_core n) (ltb 0 c.loops.depth && eqb c.pc (inner_last part c))
      (λ f.
      let some = ltb-true 0 c.loops.depth (both (ltb 0 c.loops.depth) (eqb c.pc (inner_last part c)) f).0 in
      fallen_moved c some (h some))
      (λ f. rw (add_assoc n c.pc 1))))

  ended_moved : (c : Core) → Ties c.loops → (ended_early whole (moved_core n c) ≡ moved_core n (ended_early part c)) × Ties (ended_early part c).loops
  unfolding ended_early with_passes
  ended_moved c h = (
    moved_test (moved_core n) (ltb 0 c.loops.depth)
        (λ e.
        rw (
          inner_moved c (h (ltb-true 0 c.loops.depth e)),
          eqb_moved n c.pc (inner_last part c),
          add_assoc n c.pc 1,
          eqb_moved n (c.pc + 1) (inner_last part c),
        ))
        (λ e. refl),
    by_test (λ (d : Core). Ties d.loops) (ltb 0 c.loops.depth)
        (λ e some.
        let t = h some in
        record { start = t.start; last = t.last }) (λ e. h),
  )

  controlled_moved : (k : Control) (c : Core) → Ties c.loops → controlled whole k (moved_core n c) ≡ moved_core n (controlled part k c)
  unfolding controlled repeated entered pushed
  controlled_moved Onward c h = advanced_moved c h
  controlled_moved (Repeating count) c h = rw (add_assoc n c.pc 1)
  controlled_moved (RepeatingRegister r) c h = rw (add_assoc n c.pc 1)
  controlled_moved (Looping count) c h = rw (starts_pushed n c.loops.depth c.loops.starts c.pc, add-one c.loops.depth, add_assoc n c.pc 1)
  controlled_moved (LoopingRegister r) c h = rw (starts_pushed n c.loops.depth c.loops.starts c.pc, add-one c.loops.depth, add_assoc n c.pc 1)
  controlled_moved EndingEarly c h =
      let (e, kept) = ended_moved c h in
      ap (advanced whole) e ∙ advanced_moved (ended_early part c) kept
  controlled_moved (SettingMode word) c h = advanced_moved (with_mode c word) h
  controlled_moved Clearing c h = advanced_moved c h

  settled_moved : (t : ℕ) (m : Mode) (e : Exact) (s : State)
      → settle_of t m e (moved_state n s) ≡ record { state = moved_state n (settle_of t m e s).state; trap = (settle_of t m e s).trap }
  unfolding settle_of
  settled_moved t m Keep s = refl
  settled_moved t m (Replace A r) s = refl
  settled_moved t m (Replace B r) s = refl

  completed_moved : (settings : Settings) (m : Mode) (o : Operation) (work : Work) (s : State) (memory : List ℕ) → Ties s.core.loops
      → completed whole settings m (moved_operation n o) work (moved_state n s) memory ≡ moved_step n (completed part settings m o work s memory)
  unfolding completed state_controlled
  completed_moved settings m o work s memory h =
      let t = settings.traps in
      let e = work.effect.exact in
      let after = state_after m work s in
      rw (
        settled_moved t m e after,
        moved_control n o,
        controlled_moved (control_of o) (settle_of t m e after).state.core (rw (settled_loops t m e after) h),
      )

  pub stepped_moved : (settings : Settings) (s : State) (memory : List ℕ)
      → operation_at whole (n + s.core.pc) ≡ moved_operation n (operation_at part s.core.pc) → Ties s.core.loops
      → stepped whole settings (moved_state n s) memory ≡ moved_step n (stepped part settings s memory)
  unfolding stepped
  stepped_moved settings s memory is h =
      let m = mode_of s.core.mode in
      let o = operation_at part s.core.pc in
      let work = work_of settings m o s.core memory in
      rw (is, moved_work n settings m o s.core memory)
      (moved_test (moved_step n) (eqb work.effect.trap 0) (λ e. completed_moved settings m o work s memory h) (λ e. refl))
