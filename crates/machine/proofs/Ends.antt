-- Where an accepted program is done no loop is active and no repeat is left. Assumes nothing.
use Prim.Native.Nat.{ℕ, zero, suc, ◌+◌, ◌-◌, ◌<◌}
use mathlib.Core.Bool.{Bool, true, false, cond, ◌&&◌, false≢true}
use mathlib.Core.List.{List}
use mathlib.Core.Path.{◌≡◌, refl, sym, ◌∙◌}
use native.Mathlib.Omega.{arith}
use borrow.Author.Tests.{ltb-true, eqb-true}
use lib.Dec.{eqb, ltb, leb}
use lib.ListN.{length, get_or, replicate, get_or-replicate}
use lib.Seq.{ext_get_or}
use Rattle.integers.proofs.Whole.{both}
use Rattle.operations.specs.declared.operation.Operation.{Operation}
use Rattle.program.specs.Placement.{role_at, is_repeat, is_placed}
use Rattle.program.specs.declared.placement.Role.{Role}
use Rattle.program.specs.declared.placement.Role.TheVariants.{Plain, Repeats, Loops as Looped}
use Rattle.program.proofs.Placed.{last_below, repeat_placed}
use Rattle.state.specs.State.{no_loops}
use Rattle.state.specs.Accept.{follows_repeat, is_repeat_left}
use Rattle.state.specs.declared.state.Core.{Core}
use Rattle.machine.proofs.Nested.{slot_start}
use Rattle.machine.proofs.Stands.{Stands}

-- four slots that are zero
zero_slots : (l : List ℕ) → length l ≡ 4 → ((i : ℕ) → i < 4 → get_or l i 0 ≡ 0) → l ≡ replicate 4 0
zero_slots l four h =
    ext_get_or 0 l (replicate 4 0) four
    (λ i k.
    let f : i < 4 = rw four at k in
    h i f ∙ sym (get_or-replicate 4 i 0 0 f))

repeats : (r : Role) → is_repeat r ≡ true → r ≡ Repeats
repeats Plain h = absurd (false≢true h)
repeats Repeats h = refl
repeats (Looped last) h = absurd (false≢true h)

module _ (p : List Operation) (placed : is_placed p ≡ true) (c : Core) (done : c.pc ≡ length p) (h : Stands p c) where
  -- an active loop would have its last operation past the end
  none_active : c.loops.depth ≡ 0
  none_active = go c.loops.depth refl
    where
      go : (d : ℕ) → c.loops.depth ≡ d → d ≡ 0
      go zero e = refl
      go (suc d) e =
          let some : 0 < c.loops.depth = omega arith in
          let start : slot_start c.loops 0 < c.pc = h.nested.begun 0 some in
          absurd (omega (arith, h.nested.within 0 some, last_below p placed (slot_start c.loops 0) (omega arith)))

  pub done_loops : c.loops ≡ no_loops
  done_loops =
      let slot : (i : ℕ) → i < 4 → (slot_start c.loops i ≡ 0) × (get_or c.loops.passes i 0 ≡ 0) =
      λ i f. h.nested.unused i (omega (arith, none_active)) f in
      λ i.
      record {
        starts = zero_slots c.loops.starts h.nested.four.0 (λ j f. (slot j f).0) i;
        passes = zero_slots c.loops.passes h.nested.four.1 (λ j f. (slot j f).1) i;
        depth = none_active i;
      }

  -- the last operation is no REPEAT
  pub done_repeat : c.repeat ≡ 0
  unfolding is_repeat_left
  done_repeat = go (follows_repeat p c.pc) refl h.left
    where
      go : (t : Bool) → follows_repeat p c.pc ≡ t → cond t (leb 1 c.repeat && leb c.repeat 65536) (eqb c.repeat 0) ≡ true → c.repeat ≡ 0
      go true e left =
          let (some, is) = both (ltb 0 c.pc) (is_repeat (role_at p (c.pc - 1))) e in
          let more : 0 < c.pc = ltb-true 0 c.pc some in
          let inside : c.pc - 1 + 1 < length p =
          (repeat_placed p placed (c.pc - 1) (omega arith) (repeats (role_at p (c.pc - 1)) is)).0 in
          absurd (omega arith)
      go false e left = eqb-true c.repeat 0 left
