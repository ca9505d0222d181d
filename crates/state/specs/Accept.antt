-- Refusal 7: a state that does not fit its program; and the restart, which fits every program.
use Rattle.std.specs.Prelude.{ℕ, zero, suc, ◌-◌, Bool, true, cond, not, ◌&&◌, ◌||◌, List, ◌≡◌, eqb, ltb, leb, length, get_or}
use Rattle.accumulator.specs.Limit.{is_accumulator}
use Rattle.accumulator.specs.Mode.{is_good_mode}
use Rattle.operations.specs.declared.operation.Operation.{Operation}
use Rattle.program.specs.Placement.{role_at, last_of, is_repeat}
use Rattle.state.specs.State.{restarted_state}
use Rattle.state.specs.declared.state.Loops.{Loops}
use Rattle.state.specs.declared.state.State.{State}

-- operation d is a DO around pc: d < pc and pc at most its last
abbrev pub is_around : List Operation → ℕ → ℕ → Bool
is_around p pc d = ltb d pc && leb pc (last_of (role_at p d))

-- how many of operations 0 .. n - 1 are DOs around pc
abbrev pub around_in : List Operation → ℕ → ℕ → ℕ
around_in p pc zero = 0
around_in p pc (suc n) = cond (is_around p pc n) (suc (around_in p pc n)) (around_in p pc n)

-- the DOs around pc among operations 0 .. n - 1 stand in the slots, outermost first: one that k others come before stands in slot k
abbrev pub stand_in : List Operation → ℕ → List ℕ → ℕ → Bool
stand_in p pc starts zero = true
stand_in p pc starts (suc n) = stand_in p pc starts n && (not (is_around p pc n) || eqb (get_or starts (around_in p pc n) 0) n)

-- passes left up to this many are accepted
abbrev pub most_passes : ℕ
most_passes = 65536

-- a slot in use has 1..65,536 passes left; one that is not is zero
abbrev pub is_slot : Loops → ℕ → Bool
is_slot l i =
    cond (ltb i l.depth)
    (leb 1 (get_or l.passes i 0) && leb (get_or l.passes i 0) most_passes)
    (eqb (get_or l.starts i 0) 0 && eqb (get_or l.passes i 0) 0)

-- active loops exactly the loops around pc (at most 4)
unfoldable pub are_loops : List Operation → ℕ → Loops → Bool
are_loops p pc l =
    leb l.depth 4
    && eqb l.depth (around_in p pc pc)
    && stand_in p pc l.starts pc
    && (is_slot l 0 && is_slot l 1 && is_slot l 2 && is_slot l 3)

-- the operation before pc is REPEAT
abbrev pub follows_repeat : List Operation → ℕ → Bool
follows_repeat p pc = ltb 0 pc && is_repeat (role_at p (pc - 1))

-- repeat left 1..65,536 when the operation before pc is REPEAT, 0 otherwise
unfoldable pub is_repeat_left : List Operation → ℕ → ℕ → Bool
is_repeat_left p pc left = cond (follows_repeat p pc) (leb 1 left && leb left 65536) (eqb left 0)

-- pc not above count; A, B 40 bits; mode word; loops; repeat left
unfoldable pub is_state : List Operation → State → Bool
is_state p s =
    leb s.core.pc (length p)
    && is_accumulator s.core.a
    && is_accumulator s.core.b
    && is_good_mode s.core.mode
    && are_loops p s.core.pc s.core.loops
    && is_repeat_left p s.core.pc s.core.repeat

-- 7 where it is not
unfoldable pub state_refusal : List Operation → State → ℕ
state_refusal p s = cond (is_state p s) 0 7

-- r is the restart of s; where s is accepted for some program, r is accepted for every program
pub record Restarts (s r : State) : Type 0 where
  pub restarted : r ≡ restarted_state s
  pub accepted : (p q : List Operation) → state_refusal p s ≡ 0 → state_refusal q r ≡ 0
