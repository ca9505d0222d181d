-- Repeat left, loops and pc after an operation, and what kinds 19 to 25 do to them, to the mode word and to the saturation flags.
use Rattle.std.specs.Prelude.{ℕ, ◌+◌, ◌-◌, min, Bool, true, false, cond, ◌&&◌, ◌||◌, List, eqb, ltb}
use Rattle.operations.specs.declared.operation.Operation.{Operation}
use Rattle.operations.specs.declared.operation.Operation.TheVariants.{MacClass as MacOperation, AddAccumulators, Subtract, Negate, Shift, Lac, Add, Sac}
use Rattle.operations.specs.declared.operation.Operation.TheVariants.{SacR, Literal, Load, Store, Repeat, RepeatRegister, Do, DoRegister, EndEarly, SetMode}
use Rattle.operations.specs.declared.operation.Operation.TheVariants.{ClearSaturation}
use Rattle.program.specs.Placement.{role_at, last_of}
use Rattle.state.specs.State.{register, go_to, with_mode}
use Rattle.state.specs.declared.state.Core.{Core}
use Rattle.state.specs.declared.state.State.{State}
use Rattle.machine.specs.Loops.{inner_start, inner_passes, pushed, with_passes, popped}
use Rattle.machine.specs.declared.control.Control.{Control}
use Rattle.machine.specs.declared.control.Control.TheVariants.{None as Onward, Repeat as Repeating, RepeatRegister as RepeatingRegister, Do as Looping}
use Rattle.machine.specs.declared.control.Control.TheVariants.{DoRegister as LoopingRegister, EndEarly as EndingEarly, SetMode as SettingMode}
use Rattle.machine.specs.declared.control.Control.TheVariants.{ClearSaturation as Clearing}

-- ---- after any operation

-- the last operation of the innermost loop
abbrev pub inner_last : List Operation → Core → ℕ
inner_last p c = last_of (role_at p (inner_start c.loops))

-- passes left falls by 1; above 0 goes back to DO + 1, at 0 the loop ends and pc moves on by 1
unfoldable pub fallen : Core → Core
fallen c =
    let left = inner_passes c.loops - 1 in
    cond (ltb 0 left)
    (go_to c (inner_start c.loops + 1) (with_passes c.loops left) 0)
    (go_to c (c.pc + 1) (popped c.loops) 0)

-- another repeat is due, or: at a loop's last operation the fall, after any other pc moves on by 1
unfoldable pub advanced : List Operation → Core → Core
advanced p c =
    cond (ltb 1 c.repeat)
    (go_to c c.pc c.loops (c.repeat - 1))
    (cond (ltb 0 c.loops.depth && eqb c.pc (inner_last p c)) (fallen c) (go_to c (c.pc + 1) c.loops 0))

-- ---- kinds 19 to 25

-- the following operation runs count + 1 times
unfoldable pub repeated : Core → ℕ → Core
repeated c count = go_to c (c.pc + 1) c.loops (count + 1)

-- a loop of count + 1 passes begins
unfoldable pub entered : Core → ℕ → Core
entered c count = go_to c (c.pc + 1) (pushed c.loops c.pc (count + 1)) 0

-- last or last-but-one place
abbrev pub is_near_last : ℕ → ℕ → Bool
is_near_last pc last = eqb pc last || eqb (pc + 1) last

-- end early: the innermost loop's passes left become the smaller of themselves and 1; of themselves and 2 in the last or last-but-one place;
-- outside a loop nothing happens
unfoldable pub ended_early : List Operation → Core → Core
ended_early p c =
    let most : ℕ = cond (is_near_last c.pc (inner_last p c)) 2 1 in
    cond (ltb 0 c.loops.depth)
    (go_to c c.pc (with_passes c.loops (min (inner_passes c.loops) most)) c.repeat)
    c

-- kinds 19 REPEAT literal, 20 REPEAT register, 21 DO literal, 22 DO register, 23 end early, 24 mode word, 25 clears SA and SB; none of the others
unfoldable pub control_of : Operation → Control
control_of (MacOperation k) = Onward
control_of (AddAccumulators t) = Onward
control_of (Subtract t) = Onward
control_of (Negate t) = Onward
control_of (Shift t r) = Onward
control_of (Lac t b2 o) = Onward
control_of (Add t b2 o) = Onward
control_of (Sac t b2 o) = Onward
control_of (SacR t b2 o) = Onward
control_of (Literal r v) = Onward
control_of (Load r p post) = Onward
control_of (Store r p post) = Onward
control_of (Repeat n) = Repeating n
control_of (RepeatRegister r) = RepeatingRegister r
control_of (Do n last) = Looping n
control_of (DoRegister r last) = LoopingRegister r
control_of EndEarly = EndingEarly
control_of (SetMode word) = SettingMode word
control_of ClearSaturation = Clearing

-- 20 REPEAT register b1, 22 DO register b1: all 16 bits
unfoldable pub controlled : List Operation → Control → Core → Core
controlled p Onward c = advanced p c
controlled p (Repeating n) c = repeated c n
controlled p (RepeatingRegister r) c = repeated c (register c.w r)
controlled p (Looping n) c = entered c n
controlled p (LoopingRegister r) c = entered c (register c.w r)
controlled p EndingEarly c = advanced p (ended_early p c)
controlled p (SettingMode word) c = advanced p (with_mode c word)
controlled p Clearing c = advanced p c

-- 21 DO literal, 22 DO register
abbrev pub begins : Control → Bool
begins Onward = false
begins (Repeating n) = false
begins (RepeatingRegister r) = false
begins (Looping n) = true
begins (LoopingRegister r) = true
begins EndingEarly = false
begins (SettingMode word) = false
begins Clearing = false

-- only kind 25 clears a saturation flag
abbrev pub clears : Control → Bool
clears Onward = false
clears (Repeating n) = false
clears (RepeatingRegister r) = false
clears (Looping n) = false
clears (LoopingRegister r) = false
clears EndingEarly = false
clears (SettingMode word) = false
clears Clearing = true

-- the engine's state: the core, and the flags that stay
unfoldable pub state_controlled : List Operation → Control → State → State
state_controlled p k s =
    record { core = controlled p k s.core; sa = cond (clears k) false s.sa; sb = cond (clears k) false s.sb }
