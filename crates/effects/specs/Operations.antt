-- What each kind comes to, in the order of document 01. All reads use old registers and precede the write. What kinds 19 to 25 do to repeat left,
-- loops, mode and flags is Control's.
use Rattle.std.specs.Prelude.{ℕ, ◌+◌, true, false, cond, List, ltb, ℤ, pos, neg_ℤ, ◌+ℤ◌, ◌-ℤ◌, ◌*ℤ◌, length, get_or}
use Rattle.integers.specs.Bits.{signed_of}
use Rattle.accumulator.specs.Shift.{shift_of, shift_allowed}
use Rattle.accumulator.specs.declared.mode.Mode.{Mode}
use Rattle.accumulator.specs.declared.mode.Target.{Target}
use Rattle.operations.specs.declared.operation.Operand.{Operand}
use Rattle.operations.specs.declared.operation.Operand.TheVariants.{Memory as Pointed}
use Rattle.operations.specs.declared.operation.PostModification.{PostModification}
use Rattle.operations.specs.declared.operation.Operation.{Operation}
use Rattle.operations.specs.declared.operation.Operation.TheVariants.{MacClass as MacOperation, AddAccumulators, Subtract, Negate, Shift, Lac, Add, Sac}
use Rattle.operations.specs.declared.operation.Operation.TheVariants.{SacR, Literal, Load, Store, Repeat, RepeatRegister, Do, DoRegister, EndEarly, SetMode}
use Rattle.operations.specs.declared.operation.Operation.TheVariants.{ClearSaturation}
use Rattle.state.specs.State.{register, accumulator_of, other_of}
use Rattle.state.specs.declared.settings.Settings.{Settings}
use Rattle.state.specs.declared.state.Core.{Core}
use Rattle.effects.specs.Access.{operand_access, word_at, changed}
use Rattle.effects.specs.Effect.{Work, quiet, blocked, results, stores, unless_trap}
use Rattle.effects.specs.Mac.{mac_work}
use Rattle.effects.specs.declared.pointer.Purpose.TheVariants.{Read, Store as Storing}
use Rattle.effects.specs.declared.access.Access.{Access}
use Rattle.effects.specs.declared.access.Place.TheVariants.{Register}
use Rattle.effects.specs.declared.effect.Value.{Value}
use Rattle.effects.specs.declared.effect.Value.TheVariants.{Word, Scaled}

-- ---- 11 shift by the signed value of register b3

-- trap 3: shift beyond ±16
unfoldable pub shift_work : Target → ℤ → Core → Work
shift_work t n c = cond (shift_allowed n) (results c.w t (shift_of (accumulator_of c t) n)) (blocked c.w 3)

-- ---- 12 LAC, 13 ADD, 14 SAC truncated, 15 SAC.R rounded

-- b2 = shift + 8
unfoldable pub byte_shift : ℕ → ℤ
byte_shift b2 = pos b2 -ℤ pos 8

-- word, signed, × 65,536, shifted
unfoldable pub loaded_value : ℕ → ℕ → ℤ
loaded_value x b2 = shift_of (signed_of 16 x *ℤ pos 65536) (byte_shift b2)

-- the value at an operand, added to v, and its pointer's change
unfoldable pub load_work : Settings → Target → ℤ → ℕ → Operand → Core → List ℕ → Work
load_work s t v b2 from c memory =
    let a = operand_access s Read from c.w (length memory) in
    unless_trap c.w a.trap (results (changed a.change c.w) t (v +ℤ loaded_value (word_at a.place c.w memory) b2))

-- a value to an operand
unfoldable pub store_work : Settings → Operand → Value → Core → List ℕ → Work
store_work s to v c memory =
    let a = operand_access s Storing to c.w (length memory) in
    unless_trap c.w a.trap (stores (changed a.change c.w) a.place v)

-- the exact scaled value
abbrev pub scaled_of : Core → Target → ℕ → ℤ
scaled_of c t b2 = shift_of (accumulator_of c t) (byte_shift b2)

-- ---- 17 load to b1

-- a loaded word beats a pointer change to the same register: it is the store, which comes after
unfoldable pub move_work : Settings → ℕ → ℕ → PostModification → Core → List ℕ → Work
move_work s to p post c memory =
    let a = operand_access s Read (Pointed p post) c.w (length memory) in
    unless_trap c.w a.trap (stores (changed a.change c.w) (Register to) (Word (word_at a.place c.w memory)))

-- ---- 21, 22 DO

-- trap 4: DO with four loops active
unfoldable pub loop_work : Core → Work
loop_work c = cond (ltb c.loops.depth 4) (quiet c.w) (blocked c.w 4)

-- ---- all kinds

-- 1 to 7; 8 to 11; 12 to 15; 16 to 18; 19 to 22; 23 to 25
unfoldable pub work_of : Settings → Mode → Operation → Core → List ℕ → Work
work_of s m (MacOperation k) c memory = mac_work s m k c memory
work_of s m (AddAccumulators t) c memory = results c.w t (c.a +ℤ c.b)
work_of s m (Subtract t) c memory = results c.w t (accumulator_of c t -ℤ accumulator_of c (other_of t))
work_of s m (Negate t) c memory = results c.w t (neg_ℤ (accumulator_of c t))
work_of s m (Shift t r) c memory = shift_work t (signed_of 16 (register c.w r)) c
work_of s m (Lac t b2 from) c memory = load_work s t (pos 0) b2 from c memory
work_of s m (Add t b2 from) c memory = load_work s t (accumulator_of c t) b2 from c memory
work_of s m (Sac t b2 to) c memory = store_work s to (Scaled false (scaled_of c t b2)) c memory
work_of s m (SacR t b2 to) c memory = store_work s to (Scaled true (scaled_of c t b2)) c memory
work_of s m (Literal r v) c memory = stores c.w (Register r) (Word v)
work_of s m (Load r p post) c memory = move_work s r p post c memory
work_of s m (Store r p post) c memory = store_work s (Pointed p post) (Word (register c.w r)) c memory
work_of s m (Repeat n) c memory = quiet c.w
work_of s m (RepeatRegister r) c memory = quiet c.w
work_of s m (Do n last) c memory = loop_work c
work_of s m (DoRegister r last) c memory = loop_work c
work_of s m EndEarly c memory = quiet c.w
work_of s m (SetMode word) c memory = quiet c.w
work_of s m ClearSaturation c memory = quiet c.w
