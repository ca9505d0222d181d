-- What kinds 12 to 15, 17 and 18 access and store, by their words.
use Rattle.std.specs.Prelude.{ℕ, Bool, cond, ◌||◌, List, ◌≡◌, eqb, ℤ, pos, length, get_or, Result}
use Rattle.accumulator.specs.Shift.{shift_of}
use Rattle.address.specs.Trap.{failed_by}
use Rattle.address.specs.declared.trap.Trap.{Trap}
use Rattle.operations.specs.Decode.{operand_of}
use Rattle.state.specs.State.{register}
use Rattle.state.specs.declared.settings.Settings.{Settings}
use Rattle.effects.specs.Access.{operand_access, changed}
use Rattle.effects.specs.Operations.{byte_shift}
use Rattle.effects.specs.declared.access.Access.{Access}
use Rattle.effects.specs.declared.effect.Value.{Value}
use Rattle.effects.specs.declared.effect.Value.TheVariants.{Word, Scaled}
use Rattle.effects.specs.declared.pointer.Purpose.{Purpose}
use Rattle.effects.specs.declared.pointer.Purpose.TheVariants.{Read as Reading}
use Rattle.form.specs.Words.{field, kind_in}
use Rattle.fields.specs.Carried.{Reads}

-- 12 LAC, 13 ADD, 17 load to a register
abbrev pub is_load : ℕ → Bool
is_load kind = eqb kind 12 || eqb kind 13 || eqb kind 17

-- 14 SAC, 15 SAC.R, 18 store from a register
abbrev pub is_store : ℕ → Bool
is_store kind = eqb kind 14 || eqb kind 15 || eqb kind 18

-- the access of the operand in words 4 and 6, in a memory of so many words
abbrev pub access_in : Settings → Purpose → List ℕ → ℕ → List ℕ → ℕ → Access
access_in s purpose code at w words = operand_access s purpose (operand_of (field code at 4) (field code at 6)) w words

-- it is read, and registers w become w' by its pointer's change; with a trap they stay
pub record LoadsOperand (s : Settings) (code : List ℕ) (at : ℕ) (w memory w' : List ℕ) (x : Result ℕ Trap) : Type 0 where
  pub reads : Reads x (access_in s Reading code at w (length memory)) w memory
  pub moves : w' ≡ cond (eqb (failed_by x) 0) (changed (access_in s Reading code at w (length memory)).change w) w

-- what kinds 14, 15 and 18 store: the target, shifted, or a register
abbrev pub stored_by : List ℕ → ℕ → List ℤ → List ℕ → Value
stored_by code at acc w =
    cond (eqb (kind_in code at) 18) (Word (register w (field code at 1)))
    (Scaled (eqb (kind_in code at) 15) (shift_of (get_or acc (field code at 1) (pos 0)) (byte_shift (field code at 2))))
