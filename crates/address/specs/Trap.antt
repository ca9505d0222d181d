-- The traps by their numbers.
use Rattle.std.specs.Prelude.{ℕ, Option, Some, None, Result, Ok, Err}
use Rattle.address.specs.declared.trap.Trap.{Trap}
use Rattle.address.specs.declared.trap.Trap.TheVariants.{OddAddress, OutsideRegion, ShiftAmount, LoopDepth, LimitsLeft, OverflowA, OverflowB}

-- 1 odd address, 2 outside its region, 3 shift beyond ±16, 4 DO with four loops active, 5 limits left, 6 OA with OVATE, 7 OB with OVBTE
abbrev pub trap_number : Trap → ℕ
trap_number OddAddress = 1
trap_number OutsideRegion = 2
trap_number ShiftAmount = 3
trap_number LoopDepth = 4
trap_number LimitsLeft = 5
trap_number OverflowA = 6
trap_number OverflowB = 7

-- 0 none
abbrev pub trap_code : Option Trap → ℕ
trap_code None = 0
trap_code (Some t) = trap_number t

-- of what fails by a trap: 0 none
abbrev pub failed_by : {A : Type 0} → Result A Trap → ℕ
failed_by (Ok a) = 0
failed_by (Err t) = trap_number t
