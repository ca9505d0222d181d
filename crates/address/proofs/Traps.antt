-- A trap has a number from 1 on. Assumes nothing.
use Rattle.std.proofs.Common.{◌≡◌, arith}
use Rattle.address.specs.Trap.{trap_number}
use Rattle.address.specs.declared.trap.Trap.{Trap}
use Rattle.address.specs.declared.trap.Trap.TheVariants.{OddAddress, OutsideRegion, ShiftAmount, LoopDepth, LimitsLeft, OverflowA, OverflowB}

pub trap_some : (t : Trap) → trap_number t ≡ 0 → ⊥
trap_some OddAddress e = absurd (omega arith)
trap_some OutsideRegion e = absurd (omega arith)
trap_some ShiftAmount e = absurd (omega arith)
trap_some LoopDepth e = absurd (omega arith)
trap_some LimitsLeft e = absurd (omega arith)
trap_some OverflowA e = absurd (omega arith)
trap_some OverflowB e = absurd (omega arith)
