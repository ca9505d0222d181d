-- The operation that 8 bytes b0..b7 are.
use Rattle.std.specs.Prelude.{ℕ, ◌/◌, ◌%◌, List, Bool, true, false, cond, ◌&&◌, eqb, leb, Option, Some, None}
use Rattle.accumulator.specs.declared.mode.Target.{Target}
use Rattle.accumulator.specs.declared.mode.Target.TheVariants.{A, B}
use Rattle.operations.specs.Bytes.{byte, word, is_same}
use Rattle.operations.specs.Encode.{encode_of}
use Rattle.operations.specs.Listed.{is_listed}
use Rattle.operations.specs.declared.operation.Action.{Action}
use Rattle.operations.specs.declared.operation.Action.TheVariants.{Clr, Mpy, Mac, Msc, Ed, Edac, Movsac}
use Rattle.operations.specs.declared.operation.Prefetch.{Prefetch}
use Rattle.operations.specs.declared.operation.Prefetch.TheVariants.{None as NoPrefetch, Pointer, Sum}
use Rattle.operations.specs.declared.operation.WriteBack.{WriteBack}
use Rattle.operations.specs.declared.operation.WriteBack.TheVariants.{None as NoWriteBack, Register as ToRegister, Memory as ToMemory}
use Rattle.operations.specs.declared.operation.PostModification.{PostModification}
use Rattle.operations.specs.declared.operation.PostModification.TheVariants.{None as Stays, Increment, Decrement}
use Rattle.operations.specs.declared.operation.Operand.{Operand}
use Rattle.operations.specs.declared.operation.Operand.TheVariants.{Register, Memory}
use Rattle.operations.specs.declared.operation.Operation.{Operation}
use Rattle.operations.specs.declared.operation.Operation.TheVariants.{MacClass as MacOperation, AddAccumulators, Subtract, Negate, Shift, Lac, Add, Sac}
use Rattle.operations.specs.declared.operation.Operation.TheVariants.{SacR, Literal, Load, Store, Repeat, RepeatRegister, Do, DoRegister, EndEarly, SetMode}
use Rattle.operations.specs.declared.operation.Operation.TheVariants.{ClearSaturation}

-- b1 is target (0 A, 1 B)
abbrev pub target_of : ℕ → Target
target_of b1 = cond (eqb b1 0) A B

-- ---- 1 CLR, 2 MPY, 3 MAC, 4 MSC, 5 ED, 6 EDAC, 7 MOVSAC

-- the action by the kind
abbrev pub action_of : ℕ → Action
action_of kind =
    cond (eqb kind 1) Clr
    (cond (eqb kind 2) Mpy
    (cond (eqb kind 3) Mac
    (cond (eqb kind 4) Msc
    (cond (eqb kind 5) Ed
    (cond (eqb kind 6) Edac
    Movsac)))))

-- b3: 0, or 12 for address W9 + W12, or low nibble the pointer and high nibble c; b4 the same with 13
abbrev pub prefetch_of : ℕ → ℕ → Prefetch
prefetch_of b sum = cond (eqb b 0) NoPrefetch (cond (eqb b sum) Sum (Pointer (b % 16) (b / 16)))

-- b6 write-back: 0 none, 1 to W13, 2 to memory at W13
abbrev pub write_back_of : ℕ → WriteBack
write_back_of b6 = cond (eqb b6 0) NoWriteBack (cond (eqb b6 1) ToRegister ToMemory)

-- b2 low nibble m, high nibble n; b5 low nibble X destination, high nibble Y destination
abbrev pub mac_of : List ℕ → Operation
mac_of b =
    MacOperation
    (record {
      action = action_of (byte b 0);
      target = target_of (byte b 1);
      m = byte b 2 % 16;
      n = byte b 2 / 16;
      x = prefetch_of (byte b 3) 12;
      xto = byte b 5 % 16;
      y = prefetch_of (byte b 4) 13;
      yto = byte b 5 / 16;
      back = write_back_of (byte b 6);
    })

-- ---- 8 A + B, 9 target minus other, 10 negate, 11 shift by the signed value of register b3

-- b1 is the target, the rest unused but b3 in 11
abbrev pub arithmetic_of : List ℕ → Operation
arithmetic_of b =
    cond (eqb (byte b 0) 8) (AddAccumulators (target_of (byte b 1)))
    (cond (eqb (byte b 0) 9) (Subtract (target_of (byte b 1)))
    (cond (eqb (byte b 0) 10) (Negate (target_of (byte b 1)))
    (Shift (target_of (byte b 1)) (byte b 3))))

-- ---- 12 LAC, 13 ADD, 14 SAC truncated, 15 SAC.R rounded: b2 = shift + 8, b3 register, b4 form

-- form 1 memory, 2 memory then + 2, 3 memory then - 2
abbrev pub post_of : ℕ → PostModification
post_of form = cond (eqb form 1) Stays (cond (eqb form 2) Increment Decrement)

-- form 0 direct
abbrev pub operand_of : ℕ → ℕ → Operand
operand_of r form = cond (eqb form 0) (Register r) (Memory r (post_of form))

-- b1 is the target
abbrev pub transfer_of : List ℕ → Operation
transfer_of b =
    cond (eqb (byte b 0) 12) (Lac (target_of (byte b 1)) (byte b 2) (operand_of (byte b 3) (byte b 4)))
    (cond (eqb (byte b 0) 13) (Add (target_of (byte b 1)) (byte b 2) (operand_of (byte b 3) (byte b 4)))
    (cond (eqb (byte b 0) 14) (Sac (target_of (byte b 1)) (byte b 2) (operand_of (byte b 3) (byte b 4)))
    (SacR (target_of (byte b 1)) (byte b 2) (operand_of (byte b 3) (byte b 4)))))

-- ---- 16 literal b2-3 to register b1, 17 load to, 18 store from b1: pointer b3, form b4

-- b1 is the register
abbrev pub move_of : List ℕ → Operation
move_of b =
    cond (eqb (byte b 0) 16) (Literal (byte b 1) (word b 2))
    (cond (eqb (byte b 0) 17) (Load (byte b 1) (byte b 3) (post_of (byte b 4)))
    (Store (byte b 1) (byte b 3) (post_of (byte b 4))))

-- ---- 19 REPEAT literal b2-3, 20 REPEAT register b1, 21 DO literal b2-3, 22 DO register b1, b4-5 the last operation's number, 23 end early,
-- 24 mode word b2-3, 25 clears SA and SB

-- by the kind
abbrev pub control_operation_of : List ℕ → Operation
control_operation_of b =
    cond (eqb (byte b 0) 19) (Repeat (word b 2))
    (cond (eqb (byte b 0) 20) (RepeatRegister (byte b 1))
    (cond (eqb (byte b 0) 21) (Do (word b 2) (word b 4))
    (cond (eqb (byte b 0) 22) (DoRegister (byte b 1) (word b 4))
    (cond (eqb (byte b 0) 23) EndEarly
    (cond (eqb (byte b 0) 24) (SetMode (word b 2))
    ClearSaturation)))))

-- ---- all kinds

-- b0 is the kind; of bytes that are no operation's, some operation that is not listed or has other bytes
unfoldable pub operation_of : List ℕ → Operation
operation_of b =
    cond (leb (byte b 0) 7) (mac_of b)
    (cond (leb (byte b 0) 11) (arithmetic_of b)
    (cond (leb (byte b 0) 15) (transfer_of b)
    (cond (leb (byte b 0) 18) (move_of b)
    (control_operation_of b))))

-- an operation, if a test holds
abbrev pub listed_if : Bool → Operation → Option Operation
listed_if true o = Some o
listed_if false o = None

-- kind and fields are listed, and unused bytes are 0: the operation is a listed one, and these are its bytes
unfoldable pub decode_of : List ℕ → Option Operation
decode_of b = listed_if (is_listed (operation_of b) && is_same (encode_of (operation_of b)) b) (operation_of b)

-- the refusal of bytes that are no operation: 4, kind or field not listed
abbrev pub decoded_number : Option Operation → ℕ
decoded_number (Some o) = 0
decoded_number None = 4
