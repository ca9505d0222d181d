-- The 8 bytes b0..b7 of an operation. b0 is the kind; bytes that the kind does not use are 0.
use Rattle.std.specs.Prelude.{ℕ, ◌+◌, ◌*◌, ◌/◌, ◌%◌, List, [], ◌∷◌}
use Rattle.accumulator.specs.declared.mode.Target.{Target}
use Rattle.accumulator.specs.declared.mode.Target.TheVariants.{A, B}
use Rattle.operations.specs.declared.operation.Action.{Action}
use Rattle.operations.specs.declared.operation.Action.TheVariants.{Clr, Mpy, Mac, Msc, Ed, Edac, Movsac}
use Rattle.operations.specs.declared.operation.Prefetch.{Prefetch}
use Rattle.operations.specs.declared.operation.Prefetch.TheVariants.{None as NoPrefetch, Pointer, Sum}
use Rattle.operations.specs.declared.operation.WriteBack.{WriteBack}
use Rattle.operations.specs.declared.operation.WriteBack.TheVariants.{None as NoWriteBack, Register as ToRegister, Memory as ToMemory}
use Rattle.operations.specs.declared.operation.PostModification.{PostModification}
use Rattle.operations.specs.declared.operation.PostModification.TheVariants.{None as Stays, Increment, Decrement}
use Rattle.operations.specs.declared.operation.Operand.{Operand}
use Rattle.operations.specs.declared.operation.Operand.TheVariants.{Register, Memory}
use Rattle.operations.specs.declared.operation.MacClass.{MacClass}
use Rattle.operations.specs.declared.operation.Operation.{Operation}
use Rattle.operations.specs.declared.operation.Operation.TheVariants.{MacClass as MacOperation, AddAccumulators, Subtract, Negate, Shift, Lac, Add, Sac}
use Rattle.operations.specs.declared.operation.Operation.TheVariants.{SacR, Literal, Load, Store, Repeat, RepeatRegister, Do, DoRegister, EndEarly, SetMode}
use Rattle.operations.specs.declared.operation.Operation.TheVariants.{ClearSaturation}

-- target: 0 A, 1 B
abbrev pub target_byte : Target → ℕ
target_byte A = 0
target_byte B = 1

-- low nibble and high nibble of a byte
abbrev pub nibbles : ℕ → ℕ → ℕ
nibbles low high = low % 16 + 16 * (high % 16)

-- ---- kinds 1 CLR, 2 MPY, 3 MAC, 4 MSC, 5 ED, 6 EDAC, 7 MOVSAC

-- the kind by the action
abbrev pub action_byte : Action → ℕ
action_byte Clr = 1
action_byte Mpy = 2
action_byte Mac = 3
action_byte Msc = 4
action_byte Ed = 5
action_byte Edac = 6
action_byte Movsac = 7

-- 0, or a pointer with high nibble c, or the byte that stands for the sum of two registers
abbrev pub prefetch_byte : Prefetch → ℕ → ℕ
prefetch_byte NoPrefetch sum = 0
prefetch_byte (Pointer r c) sum = nibbles r c
prefetch_byte Sum sum = sum

-- write-back: 0 none, 1 to W13, 2 to memory at W13
abbrev pub write_back_byte : WriteBack → ℕ
write_back_byte NoWriteBack = 0
write_back_byte ToRegister = 1
write_back_byte ToMemory = 2

-- b2 low nibble m, high nibble n; b3 with 12 for W9 + W12; b4 with 13 for W11 + W13; b5 low nibble X destination, high nibble Y destination
abbrev pub mac_bytes : MacClass → List ℕ
mac_bytes k =
    action_byte k.action ∷ target_byte k.target ∷ nibbles k.m k.n
    ∷ prefetch_byte k.x 12 ∷ prefetch_byte k.y 13 ∷ nibbles k.xto k.yto ∷ write_back_byte k.back ∷ 0 ∷ []

-- ---- kinds 12 LAC, 13 ADD, 14 SAC, 15 SAC.R: b2 shift + 8, b3 register, b4 form

-- form: 1 memory, 2 memory then + 2, 3 memory then - 2
abbrev pub post_byte : PostModification → ℕ
post_byte Stays = 1
post_byte Increment = 2
post_byte Decrement = 3

-- the register of an operand
abbrev pub pointer_byte : Operand → ℕ
pointer_byte (Register r) = r
pointer_byte (Memory p post) = p

-- form 0 is direct
abbrev pub form_byte : Operand → ℕ
form_byte (Register r) = 0
form_byte (Memory p post) = post_byte post

-- the four kinds with their operand
abbrev pub operand_bytes : ℕ → Target → ℕ → Operand → List ℕ
operand_bytes kind t shift o = kind ∷ target_byte t ∷ shift ∷ pointer_byte o ∷ form_byte o ∷ 0 ∷ 0 ∷ 0 ∷ []

-- ---- kinds 17 load to, 18 store from b1: pointer b3, form b4

-- both kinds
abbrev pub pointer_bytes : ℕ → ℕ → ℕ → PostModification → List ℕ
pointer_bytes kind r p post = kind ∷ r ∷ 0 ∷ p ∷ post_byte post ∷ 0 ∷ 0 ∷ 0 ∷ []

-- ---- the other kinds: b1, a word in b2-3, a word in b4-5, low byte first

-- a word that a kind does not use is 0
abbrev pub word_bytes : ℕ → ℕ → ℕ → ℕ → List ℕ
word_bytes kind b1 first second = kind ∷ b1 ∷ first % 256 ∷ first / 256 ∷ second % 256 ∷ second / 256 ∷ 0 ∷ 0 ∷ []

-- ---- all kinds

-- the bytes of each kind
unfoldable pub encode_of : Operation → List ℕ
encode_of (MacOperation k) = mac_bytes k
encode_of (AddAccumulators t) = word_bytes 8 (target_byte t) 0 0
encode_of (Subtract t) = word_bytes 9 (target_byte t) 0 0
encode_of (Negate t) = word_bytes 10 (target_byte t) 0 0
encode_of (Shift t r) = 11 ∷ target_byte t ∷ 0 ∷ r ∷ 0 ∷ 0 ∷ 0 ∷ 0 ∷ []
encode_of (Lac t s o) = operand_bytes 12 t s o
encode_of (Add t s o) = operand_bytes 13 t s o
encode_of (Sac t s o) = operand_bytes 14 t s o
encode_of (SacR t s o) = operand_bytes 15 t s o
encode_of (Literal r v) = word_bytes 16 r v 0
encode_of (Load r p post) = pointer_bytes 17 r p post
encode_of (Store r p post) = pointer_bytes 18 r p post
encode_of (Repeat n) = word_bytes 19 0 n 0
encode_of (RepeatRegister r) = word_bytes 20 r 0 0
encode_of (Do n last) = word_bytes 21 0 n last
encode_of (DoRegister r last) = word_bytes 22 r 0 last
encode_of EndEarly = word_bytes 23 0 0 0
encode_of (SetMode w) = word_bytes 24 0 w 0
encode_of ClearSaturation = word_bytes 25 0 0 0
