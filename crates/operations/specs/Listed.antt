-- Which operations are listed: the range of every field, kind by kind.
use Rattle.std.specs.Prelude.{ℕ, ◌+◌, Bool, true, false, cond, not, ◌&&◌, ◌||◌, eqb, leb, ltb}
use Rattle.accumulator.specs.Mode.{is_good_mode}
use Rattle.operations.specs.Encode.{action_byte}
use Rattle.operations.specs.declared.operation.Prefetch.{Prefetch}
use Rattle.operations.specs.declared.operation.Prefetch.TheVariants.{None as NoPrefetch, Pointer, Sum}
use Rattle.operations.specs.declared.operation.WriteBack.{WriteBack}
use Rattle.operations.specs.declared.operation.WriteBack.TheVariants.{None as NoWriteBack, Register as ToRegister, Memory as ToMemory}
use Rattle.operations.specs.declared.operation.Operand.{Operand}
use Rattle.operations.specs.declared.operation.Operand.TheVariants.{Register, Memory}
use Rattle.operations.specs.declared.operation.MacClass.{MacClass}
use Rattle.operations.specs.declared.operation.Operation.{Operation}
use Rattle.operations.specs.declared.operation.Operation.TheVariants.{MacClass as MacOperation, AddAccumulators, Subtract, Negate, Shift, Lac, Add, Sac}
use Rattle.operations.specs.declared.operation.Operation.TheVariants.{SacR, Literal, Load, Store, Repeat, RepeatRegister, Do, DoRegister, EndEarly, SetMode}
use Rattle.operations.specs.declared.operation.Operation.TheVariants.{ClearSaturation}

-- register 0..13
abbrev pub is_register : ℕ → Bool
is_register r = ltb r 14

-- a literal, a mode word, DO's last: 16 bits
abbrev pub is_word : ℕ → Bool
is_word v = ltb v 65536

-- ---- kinds 1 CLR, 2 MPY, 3 MAC, 4 MSC, 5 ED, 6 EDAC, 7 MOVSAC

-- factors and destinations: registers 4..7
abbrev pub is_factor : ℕ → Bool
is_factor r = leb 4 r && leb r 7

-- b2: m and n, registers 4..7, equal for 5 and 6; 0 for 1 and 7
abbrev pub are_factors : ℕ → ℕ → ℕ → Bool
are_factors kind m n =
    cond (eqb kind 1 || eqb kind 7)
    (eqb m 0 && eqb n 0)
    (is_factor m && is_factor n && (not (eqb kind 5 || eqb kind 6) || eqb m n))

-- b3, pointers 8 and 9, and b4, pointers 10 and 11: c = 0..6
abbrev pub is_prefetch : ℕ → Prefetch → Bool
is_prefetch first NoPrefetch = true
is_prefetch first (Pointer r c) = (eqb r first || eqb r (first + 1)) && leb c 6
is_prefetch first Sum = true

-- there is a read
abbrev pub reads : Prefetch → Bool
reads NoPrefetch = false
reads (Pointer r c) = true
reads Sum = true

-- b5: 4..7, 0 without that read
abbrev pub is_destination : Prefetch → ℕ → Bool
is_destination p to = cond (reads p) (is_factor to) (eqb to 0)

-- b5: kinds 5, 6 need both reads and have the X destination alone; else the two are different where both are read
abbrev pub are_destinations : ℕ → Prefetch → Prefetch → ℕ → ℕ → Bool
are_destinations kind x y xto yto =
    cond (eqb kind 5 || eqb kind 6)
    (reads x && reads y && is_factor xto && eqb yto 0)
    (is_destination x xto && is_destination y yto && not (reads x && reads y && eqb xto yto))

-- b6: write-back, kinds 1, 3, 4, 7
abbrev pub may_write_back : ℕ → Bool
may_write_back kind = eqb kind 1 || eqb kind 3 || eqb kind 4 || eqb kind 7

-- and no write-back in the others
abbrev pub is_write_back : ℕ → WriteBack → Bool
is_write_back kind NoWriteBack = true
is_write_back kind ToRegister = may_write_back kind
is_write_back kind ToMemory = may_write_back kind

-- all fields of kinds 1 to 7
unfoldable pub is_listed_mac : MacClass → Bool
is_listed_mac k =
    are_factors (action_byte k.action) k.m k.n
    && is_prefetch 8 k.x
    && is_prefetch 10 k.y
    && are_destinations (action_byte k.action) k.x k.y k.xto k.yto
    && is_write_back (action_byte k.action) k.back

-- ---- kinds 12 LAC, 13 ADD, 14 SAC, 15 SAC.R: the shift's byte 0..15, a register or a pointer

-- shift and operand
abbrev pub is_listed_operand : ℕ → Operand → Bool
is_listed_operand shift (Register r) = ltb shift 16 && is_register r
is_listed_operand shift (Memory p post) = ltb shift 16 && is_register p

-- ---- kinds 19 REPEAT, 21 DO: literal 0..32,767

-- 15 bits
abbrev pub is_count : ℕ → Bool
is_count n = ltb n 32768

-- ---- all kinds

-- every field of an operation is in its range
unfoldable pub is_listed : Operation → Bool
is_listed (MacOperation k) = is_listed_mac k
is_listed (AddAccumulators t) = true
is_listed (Subtract t) = true
is_listed (Negate t) = true
is_listed (Shift t r) = is_register r
is_listed (Lac t s o) = is_listed_operand s o
is_listed (Add t s o) = is_listed_operand s o
is_listed (Sac t s o) = is_listed_operand s o
is_listed (SacR t s o) = is_listed_operand s o
is_listed (Literal r v) = is_register r && is_word v
is_listed (Load r p post) = is_register r && is_register p
is_listed (Store r p post) = is_register r && is_register p
is_listed (Repeat n) = is_count n
is_listed (RepeatRegister r) = is_register r
is_listed (Do n last) = is_count n && is_word last
is_listed (DoRegister r last) = is_register r && is_word last
is_listed EndEarly = true
is_listed (SetMode w) = is_good_mode w && is_word w
is_listed ClearSaturation = true
