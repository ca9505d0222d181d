-- Bytes that decode to an operation and bytes that are refused, worked from document 01's list of operations, by computation of the definitions
-- that the contracts cite. Assumes nothing.
use Prim.Native.Nat.{ℕ}
use mathlib.Core.Path.{◌≡◌, refl}
use mathlib.Core.List.{[], ◌∷◌}
use Rattle.std.specs.Prelude.{Option, Some, None}
use Rattle.accumulator.specs.declared.mode.Target.{Target}
use Rattle.accumulator.specs.declared.mode.Target.TheVariants.{A, B}
use Rattle.accumulator.specs.Mode.{is_good_mode}
use Rattle.operations.specs.declared.operation.Action.{Action}
use Rattle.operations.specs.declared.operation.Action.TheVariants.{Clr, Mpy, Mac, Msc, Ed, Edac, Movsac}
use Rattle.operations.specs.declared.operation.Prefetch.{Prefetch}
use Rattle.operations.specs.declared.operation.Prefetch.TheVariants.{None as NoPrefetch, Pointer, Sum}
use Rattle.operations.specs.declared.operation.WriteBack.{WriteBack}
use Rattle.operations.specs.declared.operation.WriteBack.TheVariants.{None as NoWriteBack, Register as ToRegister, Memory as ToMemory}
use Rattle.operations.specs.declared.operation.PostModification.TheVariants.{None as Stays, Increment, Decrement}
use Rattle.operations.specs.declared.operation.Operand.TheVariants.{Register, Memory}
use Rattle.operations.specs.declared.operation.Operation.{Operation}
use Rattle.operations.specs.declared.operation.Operation.TheVariants.{MacClass as MacOperation, AddAccumulators, Subtract, Negate, Shift}
use Rattle.operations.specs.declared.operation.Operation.TheVariants.{Lac, Add, Sac, SacR, Literal, Load, Store, Repeat, RepeatRegister, Do}
use Rattle.operations.specs.declared.operation.Operation.TheVariants.{DoRegister, EndEarly, SetMode, ClearSaturation}
use Rattle.operations.specs.Encode.{encode_of}
use Rattle.operations.specs.Listed.{is_listed_mac, is_listed}
use Rattle.operations.specs.Decode.{operation_of, decode_of}

-- what b0..b7 decode to
abbrev decodes : ℕ → ℕ → ℕ → ℕ → ℕ → ℕ → ℕ → ℕ → Option Operation
decodes b0 b1 b2 b3 b4 b5 b6 b7 = decode_of (b0 ∷ b1 ∷ b2 ∷ b3 ∷ b4 ∷ b5 ∷ b6 ∷ b7 ∷ [])

-- kinds 1 to 7: action, target, m, n, X read and its destination, Y read and its destination, write-back
abbrev mac : Action → Target → ℕ → ℕ → Prefetch → ℕ → Prefetch → ℕ → WriteBack → Option Operation
mac a t m n x xto y yto w =
    Some (MacOperation (record { action = a; target = t; m = m; n = n; x = x; xto = xto; y = y; yto = yto; back = w }))

-- ---- 1 CLR, 2 MPY, 3 MAC, 4 MSC, 5 ED, 6 EDAC, 7 MOVSAC

-- each action once, MSC and MOVSAC also with write-back; a MAC of W4 and W5 with W8 and W10 read, steps 2 (c = 4), to W4 and W5, and write-back
-- to W13
macs :
    (decodes 1 1 0 0 0 0 2 0 ≡ mac Clr B 0 0 NoPrefetch 0 NoPrefetch 0 ToMemory)
    × (decodes 2 0 0x77 0 0x3b 0x40 0 0 ≡ mac Mpy A 7 7 NoPrefetch 0 (Pointer 11 3) 4 NoWriteBack)
    × (decodes 3 0 0x54 0x48 0x4a 0x54 1 0 ≡ mac Mac A 4 5 (Pointer 8 4) 4 (Pointer 10 4) 5 ToRegister)
    × (decodes 4 1 0x67 0x0c 0x0d 0x67 0 0 ≡ mac Msc B 7 6 Sum 7 Sum 6 NoWriteBack)
    × (decodes 5 0 0x44 0x69 0x0b 0x05 0 0 ≡ mac Ed A 4 4 (Pointer 9 6) 5 (Pointer 11 0) 0 NoWriteBack)
    × (decodes 6 1 0x66 0x08 0x0d 0x06 0 0 ≡ mac Edac B 6 6 (Pointer 8 0) 6 Sum 0 NoWriteBack)
    × (decodes 7 1 0 0x0c 0 0x07 0 0 ≡ mac Movsac B 0 0 Sum 7 NoPrefetch 0 NoWriteBack)
    × (decodes 4 1 0x67 0x0c 0x0d 0x67 2 0 ≡ mac Msc B 7 6 Sum 7 Sum 6 ToMemory)
    × (decodes 7 1 0 0x0c 0 0x07 1 0 ≡ mac Movsac B 0 0 Sum 7 NoPrefetch 0 ToRegister)
unfolding decode_of operation_of encode_of is_listed is_listed_mac
macs = (refl, refl, refl, refl, refl, refl, refl, refl, refl)

-- b1 2, b2 with W3 and with W8, b3 with W10, with c = 7 and 12 with a high nibble, b4 with W9 and 13 with a high nibble, b6 3, b7 1
macs_refused :
    (decodes 3 2 0x54 0x48 0x4a 0x54 1 0 ≡ None)
    × (decodes 3 0 0x53 0x48 0x4a 0x54 1 0 ≡ None)
    × (decodes 3 0 0x84 0x48 0x4a 0x54 1 0 ≡ None)
    × (decodes 3 0 0x54 0x4a 0x4a 0x54 1 0 ≡ None)
    × (decodes 3 0 0x54 0x78 0x4a 0x54 1 0 ≡ None)
    × (decodes 3 0 0x54 0x1c 0x4a 0x54 1 0 ≡ None)
    × (decodes 3 0 0x54 0x48 0x49 0x54 1 0 ≡ None)
    × (decodes 3 0 0x54 0x48 0x1d 0x54 1 0 ≡ None)
    × (decodes 3 0 0x54 0x48 0x4a 0x54 3 0 ≡ None)
    × (decodes 3 0 0x54 0x48 0x4a 0x54 1 1 ≡ None)
unfolding decode_of operation_of encode_of is_listed is_listed_mac
macs_refused = (refl, refl, refl, refl, refl, refl, refl, refl, refl, refl)

-- b5: both reads to W4; a read without a destination, W8 as one, a destination without a read
destinations_refused :
    (decodes 3 0 0x54 0x48 0x4a 0x44 1 0 ≡ None)
    × (decodes 3 0 0x54 0x48 0x4a 0x04 1 0 ≡ None)
    × (decodes 3 0 0x54 0x48 0x4a 0x58 1 0 ≡ None)
    × (decodes 3 0 0x54 0x48 0 0x54 1 0 ≡ None)
unfolding decode_of operation_of encode_of is_listed is_listed_mac
destinations_refused = (refl, refl, refl, refl)

-- by the kind: factors of CLR and MOVSAC, b1 2 of MOVSAC, write-back of MPY, ED and EDAC, two factors and one read of ED,
-- a Y destination of EDAC, two factors of EDAC, ED without an X read
kinds_refused :
    (decodes 1 1 0x54 0 0 0 2 0 ≡ None)
    × (decodes 7 1 0x44 0x0c 0 0x07 0 0 ≡ None)
    × (decodes 7 2 0 0x0c 0 0x07 0 0 ≡ None)
    × (decodes 2 0 0x77 0 0x3b 0x40 1 0 ≡ None)
    × (decodes 5 0 0x44 0x69 0x0b 0x05 1 0 ≡ None)
    × (decodes 6 1 0x66 0x08 0x0d 0x06 2 0 ≡ None)
    × (decodes 5 0 0x54 0x69 0x0b 0x05 0 0 ≡ None)
    × (decodes 5 0 0x44 0x69 0 0x05 0 0 ≡ None)
    × (decodes 6 1 0x66 0x08 0x0d 0x76 0 0 ≡ None)
    × (decodes 6 1 0x76 0x08 0x0d 0x06 0 0 ≡ None)
    × (decodes 5 0 0x44 0 0x0b 0x05 0 0 ≡ None)
unfolding decode_of operation_of encode_of is_listed is_listed_mac
kinds_refused = (refl, refl, refl, refl, refl, refl, refl, refl, refl, refl, refl)

-- ---- 8 A + B, 9 target minus other, 10 negate, 11 shift by register b3

arithmetic :
    (decodes 8 0 0 0 0 0 0 0 ≡ Some (AddAccumulators A))
    × (decodes 9 1 0 0 0 0 0 0 ≡ Some (Subtract B))
    × (decodes 10 0 0 0 0 0 0 0 ≡ Some (Negate A))
    × (decodes 11 1 0 13 0 0 0 0 ≡ Some (Shift B 13))
unfolding decode_of operation_of encode_of is_listed
arithmetic = (refl, refl, refl, refl)

-- b1 2, and b2, b3 and b7 where they are unused; W14, and b2 and b4 of kind 11
arithmetic_refused :
    (decodes 8 2 0 0 0 0 0 0 ≡ None)
    × (decodes 8 0 1 0 0 0 0 0 ≡ None)
    × (decodes 9 1 0 1 0 0 0 0 ≡ None)
    × (decodes 10 0 0 0 0 0 0 1 ≡ None)
    × (decodes 11 1 0 14 0 0 0 0 ≡ None)
    × (decodes 11 1 8 13 0 0 0 0 ≡ None)
    × (decodes 11 1 0 13 1 0 0 0 ≡ None)
unfolding decode_of operation_of encode_of is_listed
arithmetic_refused = (refl, refl, refl, refl, refl, refl, refl)

-- ---- 12 LAC, 13 ADD, 14 SAC, 15 SAC.R: b2 is the shift + 8, b4 the form

-- shift 0 of W3; -8 of memory at W13; 7 to memory at W5, then + 2; 1 to memory at W0, then - 2
transfers :
    (decodes 12 0 8 3 0 0 0 0 ≡ Some (Lac A 8 (Register 3)))
    × (decodes 13 1 0 13 1 0 0 0 ≡ Some (Add B 0 (Memory 13 Stays)))
    × (decodes 14 0 15 5 2 0 0 0 ≡ Some (Sac A 15 (Memory 5 Increment)))
    × (decodes 15 1 9 0 3 0 0 0 ≡ Some (SacR B 9 (Memory 0 Decrement)))
unfolding decode_of operation_of encode_of is_listed
transfers = (refl, refl, refl, refl)

-- b1 2, shift 8, W14 direct and as pointer, form 4, b5 and b6 where they are unused, shift 8 of a direct operand
transfers_refused :
    (decodes 12 2 8 3 0 0 0 0 ≡ None)
    × (decodes 14 0 16 5 2 0 0 0 ≡ None)
    × (decodes 12 0 8 14 0 0 0 0 ≡ None)
    × (decodes 13 1 0 14 1 0 0 0 ≡ None)
    × (decodes 15 1 9 0 4 0 0 0 ≡ None)
    × (decodes 14 0 15 5 2 1 0 0 ≡ None)
    × (decodes 15 1 9 0 3 0 1 0 ≡ None)
    × (decodes 12 0 16 3 0 0 0 0 ≡ None)
unfolding decode_of operation_of encode_of is_listed
transfers_refused = (refl, refl, refl, refl, refl, refl, refl, refl)

-- ---- 16 literal b2-3 to b1, 17 load to b1, 18 store from b1: pointer b3, form b4

-- FFFE hex to W5; W4 from memory at W8, then + 2; W13 to memory at W0; W0 to memory at W13, then - 2
moves :
    (decodes 16 5 0xfe 0xff 0 0 0 0 ≡ Some (Literal 5 0xfffe))
    × (decodes 17 4 0 8 2 0 0 0 ≡ Some (Load 4 8 Increment))
    × (decodes 18 13 0 0 1 0 0 0 ≡ Some (Store 13 0 Stays))
    × (decodes 18 0 0 13 3 0 0 0 ≡ Some (Store 0 13 Decrement))
unfolding decode_of operation_of encode_of is_listed
moves = (refl, refl, refl, refl)

-- W14 in b1 and in b3, forms 0 and 4, b2 of 17 and 18, b4 of 16, W14 in b3 of 17 and in b1 of 18
moves_refused :
    (decodes 16 14 0xfe 0xff 0 0 0 0 ≡ None)
    × (decodes 17 14 0 8 2 0 0 0 ≡ None)
    × (decodes 18 13 0 14 1 0 0 0 ≡ None)
    × (decodes 17 4 0 8 0 0 0 0 ≡ None)
    × (decodes 18 13 0 0 4 0 0 0 ≡ None)
    × (decodes 17 4 1 8 2 0 0 0 ≡ None)
    × (decodes 18 13 1 0 1 0 0 0 ≡ None)
    × (decodes 16 5 0xfe 0xff 1 0 0 0 ≡ None)
    × (decodes 17 4 0 14 2 0 0 0 ≡ None)
    × (decodes 18 14 0 0 1 0 0 0 ≡ None)
unfolding decode_of operation_of encode_of is_listed
moves_refused = (refl, refl, refl, refl, refl, refl, refl, refl, refl, refl)

-- ---- 19 and 20 REPEAT, 21 and 22 DO, 23 end early, 24 mode word, 25 clears SA and SB

-- counts 32,767 and 256; DO's last 4,660 and 65,535, which the fields do not judge; every listed bit of the mode word
control :
    (decodes 19 0 0xff 0x7f 0 0 0 0 ≡ Some (Repeat 32767))
    × (decodes 20 13 0 0 0 0 0 0 ≡ Some (RepeatRegister 13))
    × (decodes 21 0 0 1 0x34 0x12 0 0 ≡ Some (Do 256 4660))
    × (decodes 22 0 0 0 0xff 0xff 0 0 ≡ Some (DoRegister 0 65535))
    × (decodes 23 0 0 0 0 0 0 0 ≡ Some EndEarly)
    × (decodes 24 0 0xf3 0x10 0 0 0 0 ≡ Some (SetMode 0x10f3))
    × (decodes 25 0 0 0 0 0 0 0 ≡ Some ClearSaturation)
unfolding decode_of operation_of encode_of is_listed is_good_mode
control = (refl, refl, refl, refl, refl, refl, refl)

-- counts of 32,768, and W14
control_refused :
    (decodes 19 0 0 0x80 0 0 0 0 ≡ None)
    × (decodes 21 0 0 0x80 0x34 0x12 0 0 ≡ None)
    × (decodes 20 14 0 0 0 0 0 0 ≡ None)
    × (decodes 22 14 0 0 0xff 0xff 0 0 ≡ None)
unfolding decode_of operation_of encode_of is_listed
control_refused = (refl, refl, refl, refl)

-- bytes that are unused: b1 of 19, 21, 23 and 25, b2 and b3 of 20 and 22, b4 of 20, b6 of 21, b7 of 25
unused_refused :
    (decodes 19 1 0xff 0x7f 0 0 0 0 ≡ None)
    × (decodes 21 1 0 1 0x34 0x12 0 0 ≡ None)
    × (decodes 23 1 0 0 0 0 0 0 ≡ None)
    × (decodes 25 1 0 0 0 0 0 0 ≡ None)
    × (decodes 20 13 1 0 0 0 0 0 ≡ None)
    × (decodes 22 0 1 0 0xff 0xff 0 0 ≡ None)
    × (decodes 20 13 0 1 0 0 0 0 ≡ None)
    × (decodes 22 0 0 1 0xff 0xff 0 0 ≡ None)
    × (decodes 20 13 0 0 1 0 0 0 ≡ None)
    × (decodes 21 0 0 1 0x34 0x12 1 0 ≡ None)
    × (decodes 25 0 0 0 0 0 0 1 ≡ None)
unfolding decode_of operation_of encode_of is_listed
unused_refused = (refl, refl, refl, refl, refl, refl, refl, refl, refl, refl, refl)

-- bad mode words: US 2, bit 2 and bit 15; b1 and b4 of kind 24
modes_refused :
    (decodes 24 0 0 0x20 0 0 0 0 ≡ None)
    × (decodes 24 0 4 0 0 0 0 0 ≡ None)
    × (decodes 24 0 0 0x80 0 0 0 0 ≡ None)
    × (decodes 24 1 0xf3 0x10 0 0 0 0 ≡ None)
    × (decodes 24 0 0xf3 0x10 1 0 0 0 ≡ None)
unfolding decode_of operation_of encode_of is_listed is_good_mode
modes_refused = (refl, refl, refl, refl, refl)

-- no kind 0 (so not 8 zeros), no kind 26, no kind 255
no_kind : (decodes 0 0 0 0 0 0 0 0 ≡ None) × (decodes 26 0 0 0 0 0 0 0 ≡ None) × (decodes 255 0 0 0 0 0 0 0 ≡ None)
unfolding decode_of operation_of encode_of is_listed is_listed_mac
no_kind = (refl, refl, refl)
