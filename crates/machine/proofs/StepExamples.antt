-- Steps of all 25 kinds, of pointers, traps, flags, repeats and loops, each value worked out by hand from document 01. Assumes nothing.
use Prim.Native.Nat.{ℕ, zero, suc, ◌+◌, ◌-◌, ◌^◌}
use mathlib.Core.Path.{◌≡◌, refl}
use mathlib.Core.Bool.{Bool, true, false}
use mathlib.Core.List.{List, [], ◌∷◌, map}
use lib.IntN.{ℤ, pos}
use lib.ListN.{get_or, set, replicate}
use Rattle.integers.specs.Range.{minus}
use Rattle.accumulator.specs.Mode.{mode_of}
use Rattle.accumulator.specs.declared.mode.Target.{Target}
use Rattle.accumulator.specs.declared.mode.Target.TheVariants.{A, B}
use Rattle.operations.specs.declared.operation.Action.{Action}
use Rattle.operations.specs.declared.operation.Action.TheVariants.{Clr, Mpy, Mac, Msc, Ed, Edac, Movsac}
use Rattle.operations.specs.declared.operation.Prefetch.{Prefetch}
use Rattle.operations.specs.declared.operation.Prefetch.TheVariants.{None as NoRead, Pointer, Sum}
use Rattle.operations.specs.declared.operation.WriteBack.{WriteBack}
use Rattle.operations.specs.declared.operation.WriteBack.TheVariants.{None as NoBack, Register as ToRegister, Memory as ToMemory}
use Rattle.operations.specs.declared.operation.PostModification.{PostModification}
use Rattle.operations.specs.declared.operation.PostModification.TheVariants.{None as Stays, Increment, Decrement}
use Rattle.operations.specs.declared.operation.Operand.TheVariants.{Register as Direct, Memory as Pointed}
use Rattle.operations.specs.declared.operation.Operation.{Operation}
use Rattle.operations.specs.declared.operation.Operation.TheVariants.{MacClass as MacOperation, AddAccumulators, Subtract, Negate, Shift, Lac, Add, Sac}
use Rattle.operations.specs.declared.operation.Operation.TheVariants.{SacR, Literal, Load, Store, Repeat, RepeatRegister, Do, DoRegister, EndEarly, SetMode}
use Rattle.operations.specs.declared.operation.Operation.TheVariants.{ClearSaturation}
use Rattle.state.specs.State.{reset_state}
use Rattle.state.specs.declared.settings.Circular.{Circular}
use Rattle.state.specs.declared.settings.Settings.{Settings}
use Rattle.state.specs.declared.state.State.{State}
use Rattle.state.proofs.Made.{slots, made, ◌but◌, reg, in_a, in_b, at, looping, due, by, flags, one, two}
use Rattle.state.proofs.AcceptExamples.{circle, none}
use Rattle.effects.specs.Pointer.{moved_of}
use Rattle.effects.specs.Operations.{work_of}
use Rattle.effects.specs.declared.access.Place.{Place}
use Rattle.effects.specs.declared.access.Place.TheVariants.{Nowhere}
use Rattle.effects.specs.declared.effect.Exact.{Exact}
use Rattle.effects.specs.declared.effect.Exact.TheVariants.{Keep}
use Rattle.machine.specs.Control.{ended_early}
use Rattle.machine.specs.Step.{Step}
use Rattle.machine.specs.Single.{done_or_stepped, Steps}
use Rattle.machine.proofs.Opened.{after}
use Rattle.machine.proofs.CallExamples.{file, refused}

-- ---- how the examples are written

-- settings: 12 words, 6 of them X's (addresses 1000 to 100A hex, then 100C to 1016); trap word, X's and Y's register, bit-reversed register and N
abbrev settings_of : ℕ → Circular → Circular → ℕ → ℕ → Settings
settings_of traps x y r n = record { xwords = 6; traps = traps; x = x; y = y; reversed = record { register = r; words = n } }

abbrev plain : Settings
plain = settings_of 0 none none 15 0

-- word i holds 100 + i
abbrev memory : List ℕ
memory = 100 ∷ 101 ∷ 102 ∷ 103 ∷ 104 ∷ 105 ∷ 106 ∷ 107 ∷ 108 ∷ 109 ∷ 110 ∷ 111 ∷ []

-- W8 points to word 1, W9 to 2, W10 to 8, W11 to 9, W13 to 10; W9 + W12 to 3
abbrev registers : List ℕ
registers = 10 ∷ 11 ∷ 12 ∷ 13 ∷ 14 ∷ 15 ∷ 16 ∷ 17 ∷ 0x1002 ∷ 0x1004 ∷ 0x1010 ∷ 0x1012 ∷ 2 ∷ 0x1014 ∷ []

-- A 3, B 5, no loop, no repeat, reset mode, no flag
abbrev start : State
start = made registers (pos 3) (pos 5) 0 (slots (replicate 4 0) (replicate 4 0) 0) 0 0x20 false false false false

-- all registers zero
abbrev zeros : State → State
zeros s = let c = s.core in made (replicate 14 0) c.a c.b c.pc c.loops c.repeat c.mode c.oa c.ob s.sa s.sb

-- a step without trap
abbrev goes : State → List ℕ → Step
goes s m = record { state = s; memory = m; trap = 0; counted = true }

-- traps 5 to 7: complete and counted
abbrev ends : ℕ → State → List ℕ → Step
ends n s m = record { state = s; memory = m; trap = n; counted = true }

-- traps 1 to 4: no step
abbrev stops : ℕ → State → List ℕ → Step
stops n s m = record { state = s; memory = m; trap = n; counted = false }

-- one operation, which is the whole program
abbrev once : Settings → Operation → State → Step
once settings o s = after (o ∷ []) settings s memory

abbrev alone : Operation → State → Step
alone o s = once plain o s

-- n steps of a program
abbrev steps : ℕ → List Operation → State → List ℕ → Step
steps zero p s m = goes s m
steps (suc n) p s m = steps n p (after p plain s m).state (after p plain s m).memory

-- W r after a step
abbrev reg_of : ℕ → Step → ℕ
reg_of r x = get_or x.state.core.w r 0

-- W r after an operation that found a in it
abbrev moved : Settings → Operation → ℕ → ℕ → ℕ
moved settings o r a = reg_of r (once settings o (start but reg r a))

-- the trap of an operation that found a in W r
abbrev trap_at : Operation → ℕ → ℕ → ℕ
trap_at o r a = (alone o (start but reg r a)).trap

-- kinds 1 to 7
abbrev mac : Action → Target → ℕ → ℕ → Prefetch → ℕ → Prefetch → ℕ → WriteBack → Operation
mac action t m n x xto y yto back =
    MacOperation (record { action = action; target = t; m = m; n = n; x = x; xto = xto; y = y; yto = yto; back = back })

-- without reads and write-back
abbrev bare : Action → Target → ℕ → ℕ → Operation
bare action t m n = mac action t m n NoRead 0 NoRead 0 NoBack

-- MOVSAC with an X read to W4, with a Y read to W5, with a write-back of B to memory
abbrev read_x : Prefetch → Operation
read_x x = mac Movsac A 0 0 x 4 NoRead 0 NoBack

abbrev read_y : Prefetch → Operation
read_y y = mac Movsac A 0 0 NoRead 0 y 5 NoBack

abbrev writes_back : Operation
writes_back = mac Movsac A 0 0 NoRead 0 NoRead 0 ToMemory

-- the six kinds with a pointer: 12 LAC, 13 ADD, 17 load read; 14 SAC, 15 SAC.R, 18 store write
abbrev readers : ℕ → PostModification → List Operation
readers p post = Lac A 8 (Pointed p post) ∷ Add A 8 (Pointed p post) ∷ Load 0 p post ∷ []

abbrev writers : ℕ → PostModification → List Operation
writers p post = Sac A 8 (Pointed p post) ∷ SacR A 8 (Pointed p post) ∷ Store 0 p post ∷ []

-- ---- kinds 1 to 7

-- 1 CLR: 0; O is redone, S stays, and so do the other accumulator's flags
clr : alone (bare Clr A 0 0) (start but flags true true true true) ≡ goes (start but at 1 but in_a (pos 0) but flags false true true true) memory
unfolding after
clr = refl

-- CLR B with both reads and A, 1.5 rounded to 2, written back to W13
clr_back :
    alone (mac Clr B 0 0 (Pointer 8 4) 4 (Pointer 11 0) 7 ToRegister) (start but in_a (pos 98304))
    ≡ goes (start but at 1 but in_a (pos 98304) but in_b (pos 0) but reg 4 101 but reg 7 109 but reg 8 0x1004 but reg 11 0x100c but reg 13 2) memory
unfolding after
clr_back = refl

-- 2 MPY, 3 MAC, 4 MSC of 14 × 15 to A and of 16 × 17 to B, doubled
products :
    (alone (bare Mpy A 4 5) start ≡ goes (start but at 1 but in_a (pos 420)) memory)
    × (alone (bare Mpy B 6 7) start ≡ goes (start but at 1 but in_b (pos 544)) memory)
    × (alone (bare Mac A 4 5) start ≡ goes (start but at 1 but in_a (pos 423)) memory)
    × (alone (bare Mac B 6 7) start ≡ goes (start but at 1 but in_b (pos 549)) memory)
    × (alone (bare Msc A 4 5) start ≡ goes (start but at 1 but in_a (minus 417)) memory)
    × (alone (bare Msc B 6 7) start ≡ goes (start but at 1 but in_b (minus 539)) memory)
unfolding after
products = (refl, refl, refl, refl, refl, refl)

-- FFFF hex × 2: signed and unsigned by US, doubled with IF 0
signs :
    map (λ (m : ℕ). (alone (bare Mpy A 4 5) (start but by m but reg 4 0xffff but reg 5 2)).state.core.a) (0x20 ∷ 0x21 ∷ 0x1020 ∷ 0x1021 ∷ [])
    ≡ minus 4 ∷ minus 2 ∷ pos 262140 ∷ pos 131070 ∷ []
unfolding after
signs = refl

-- row A: 3 × -2 from the reset state: -12, after three steps
pub row_a :
    steps 3 (Literal 4 3 ∷ Literal 5 0xfffe ∷ bare Mpy A 4 5 ∷ []) reset_state memory
    ≡ goes (start but at 3 but in_a (minus 12) but in_b (pos 0) but zeros but reg 4 3 but reg 5 0xfffe) memory
unfolding after reset_state
row_a = refl

-- row B: -32,768 squared: 2^31 with O only; with SATA and ACCSAT 0 2^31 - 1 with S
pub row_b :
    (alone (bare Mpy A 4 4) (start but by 0 but reg 4 0x8000)
    ≡ goes (start but at 1 but by 0 but reg 4 0x8000 but in_a (pos (2 ^ 31)) but flags true false false false) memory)
    × (alone (bare Mpy A 4 4) (start but by 0x80 but reg 4 0x8000)
    ≡ goes (start but at 1 but by 0x80 but reg 4 0x8000 but in_a (pos (2 ^ 31 - 1)) but flags false false true false) memory)
unfolding after
row_b = (refl, refl)

-- row C: unsigned integer 65,535²
pub row_c :
    alone (bare Mpy B 7 7) (start but by 0x1001 but reg 7 0xffff)
    ≡ goes (start but at 1 but by 0x1001 but reg 7 0xffff but in_b (pos 4294836225) but flags false true false false) memory
unfolding after
row_c = refl

-- MAC A: old factors, two reads, two pointers, and B, -1.5 rounded to -2, written back to memory, all in one step
mac_a :
    alone (mac Mac A 4 5 (Pointer 8 5) 4 (Pointer 10 2) 5 ToMemory) (start but in_a (pos 1000) but in_b (minus 98304))
    ≡ goes
    (start but at 1 but in_a (pos 1420) but in_b (minus 98304) but reg 4 101 but reg 5 108 but reg 8 0x1006 but reg 10 0x100e but reg 13 0x1016)
    (set memory 10 0xfffe)
unfolding after
mac_a = refl

-- MAC B: the same with W9 and W11, which leaves memory, and A, 3.5 rounded to 4
mac_b :
    alone (mac Mac B 6 7 (Pointer 9 1) 7 (Pointer 11 6) 6 ToMemory) (start but in_a (pos 229376) but in_b (minus 1000))
    ≡ goes
    (start but at 1 but in_a (pos 229376) but in_b (minus 456) but reg 6 109 but reg 7 102 but reg 9 0x1000 but reg 11 0x1018 but reg 13 0x1016)
    (set memory 10 4)
unfolding after
mac_b = refl

-- MSC A by 17 × 14 with a Y read to a factor, and B, 5, written back to W13
msc_a :
    alone (mac Msc A 7 4 NoRead 0 (Pointer 10 4) 4 ToRegister) (start but in_b (pos 327680))
    ≡ goes (start but at 1 but in_a (minus 473) but in_b (pos 327680) but reg 4 108 but reg 10 0x1012 but reg 13 5) memory
unfolding after
msc_a = refl

-- reads precede the write: X reads the word that is written back to, then Y does
reads_first :
    (alone (mac Mac A 4 4 (Pointer 8 3) 6 NoRead 0 ToMemory) (start but in_b (pos 458752) but reg 13 0x1002)
    ≡ goes (start but at 1 but in_a (pos 395) but in_b (pos 458752) but reg 6 101 but reg 13 0x1004) (set memory 1 7))
    × (alone (mac Mac A 4 4 NoRead 0 (Pointer 11 3) 6 ToMemory) (start but in_b (pos 458752) but reg 11 0x1014)
    ≡ goes (start but at 1 but in_a (pos 395) but in_b (pos 458752) but reg 6 110 but reg 11 0x1014 but reg 13 0x1016) (set memory 10 7))
unfolding after
reads_first = (refl, refl)

-- W9 + W12 and W11 + W13, ended at 16 bits, by the old W13, which the write-back changes; no pointer of a sum changes
sums :
    (alone (mac Movsac A 0 0 Sum 5 Sum 7 ToMemory) (start but in_b (pos 458752) but reg 11 0xfffc)
    ≡ goes (start but at 1 but in_b (pos 458752) but reg 5 103 but reg 7 108 but reg 11 0xfffc but reg 13 0x1016) (set memory 10 7))
    × (alone (mac Movsac A 0 0 Sum 5 Sum 7 ToRegister) (start but in_b (pos 458752) but reg 11 0xfffc)
    ≡ goes (start but at 1 but in_b (pos 458752) but reg 5 103 but reg 7 108 but reg 11 0xfffc but reg 13 7) memory)
unfolding after
sums = (refl, refl)

-- 5 ED and row K: X 1 minus Y 2 gives FFFF hex, to the register m, which is squared as it was
pub row_k :
    after (mac Ed A 4 4 (Pointer 9 6) 4 (Pointer 10 2) 0 NoBack ∷ []) plain start (set (set memory 2 1) 8 2)
    ≡ goes (start but at 1 but in_a (pos 392) but reg 4 0xffff but reg 9 0x100a but reg 10 0x100e) (set (set memory 2 1) 8 2)
unfolding after
row_k = refl

-- 6 EDAC B: 16² doubled is added; 101 minus 109 to another register than m
edac :
    alone (mac Edac B 6 6 (Pointer 8 4) 5 (Pointer 11 3) 0 NoBack) start
    ≡ goes (start but at 1 but in_b (pos 517) but reg 5 0xfff8 but reg 8 0x1004) memory
unfolding after
edac = refl

-- ED at the two sums: 103 minus 108 to W7
ed_sums :
    alone (mac Ed B 5 5 Sum 7 Sum 0 NoBack) (start but reg 11 0x100a but reg 13 6)
    ≡ goes (start but at 1 but in_b (pos 450) but reg 7 0xfffb but reg 11 0x100a but reg 13 6) memory
unfolding after
ed_sums = refl

-- A after ED or EDAC with FFFF hex to be squared, by a mode word
abbrev squared : Action → ℕ → ℤ
squared action m = (alone (mac action A 6 6 (Pointer 8 3) 5 (Pointer 11 3) 0 NoBack) (start but by m but reg 6 0xffff)).state.core.a

-- squares follow US and IF; EDAC adds to 3
squares :
    (map (squared Ed) (0x20 ∷ 0x21 ∷ 0x1020 ∷ 0x1021 ∷ []) ≡ pos 2 ∷ pos 1 ∷ pos 8589672450 ∷ pos 4294836225 ∷ [])
    × (map (squared Edac) (0x20 ∷ 0x21 ∷ 0x1020 ∷ 0x1021 ∷ []) ≡ pos 5 ∷ pos 4 ∷ pos 8589672453 ∷ pos 4294836228 ∷ [])
unfolding after
squares = (refl, refl)

-- 7 MOVSAC: the accumulators, their flags and the trap word do not matter to it; B, 2.5 rounded to 2, is written back
movsac :
    once (settings_of 0x700 none none 15 0) (mac Movsac A 0 0 (Pointer 8 3) 6 NoRead 0 ToMemory)
    (start but in_a (pos (2 ^ 38)) but in_b (pos 163840) but flags true true false false)
    ≡ goes
    (start but at 1 but in_a (pos (2 ^ 38)) but in_b (pos 163840) but flags true true false false but reg 6 101 but reg 13 0x1016)
    (set memory 10 2)
unfolding after
movsac = refl

-- MOVSAC B writes A back, 3.5 rounded to 4; W13 is not checked as an address
movsac_b :
    alone (mac Movsac B 0 0 NoRead 0 NoRead 0 ToRegister) (start but in_a (pos 229376) but reg 13 0x0fff)
    ≡ goes (start but at 1 but in_a (pos 229376) but reg 13 4) memory
unfolding after
movsac_b = refl

-- the word that is written back of v in B, by a mode word
abbrev back : ℕ → ℤ → ℕ
back m v = reg_of 13 (alone (mac Clr A 0 0 NoRead 0 NoRead 0 ToRegister) (start but by m but in_b v))

-- write-back is a rounded store: 0.5, 1.5, -0.5, -1.5 with RND 0 and 1; row E and -32,769 with SATDW and without
backs :
    (map (back 0x20) (pos 32768 ∷ pos 98304 ∷ minus 32768 ∷ minus 98304 ∷ []) ≡ 0 ∷ 2 ∷ 0 ∷ 0xfffe ∷ [])
    × (map (back 0x22) (pos 32768 ∷ pos 98304 ∷ minus 32768 ∷ minus 98304 ∷ []) ≡ 1 ∷ 2 ∷ 0 ∷ 0xffff ∷ [])
    × (map (back 0x20) (pos 2147450880 ∷ minus 2147549184 ∷ []) ≡ 0x7fff ∷ 0x8000 ∷ [])
    × (map (back 0) (pos 2147450880 ∷ minus 2147549184 ∷ []) ≡ 0x8000 ∷ 0x7fff ∷ [])
unfolding after
backs = (refl, refl, refl, refl)

-- step 2(c - 3): c from 0 to 6, of an X and of a Y pointer
pointers :
    (map (λ (c : ℕ). reg_of 8 (alone (read_x (Pointer 8 c)) (start but reg 8 0x1006))) (0 ∷ 1 ∷ 2 ∷ 3 ∷ 4 ∷ 5 ∷ 6 ∷ [])
    ≡ 0x1000 ∷ 0x1002 ∷ 0x1004 ∷ 0x1006 ∷ 0x1008 ∷ 0x100a ∷ 0x100c ∷ [])
    × (map (λ (c : ℕ). reg_of 11 (alone (read_y (Pointer 11 c)) start)) (0 ∷ 1 ∷ 2 ∷ 3 ∷ 4 ∷ 5 ∷ 6 ∷ [])
    ≡ 0x100c ∷ 0x100e ∷ 0x1010 ∷ 0x1012 ∷ 0x1014 ∷ 0x1016 ∷ 0x1018 ∷ [])
unfolding after
pointers = (refl, refl)

-- ---- kinds 8 to 11

-- 8 A + B, 9 target minus other, 10 negate, to A and to B
arithmetic :
    (alone (AddAccumulators A) start ≡ goes (start but at 1 but in_a (pos 8)) memory)
    × (alone (AddAccumulators B) start ≡ goes (start but at 1 but in_b (pos 8)) memory)
    × (alone (Subtract A) start ≡ goes (start but at 1 but in_a (minus 2)) memory)
    × (alone (Subtract B) start ≡ goes (start but at 1 but in_b (pos 2)) memory)
    × (alone (Negate A) start ≡ goes (start but at 1 but in_a (minus 3)) memory)
    × (alone (Negate B) start ≡ goes (start but at 1 but in_b (minus 5)) memory)
unfolding after
arithmetic = (refl, refl, refl, refl, refl, refl)

-- A, B, OA, OB, SA, SB after an operation
abbrev kept : Operation → State → ℤ × ℤ × Bool × Bool × Bool × Bool
kept o s = ((alone o s).state.core.a, (alone o s).state.core.b, (alone o s).state.core.oa, (alone o s).state.core.ob, (alone o s).state.sa, (alone o s).state.sb)

-- A + B with these in A and B, by a mode word
abbrev added : Target → ℕ → ℤ → ℤ → ℤ × ℤ × Bool × Bool × Bool × Bool
added t m a b = kept (AddAccumulators t) (start but by m but in_a a but in_b b)

-- kind 8 has the limits of b1's accumulator: 2^31 with SATA alone, and with SATB alone
limits_of :
    (added A 0x80 (pos (2 ^ 30)) (pos (2 ^ 30)) ≡ (pos (2 ^ 31 - 1), pos (2 ^ 30), false, false, true, false))
    × (added B 0x80 (pos (2 ^ 30)) (pos (2 ^ 30)) ≡ (pos (2 ^ 30), pos (2 ^ 31), false, true, false, false))
    × (added A 0x40 (pos (2 ^ 30)) (pos (2 ^ 30)) ≡ (pos (2 ^ 31), pos (2 ^ 30), true, false, false, false))
    × (added B 0x40 (pos (2 ^ 30)) (pos (2 ^ 30)) ≡ (pos (2 ^ 30), pos (2 ^ 31 - 1), false, false, false, true))
unfolding after
limits_of = (refl, refl, refl, refl)

-- ACCSAT 0: the last value within the limits and the first outside, above and below
limits_31 :
    (added A 0x80 (pos (2 ^ 31 - 2)) (pos 1) ≡ (pos (2 ^ 31 - 1), pos 1, false, false, false, false))
    × (added A 0x80 (pos (2 ^ 31 - 1)) (pos 1) ≡ (pos (2 ^ 31 - 1), pos 1, false, false, true, false))
    × (added A 0x80 (minus (2 ^ 31 - 1)) (minus 1) ≡ (minus (2 ^ 31), minus 1, false, false, false, false))
    × (added A 0x80 (minus (2 ^ 31)) (minus 1) ≡ (minus (2 ^ 31), minus 1, false, false, true, false))
unfolding after
limits_31 = (refl, refl, refl, refl)

-- ACCSAT 1: beyond 2^31 with O alone; the nearer limit beyond 2^39
limits_39 :
    (added A 0x90 (pos (2 ^ 31 - 1)) (pos 1) ≡ (pos (2 ^ 31), pos 1, true, false, false, false))
    × (added A 0x90 (pos (2 ^ 39 - 2)) (pos 1) ≡ (pos (2 ^ 39 - 1), pos 1, true, false, false, false))
    × (added A 0x90 (pos (2 ^ 39 - 1)) (pos 1) ≡ (pos (2 ^ 39 - 1), pos 1, true, false, true, false))
    × (added A 0x90 (minus (2 ^ 39)) (minus 1) ≡ (minus (2 ^ 39), minus 1, true, false, true, false))
    × (added B 0x50 (pos 1) (pos (2 ^ 39 - 1)) ≡ (pos 1, pos (2 ^ 39 - 1), false, true, false, true))
unfolding after
limits_39 = (refl, refl, refl, refl, refl)

-- saturation off, with ACCSAT too: within 2^39, and beyond it the low 40 bits; O by the value kept
unlimited :
    (added A 0x20 (pos (2 ^ 31 - 2)) (pos 1) ≡ (pos (2 ^ 31 - 1), pos 1, false, false, false, false))
    × (added A 0x20 (minus (2 ^ 31)) (minus 1) ≡ (minus (2 ^ 31 + 1), minus 1, true, false, false, false))
    × (added A 0x20 (pos (2 ^ 39 - 2)) (pos 1) ≡ (pos (2 ^ 39 - 1), pos 1, true, false, false, false))
    × (added A 0x20 (minus (2 ^ 39 - 1)) (minus 1) ≡ (minus (2 ^ 39), minus 1, true, false, false, false))
    × (added A 0x20 (minus (2 ^ 39)) (minus 1) ≡ (pos (2 ^ 39 - 1), minus 1, true, false, true, false))
    × (added B 0x10 (pos (2 ^ 39 - 1)) (pos 1) ≡ (pos (2 ^ 39 - 1), minus (2 ^ 39), false, true, false, true))
    × (added A 0x20 (pos (2 ^ 39 - 1)) (pos (2 ^ 39 - 1)) ≡ (minus 2, pos (2 ^ 39 - 1), false, false, true, false))
unfolding after
unlimited = (refl, refl, refl, refl, refl, refl, refl)

-- row F: 2^39 - 1 plus 1 with ACCSAT 1, and off; S both
pub row_f :
    (added A 0x90 (pos (2 ^ 39 - 1)) (pos 1) ≡ (pos (2 ^ 39 - 1), pos 1, true, false, true, false))
    × (added A 0x20 (pos (2 ^ 39 - 1)) (pos 1) ≡ (minus (2 ^ 39), pos 1, true, false, true, false))
unfolding after
row_f = (refl, refl)

-- S stays after a result within the limits; O of the accumulator that is written is redone
stays :
    (alone (AddAccumulators A) (start but flags true true true true) ≡ goes (start but at 1 but in_a (pos 8) but flags false true true true) memory)
    × (alone (AddAccumulators B) (start but flags true true true true) ≡ goes (start but at 1 but in_b (pos 8) but flags true false true true) memory)
unfolding after
stays = (refl, refl)

-- each accumulator has its own S: SA alone and SB alone before A is written, and before B is
own_flags :
    (alone (Negate A) (start but flags false false true false) ≡ goes (start but at 1 but in_a (minus 3) but flags false false true false) memory)
    × (alone (Negate A) (start but flags false false false true) ≡ goes (start but at 1 but in_a (minus 3) but flags false false false true) memory)
    × (alone (Negate B) (start but flags false false true false) ≡ goes (start but at 1 but in_b (minus 5) but flags false false true false) memory)
    × (alone (Negate B) (start but flags false false false true) ≡ goes (start but at 1 but in_b (minus 5) but flags false false false true) memory)
unfolding after
own_flags = (refl, refl, refl, refl)

-- 10 negate of -2^39: 2^39 is outside; off, ACCSAT 1, ACCSAT 0
negations :
    (kept (Negate A) (start but in_a (minus (2 ^ 39))) ≡ (minus (2 ^ 39), pos 5, true, false, true, false))
    × (kept (Negate A) (start but by 0x90 but in_a (minus (2 ^ 39))) ≡ (pos (2 ^ 39 - 1), pos 5, true, false, true, false))
    × (kept (Negate A) (start but by 0x80 but in_a (minus (2 ^ 39))) ≡ (pos (2 ^ 31 - 1), pos 5, false, false, true, false))
    × (kept (Negate B) (start but in_b (minus (2 ^ 39))) ≡ (pos 3, minus (2 ^ 39), false, true, false, true))
unfolding after
negations = (refl, refl, refl, refl)

-- 11 shift of -5 by 0, 1, 2, 3, 16, -1, -16: to the right with the floor, to the left exact
shifts :
    map (λ (n : ℕ). (alone (Shift A 0) (start but in_a (minus 5) but reg 0 n)).state.core.a) (0 ∷ 1 ∷ 2 ∷ 3 ∷ 16 ∷ 0xffff ∷ 0xfff0 ∷ [])
    ≡ minus 5 ∷ minus 3 ∷ minus 2 ∷ minus 1 ∷ minus 1 ∷ minus 10 ∷ minus 327680 ∷ []
unfolding after
shifts = refl

-- B by W13: 5 by 2
shift_b : alone (Shift B 13) (start but reg 13 2) ≡ goes (start but at 1 but reg 13 2 but in_b (pos 1)) memory
unfolding after
shift_b = refl

-- trap 3: shift beyond ±16
shift_traps :
    map (trap_at (Shift A 0) 0) (16 ∷ 17 ∷ 0xfff0 ∷ 0xffef ∷ 0x7fff ∷ 0x8000 ∷ []) ≡ 0 ∷ 3 ∷ 0 ∷ 3 ∷ 3 ∷ 3 ∷ []
unfolding after
shift_traps = refl

-- row L: -1 shifted 16: -1; 17: trap 3, and nothing changes
pub row_l :
    (alone (Shift A 0) (start but in_a (minus 1) but reg 0 16) ≡ goes (start but at 1 but in_a (minus 1) but reg 0 16) memory)
    × (alone (Shift A 0) (start but in_a (minus 1) but reg 0 17) ≡ stops 3 (start but in_a (minus 1) but reg 0 17) memory)
unfolding after
row_l = (refl, refl)

-- to the left past the limits: 2^38 by -1, 2^31 by -16; to the right with SATA from beyond the limits: 2^33 by 1, and 2^32 - 1 by 1 to its edge
shift_limits :
    (kept (Shift A 0) (start but in_a (pos (2 ^ 38)) but reg 0 0xffff) ≡ (minus (2 ^ 39), pos 5, true, false, true, false))
    × (kept (Shift A 0) (start but in_a (pos (2 ^ 31)) but reg 0 0xfff0) ≡ (pos 0, pos 5, false, false, true, false))
    × (kept (Shift A 0) (start but by 0x80 but in_a (pos (2 ^ 33)) but reg 0 1) ≡ (pos (2 ^ 31 - 1), pos 5, false, false, true, false))
    × (kept (Shift A 0) (start but by 0x80 but in_a (pos (2 ^ 32 - 1)) but reg 0 1) ≡ (pos (2 ^ 31 - 1), pos 5, false, false, false, false))
unfolding after
shift_limits = (refl, refl, refl, refl)

-- ---- kinds 12 to 15

-- 12 LAC of -3 with b2 = 0, 7, 8, 9, 15, which is a shift by -8, -1, 0, 1, 7; signed with US 1 too
lac_shifts :
    (map (λ (b2 : ℕ). (alone (Lac A b2 (Direct 3)) (start but reg 3 0xfffd)).state.core.a) (0 ∷ 7 ∷ 8 ∷ 9 ∷ 15 ∷ [])
    ≡ minus 50331648 ∷ minus 393216 ∷ minus 196608 ∷ minus 98304 ∷ minus 1536 ∷ [])
    × (alone (Lac B 8 (Direct 3)) (start but by 0x1021 but reg 3 0xffff) ≡ goes (start but at 1 but by 0x1021 but reg 3 0xffff but in_b (minus 65536)) memory)
unfolding after
lac_shifts = (refl, refl)

-- LAC of 8000 hex: -2^39 is within the limits; with SATA -2^31 is, and -2^32 is not
lac_limits :
    (kept (Lac A 0 (Direct 3)) (start but reg 3 0x8000) ≡ (minus (2 ^ 39), pos 5, true, false, false, false))
    × (kept (Lac A 8 (Direct 3)) (start but by 0x80 but reg 3 0x8000) ≡ (minus (2 ^ 31), pos 5, false, false, false, false))
    × (kept (Lac A 7 (Direct 3)) (start but by 0x80 but reg 3 0x8000) ≡ (minus (2 ^ 31), pos 5, false, false, true, false))
unfolding after
lac_limits = (refl, refl, refl)

-- forms 1, 2, 3, at a pointer to Y's part: 110 × 65,536
lac_forms :
    (alone (Lac B 8 (Pointed 13 Stays)) start ≡ goes (start but at 1 but in_b (pos 7208960)) memory)
    × (alone (Lac B 8 (Pointed 13 Increment)) start ≡ goes (start but at 1 but in_b (pos 7208960) but reg 13 0x1016) memory)
    × (alone (Lac B 8 (Pointed 13 Decrement)) start ≡ goes (start but at 1 but in_b (pos 7208960) but reg 13 0x1012) memory)
unfolding after
lac_forms = (refl, refl, refl)

-- 13 ADD: 12 × 65,536 to B, and shifted by -8; 101 × 65,536 shifted by 2, to A; 108 × 65,536 to A; the word alone is shifted
adds :
    (alone (Add B 8 (Direct 2)) start ≡ goes (start but at 1 but in_b (pos 786437)) memory)
    × (alone (Add B 0 (Direct 2)) start ≡ goes (start but at 1 but in_b (pos 201326597)) memory)
    × (alone (Add A 10 (Pointed 8 Increment)) start ≡ goes (start but at 1 but in_a (pos 1654787) but reg 8 0x1004) memory)
    × (alone (Add A 8 (Pointed 10 Decrement)) start ≡ goes (start but at 1 but in_a (pos 7077891) but reg 10 0x100e) memory)
    × (alone (Add A 8 (Direct 3)) (start but reg 3 0xffff) ≡ goes (start but at 1 but in_a (minus 65533) but reg 3 0xffff) memory)
unfolding after
adds = (refl, refl, refl, refl, refl)

-- 14 SAC truncated, 15 SAC.R rounded: 196,607 is 2 and nearly 3; to a register and to memory, forms 1, 2, 3; flags stay
sacs :
    (alone (Sac A 8 (Direct 3)) (start but in_a (pos 196607)) ≡ goes (start but at 1 but in_a (pos 196607) but reg 3 2) memory)
    × (alone (SacR A 8 (Direct 3)) (start but in_a (pos 196607)) ≡ goes (start but at 1 but in_a (pos 196607) but reg 3 3) memory)
    × (alone (Sac A 8 (Pointed 8 Stays)) (start but in_a (minus 1)) ≡ goes (start but at 1 but in_a (minus 1)) (set memory 1 0xffff))
    × (alone (Sac B 9 (Pointed 10 Increment)) (start but in_b (pos 327680)) ≡ goes (start but at 1 but in_b (pos 327680) but reg 10 0x1012) (set memory 8 2))
    × (alone (SacR B 9 (Pointed 10 Decrement)) (start but by 0x22 but in_b (pos 327680))
    ≡ goes (start but at 1 but by 0x22 but in_b (pos 327680) but reg 10 0x100e) (set memory 8 3))
    × (alone (SacR A 8 (Direct 3)) (start but in_a (pos (2 ^ 39 - 1)) but flags false true true false)
    ≡ goes (start but at 1 but in_a (pos (2 ^ 39 - 1)) but flags false true true false but reg 3 0x7fff) memory)
unfolding after
sacs = (refl, refl, refl, refl, refl, refl)

-- the word that SAC and SAC.R store of A, by mode word and b2
abbrev truncated : ℕ → ℕ → ℤ → ℕ
truncated m b2 v = reg_of 3 (alone (Sac A b2 (Direct 3)) (start but by m but in_a v))

abbrev rounded : ℕ → ℕ → ℤ → ℕ
rounded m b2 v = reg_of 3 (alone (SacR A b2 (Direct 3)) (start but by m but in_a v))

-- about the ties 0.5, 1.5, -0.5, -1.5
abbrev ties : List ℤ
ties = pos 32767 ∷ pos 32768 ∷ pos 32769 ∷ pos 98303 ∷ pos 98304 ∷ pos 98305 ∷ minus 32769 ∷ minus 32768 ∷ minus 32767 ∷ minus 98304 ∷ []

-- row D among them: RND 0, to an even quotient; RND 1, up; truncated, the floor
pub row_d :
    (map (λ (v : ℤ). rounded 0x20 8 v) ties ≡ 0 ∷ 0 ∷ 1 ∷ 1 ∷ 2 ∷ 2 ∷ 0xffff ∷ 0 ∷ 0 ∷ 0xfffe ∷ [])
    × (map (λ (v : ℤ). rounded 0x22 8 v) ties ≡ 0 ∷ 1 ∷ 1 ∷ 1 ∷ 2 ∷ 2 ∷ 0xffff ∷ 0 ∷ 0 ∷ 0xffff ∷ [])
    × (map (λ (v : ℤ). truncated 0x22 8 v) ties ≡ 0 ∷ 0 ∷ 0 ∷ 1 ∷ 1 ∷ 1 ∷ 0xffff ∷ 0xffff ∷ 0xffff ∷ 0xfffe ∷ [])
unfolding after
row_d = (refl, refl, refl)

-- row E: 2,147,450,880 rounded with SATDW and without
pub row_e : (rounded 0x20 8 (pos 2147450880) ≡ 32767) × (rounded 0 8 (pos 2147450880) ≡ 0x8000)
unfolding after
row_e = (refl, refl)

-- SATDW at both edges, and without it: 2^31 - 1, 2^31, -2^31, -2^31 - 1
edges :
    (map (λ (v : ℤ). truncated 0x20 8 v) (pos (2 ^ 31 - 1) ∷ pos (2 ^ 31) ∷ minus (2 ^ 31) ∷ minus (2 ^ 31 + 1) ∷ []) ≡ 0x7fff ∷ 0x7fff ∷ 0x8000 ∷ 0x8000 ∷ [])
    × (map (λ (v : ℤ). truncated 0 8 v) (pos (2 ^ 31 - 1) ∷ pos (2 ^ 31) ∷ minus (2 ^ 31) ∷ minus (2 ^ 31 + 1) ∷ []) ≡ 0x7fff ∷ 0x8000 ∷ 0x8000 ∷ 0x7fff ∷ [])
unfolding after
edges = (refl, refl)

-- the shift comes first: 2^38 and -2^38 by -8 are not reduced to 40 bits; 2^39 - 1 by 7 is 65,535; -1 by 7 is -1
shifted_stores :
    (map (λ (m : ℕ). truncated m 0 (pos (2 ^ 38))) (0x20 ∷ 0 ∷ []) ≡ 0x7fff ∷ 0 ∷ [])
    × (map (λ (m : ℕ). rounded m 0 (minus (2 ^ 38))) (0x20 ∷ 0 ∷ []) ≡ 0x8000 ∷ 0 ∷ [])
    × (map (λ (m : ℕ). truncated m 15 (pos (2 ^ 39 - 1))) (0x20 ∷ 0 ∷ []) ≡ 0x7fff ∷ 0xffff ∷ [])
    × (truncated 0x20 15 (minus 1) ≡ 0xffff)
    × (rounded 0x20 15 (minus 1) ≡ 0)
unfolding after
shifted_stores = (refl, refl, refl, refl, refl)

-- its floor is taken before rounding: 65,537 by 1 is the tie 32,768, and 65,539 by 1 is above it
floored_first : (rounded 0x20 9 (pos 65537) ≡ 0) × (rounded 0x22 9 (pos 65537) ≡ 1) × (rounded 0x20 9 (pos 65539) ≡ 1)
unfolding after
floored_first = (refl, refl, refl)

-- ---- kinds 16 to 18

-- 16 literal
literals :
    (alone (Literal 0 0xffff) start ≡ goes (start but at 1 but reg 0 0xffff) memory)
    × (alone (Literal 13 0x8001) start ≡ goes (start but at 1 but reg 13 0x8001) memory)
unfolding after
literals = (refl, refl)

-- 17 load, forms 1, 2, 3; a loaded word beats a pointer change to the same register
loads :
    (alone (Load 0 8 Stays) start ≡ goes (start but at 1 but reg 0 101) memory)
    × (alone (Load 13 10 Increment) start ≡ goes (start but at 1 but reg 13 108 but reg 10 0x1012) memory)
    × (alone (Load 7 9 Decrement) start ≡ goes (start but at 1 but reg 7 102 but reg 9 0x1002) memory)
    × (alone (Load 8 8 Increment) start ≡ goes (start but at 1 but reg 8 101) memory)
    × (alone (Load 8 8 Decrement) start ≡ goes (start but at 1 but reg 8 101) memory)
unfolding after
loads = (refl, refl, refl, refl, refl)

-- 18 store, forms 1, 2, 3; a pointer that is stored is stored as it was, and then steps
stores :
    (alone (Store 3 8 Stays) start ≡ goes (start but at 1) (set memory 1 13))
    × (alone (Store 3 13 Increment) start ≡ goes (start but at 1 but reg 13 0x1016) (set memory 10 13))
    × (alone (Store 3 9 Decrement) start ≡ goes (start but at 1 but reg 9 0x1002) (set memory 2 13))
    × (alone (Store 13 13 Increment) start ≡ goes (start but at 1 but reg 13 0x1016) (set memory 10 0x1014))
    × (alone (Store 13 13 Decrement) start ≡ goes (start but at 1 but reg 13 0x1012) (set memory 10 0x1014))
unfolding after
stores = (refl, refl, refl, refl, refl)

-- ---- circular registers

-- X's register 8 with S 1002, E 1009 (hex)
abbrev x8 : Settings
x8 = settings_of 0 (circle 8 0x1002 0x1009) none 15 0

-- X reads: above E, below S, up to the edges; from outside S..E never corrected; W9 is not X's register
x_reads :
    (map (λ (c : ℕ). moved x8 (read_x (Pointer 8 c)) 8 0x1008) (0 ∷ 3 ∷ 4 ∷ 5 ∷ 6 ∷ []) ≡ 0x1002 ∷ 0x1008 ∷ 0x1002 ∷ 0x1004 ∷ 0x1006 ∷ [])
    × (map (λ (c : ℕ). moved x8 (read_x (Pointer 8 c)) 8 0x1002) (0 ∷ 1 ∷ 2 ∷ 3 ∷ 6 ∷ []) ≡ 0x1004 ∷ 0x1006 ∷ 0x1008 ∷ 0x1002 ∷ 0x1008 ∷ [])
    × (moved x8 (read_x (Pointer 8 4)) 8 0x100a ≡ 0x100c)
    × (moved x8 (read_x (Pointer 8 2)) 8 0x1000 ≡ 0x0ffe)
    × (moved x8 (read_x (Pointer 9 5)) 9 0x1008 ≡ 0x100c)
unfolding after
x_reads = (refl, refl, refl, refl, refl)

-- row G: S 1100, E 1107, 1106 + 4 gives 1102 (hex), in an X read of 200 words
pub row_g :
    reg_of 8
    (after (read_x (Pointer 8 5) ∷ [])
    (record { xwords = 200; traps = 0; x = circle 8 0x1100 0x1107; y = none; reversed = record { register = 15; words = 0 } })
    (start but reg 8 0x1106)
    (replicate 264 0))
    ≡ 0x1102
unfolding after
row_g = refl

-- X's register in forms 2 and 3 of kinds 12, 13, 17 and 14, 15, 18
x_forms :
    (map (λ (o : Operation). moved x8 o 8 0x1008) (readers 8 Increment) ≡ replicate 3 0x1002)
    × (map (λ (o : Operation). moved x8 o 8 0x1008) (writers 8 Increment) ≡ replicate 3 0x1002)
    × (map (λ (o : Operation). moved x8 o 8 0x1002) (readers 8 Decrement) ≡ replicate 3 0x1008)
    × (map (λ (o : Operation). moved x8 o 8 0x1002) (writers 8 Decrement) ≡ replicate 3 0x1008)
unfolding after
x_forms = (refl, refl, refl, refl)

-- X's register 13 in a write-back; from outside S..E it is not corrected; W13 where 12 is X's register is not
x_back :
    (moved (settings_of 0 (circle 13 0x1010 0x1017) none 15 0) writes_back 13 0x1016 ≡ 0x1010)
    × (moved (settings_of 0 (circle 13 0x1008 0x100f) none 15 0) writes_back 13 0x1014 ≡ 0x1016)
    × (moved (settings_of 0 (circle 12 0x1010 0x1017) none 15 0) writes_back 13 0x1016 ≡ 0x1018)
unfolding after
x_back = (refl, refl, refl)

-- register 10 as X's and as Y's, S 100C, E 1013 (hex)
abbrev x10 : Settings
x10 = settings_of 0 (circle 10 0x100c 0x1013) none 15 0

abbrev y10 : Settings
y10 = settings_of 0 none (circle 10 0x100c 0x1013) 15 0

-- as X's it is corrected in a load and not in a Y read
x_in_y : (moved x10 (Load 0 10 Increment) 10 0x1012 ≡ 0x100c) × (moved x10 (read_y (Pointer 10 4)) 10 0x1012 ≡ 0x1014)
unfolding after
x_in_y = (refl, refl)

-- as Y's it is corrected in Y reads alone, above E and below S, and from outside S..E not; W11 is not Y's register there, but may be
y_reads :
    (map (λ (c : ℕ). moved y10 (read_y (Pointer 10 c)) 10 0x1012) (0 ∷ 4 ∷ 6 ∷ []) ≡ 0x100c ∷ 0x100c ∷ 0x1010 ∷ [])
    × (map (λ (c : ℕ). moved y10 (read_y (Pointer 10 c)) 10 0x100e) (1 ∷ 2 ∷ []) ≡ 0x1012 ∷ 0x100c ∷ [])
    × (moved y10 (read_y (Pointer 10 4)) 10 0x1014 ≡ 0x1016)
    × (moved y10 (read_y (Pointer 11 4)) 11 0x1012 ≡ 0x1014)
    × (moved (settings_of 0 none (circle 11 0x100c 0x1013) 15 0) (read_y (Pointer 11 4)) 11 0x1012 ≡ 0x100c)
unfolding after
y_reads = (refl, refl, refl, refl, refl)

-- Y's register outside Y reads
y_forms :
    (map (λ (o : Operation). moved y10 o 10 0x1012) (readers 10 Increment) ≡ replicate 3 0x1014)
    × (map (λ (o : Operation). moved y10 o 10 0x1012) (writers 10 Increment) ≡ replicate 3 0x1014)
    × (map (λ (o : Operation). moved y10 o 10 0x100c) (readers 10 Decrement) ≡ replicate 3 0x100a)
    × (map (λ (o : Operation). moved y10 o 10 0x100c) (writers 10 Decrement) ≡ replicate 3 0x100a)
unfolding after
y_forms = (refl, refl, refl, refl)

-- register 10 both X's, 1010 to 1017 hex, and Y's, 100C to 1013
abbrev both10 : Settings
both10 = settings_of 0 (circle 10 0x1010 0x1017) (circle 10 0x100c 0x1013) 15 0

-- each has its own steps
x_and_y :
    (map (moved both10 (read_y (Pointer 10 4)) 10) (0x1012 ∷ 0x1016 ∷ []) ≡ 0x100c ∷ 0x1018 ∷ [])
    × (map (moved both10 (Load 0 10 Increment) 10) (0x1012 ∷ 0x1016 ∷ []) ≡ 0x1014 ∷ 0x1010 ∷ [])
unfolding after
x_and_y = (refl, refl)

-- W9 + W12 with X's register 9 is 100C hex, Y's part: trap 2; W11 + W13 with Y's register 11 is 1016 hex, word 11: neither is corrected
uncorrected :
    (once (settings_of 0 (circle 9 0x1002 0x1009) none 15 0) (read_x Sum) (start but reg 9 0x1008 but reg 12 4) ≡ stops 2 (start but reg 9 0x1008 but reg 12 4) memory)
    × (once (settings_of 0 none (circle 11 0x100c 0x1013) 15 0) (read_y Sum) (start but reg 13 4) ≡ goes (start but at 1 but reg 13 4 but reg 5 111) memory)
unfolding after
uncorrected = (refl, refl)

-- a step that passes 16 bits: circular before the reduction, plain at its end
passing :
    (moved_of (circle 8 0xfff0 0xffff) 8 0xfffe (pos 4) ≡ 0xfff2)
    × (moved_of (circle 8 0xfff0 0xffff) 9 0xfffe (pos 4) ≡ 2)
    × (moved_of none 8 0 (minus 6) ≡ 0xfffa)
unfolding after
passing = (refl, refl, refl)

-- the largest memory, 30,720 words: FFFE hex is its last word, and one word less has it outside
abbrev last_word : ℕ → Circular → Step
last_word words x = after (Load 0 8 Increment ∷ []) (settings_of 0 x none 15 0) (start but reg 8 0xfffe) (replicate words 9)

-- + 2 from there is 0, and S with a buffer to FFFF hex
largest :
    (map (λ (r : ℕ). reg_of r (last_word 30720 none)) (0 ∷ 8 ∷ []) ≡ 9 ∷ 0 ∷ [])
    × (reg_of 8 (last_word 30720 (circle 8 0xfff0 0xffff)) ≡ 0xfff0)
    × ((last_word 30719 none).trap ≡ 2)
unfolding after
largest = (refl, refl, refl)

-- ---- the bit-reversed register

-- register 8 with N 4
abbrev reversed8 : Settings
reversed8 = settings_of 0 none none 8 4

-- 18 store, form 2: indices 0, 2, 1, 3, 0 in turn, and in the next four words; N 8 and N 2
reversed :
    (map (moved reversed8 (Store 0 8 Increment) 8) (0x1000 ∷ 0x1004 ∷ 0x1002 ∷ 0x1006 ∷ 0x1008 ∷ []) ≡ 0x1004 ∷ 0x1002 ∷ 0x1006 ∷ 0x1000 ∷ 0x100c ∷ [])
    × (map (moved (settings_of 0 none none 8 8) (Store 0 8 Increment) 8) (0x1000 ∷ 0x1008 ∷ 0x1004 ∷ 0x100e ∷ []) ≡ 0x1008 ∷ 0x1004 ∷ 0x100c ∷ 0x1000 ∷ [])
    × (map (moved (settings_of 0 none none 8 2) (Store 0 8 Increment) 8) (0x1000 ∷ 0x1002 ∷ 0x1004 ∷ []) ≡ 0x1002 ∷ 0x1000 ∷ 0x1006 ∷ [])
unfolding after
reversed = (refl, refl, refl)

-- row H: N 8, 1200 then 1208 then 1204 (hex), in a store to 264 words
pub row_h :
    map (λ (a : ℕ). reg_of 8 (after (Store 0 8 Increment ∷ []) (settings_of 0 none none 8 8) (start but reg 8 a) (replicate 264 0))) (0x1200 ∷ 0x1208 ∷ [])
    ≡ 0x1208 ∷ 0x1204 ∷ []
unfolding after
row_h = refl

-- kinds 14, 15, 18 with form 2 alone: form 1 stays, form 3 and the readers step plainly, and so do an X read and the write-back
reversed_forms :
    (map (λ (o : Operation). moved reversed8 o 8 0x1000) (writers 8 Increment) ≡ replicate 3 0x1004)
    × (map (λ (o : Operation). moved reversed8 o 8 0x1000) (readers 8 Increment) ≡ replicate 3 0x1002)
    × (map (λ (o : Operation). moved reversed8 o 8 0x1006) (writers 8 Decrement) ≡ replicate 3 0x1004)
    × (map (λ (o : Operation). moved reversed8 o 8 0x1006) (readers 8 Decrement) ≡ replicate 3 0x1004)
    × (map (λ (o : Operation). moved reversed8 o 8 0x1000) (writers 8 Stays) ≡ replicate 3 0x1000)
    × (moved reversed8 (read_x (Pointer 8 4)) 8 0x1000 ≡ 0x1002)
    × (moved (settings_of 0 none none 13 4) writes_back 13 0x1010 ≡ 0x1012)
unfolding after
reversed_forms = (refl, refl, refl, refl, refl, refl, refl)

-- the word goes to the address before the step, at the bit-reversed register and at another
reversed_store :
    (once reversed8 (Store 3 8 Increment) (start but reg 8 0x1004) ≡ goes (start but at 1 but reg 8 0x1002) (set memory 2 13))
    × (once reversed8 (Store 3 9 Increment) start ≡ goes (start but at 1 but reg 9 0x1006) (set memory 2 13))
unfolding after
reversed_store = (refl, refl)

-- the bit-reversed register may be Y's: Y reads are circular, stores bit-reversed; X's register beside it stays circular in stores
reversed_y :
    (moved (settings_of 0 none (circle 10 0x100c 0x1011) 10 4) (read_y (Pointer 10 4)) 10 0x1010 ≡ 0x100c)
    × (moved (settings_of 0 none (circle 10 0x100c 0x1011) 10 4) (Store 0 10 Increment) 10 0x1010 ≡ 0x1014)
    × (moved (settings_of 0 (circle 8 0x1002 0x1009) none 10 4) (Store 0 8 Increment) 8 0x1008 ≡ 0x1002)
unfolding after
reversed_y = (refl, refl, refl)

-- ---- traps 1 to 4

-- X reads: below memory, the first and the last word of the X part and the first past it, which is Y's, past memory; odd ones among them
x_traps :
    map (trap_at (read_x (Pointer 8 3)) 8) (0 ∷ 0x0ffe ∷ 0x0fff ∷ 0x1000 ∷ 0x1001 ∷ 0x100a ∷ 0x100b ∷ 0x100c ∷ 0x100d ∷ 0x1018 ∷ 0xffff ∷ [])
    ≡ 2 ∷ 2 ∷ 1 ∷ 0 ∷ 1 ∷ 0 ∷ 1 ∷ 2 ∷ 1 ∷ 2 ∷ 1 ∷ []
unfolding after
x_traps = refl

-- Y reads: below memory, the last word of the X part, the first and the last of the Y part, past memory; odd ones among them
y_traps :
    map (trap_at (read_y (Pointer 10 3)) 10) (0x0ffe ∷ 0x0fff ∷ 0x1000 ∷ 0x100a ∷ 0x100b ∷ 0x100c ∷ 0x100d ∷ 0x1016 ∷ 0x1017 ∷ 0x1018 ∷ 0x1019 ∷ [])
    ≡ 2 ∷ 1 ∷ 2 ∷ 2 ∷ 1 ∷ 0 ∷ 1 ∷ 0 ∷ 1 ∷ 2 ∷ 1 ∷ []
unfolding after
y_traps = refl

-- the write-back anywhere in memory
back_traps :
    map (trap_at writes_back 13) (0x0ffe ∷ 0x0fff ∷ 0x1000 ∷ 0x1001 ∷ 0x100a ∷ 0x100c ∷ 0x1016 ∷ 0x1017 ∷ 0x1018 ∷ 0x1019 ∷ [])
    ≡ 2 ∷ 1 ∷ 0 ∷ 1 ∷ 0 ∷ 0 ∷ 0 ∷ 1 ∷ 2 ∷ 1 ∷ []
unfolding after
back_traps = refl

-- kinds 12, 13, 17 and 14, 15, 18 anywhere in memory: traps of each at an address
abbrev traps : ℕ → List ℕ × List ℕ
traps a = (map (λ (o : Operation). trap_at o 2 a) (readers 2 Increment), map (λ (o : Operation). trap_at o 2 a) (writers 2 Decrement))

plain_traps :
    (traps 0x0ffe ≡ (2 ∷ 2 ∷ 2 ∷ [], 2 ∷ 2 ∷ 2 ∷ []))
    × (traps 0x0fff ≡ (1 ∷ 1 ∷ 1 ∷ [], 1 ∷ 1 ∷ 1 ∷ []))
    × (traps 0x1000 ≡ (0 ∷ 0 ∷ 0 ∷ [], 0 ∷ 0 ∷ 0 ∷ []))
    × (traps 0x100c ≡ (0 ∷ 0 ∷ 0 ∷ [], 0 ∷ 0 ∷ 0 ∷ []))
    × (traps 0x1016 ≡ (0 ∷ 0 ∷ 0 ∷ [], 0 ∷ 0 ∷ 0 ∷ []))
    × (traps 0x1017 ≡ (1 ∷ 1 ∷ 1 ∷ [], 1 ∷ 1 ∷ 1 ∷ []))
    × (traps 0x1018 ≡ (2 ∷ 2 ∷ 2 ∷ [], 2 ∷ 2 ∷ 2 ∷ []))
unfolding after
plain_traps = (refl, refl, refl, refl, refl, refl, refl)

-- with one of them nothing changes, and there is no step
plain_stops :
    (alone (Load 0 8 Increment) (start but reg 8 0x1001) ≡ stops 1 (start but reg 8 0x1001) memory)
    × (alone (Lac A 8 (Pointed 8 Increment)) (start but reg 8 0x1018) ≡ stops 2 (start but reg 8 0x1018) memory)
    × (alone (Add A 8 (Pointed 8 Decrement)) (start but reg 8 0x1001) ≡ stops 1 (start but reg 8 0x1001) memory)
    × (alone (Sac A 8 (Pointed 8 Increment)) (start but reg 8 0x0ffe) ≡ stops 2 (start but reg 8 0x0ffe) memory)
    × (alone (SacR A 8 (Pointed 8 Increment)) (start but reg 8 0x1003) ≡ stops 1 (start but reg 8 0x1003) memory)
    × (alone (Store 0 8 Increment) (start but reg 8 0x1018) ≡ stops 2 (start but reg 8 0x1018) memory)
unfolding after
plain_stops = (refl, refl, refl, refl, refl, refl)

-- MAC with both reads and a write-back at these addresses: its trap
abbrev three : ℕ → ℕ → ℕ → ℕ
three x y w = (alone (mac Mac A 4 5 (Pointer 8 4) 4 (Pointer 10 4) 5 ToMemory) (start but reg 8 x but reg 10 y but reg 13 w)).trap

-- X before Y before write, each 1 before 2
ordered :
    three 0x1001 0x1018 0x1018
    ∷ three 0x100c 0x100d 0x1015
    ∷ three 0x0fff 0x1010 0x1014
    ∷ three 0x1002 0x1011 0x1018
    ∷ three 0x1002 0x100a 0x1015
    ∷ three 0x1002 0x1019 0x1014
    ∷ three 0x1002 0x1010 0x1015
    ∷ three 0x1002 0x1010 0x1018
    ∷ three 0x1002 0x1010 0x1019
    ∷ three 0x1002 0x1010 0x1014
    ∷ []
    ≡ 1 ∷ 2 ∷ 1 ∷ 1 ∷ 2 ∷ 1 ∷ 1 ∷ 2 ∷ 1 ∷ 0 ∷ []
unfolding after
ordered = refl

-- a bad write-back address stops loads, pointers and the accumulator, and repeat left, passes and pc stay
bad_back :
    (alone (mac Mac A 4 5 (Pointer 8 4) 4 (Pointer 10 4) 5 ToMemory) (start but reg 13 0x1015) ≡ stops 1 (start but reg 13 0x1015) memory)
    × (after (Do 9 3 ∷ Literal 0 1 ∷ Repeat 4 ∷ mac Msc B 4 5 (Pointer 8 4) 4 (Pointer 10 4) 5 ToMemory ∷ []) plain
    (start but at 3 but one 0 2 but due 1 but reg 13 0x1018) memory
    ≡ stops 2 (start but at 3 but one 0 2 but due 1 but reg 13 0x1018) memory)
unfolding after
bad_back = (refl, refl)

-- a bad Y read stops the X read, ED's accumulator and the difference
bad_y : alone (mac Ed A 4 4 (Pointer 8 4) 4 (Pointer 10 4) 0 NoBack) (start but reg 10 0x100a) ≡ stops 2 (start but reg 10 0x100a) memory
unfolding after
bad_y = refl

-- the address of a sum is checked: 1009 hex is odd, 100C is not X's; W11 + W13 at 100A is not Y's
sum_traps :
    (map (trap_at (read_x Sum) 12) (5 ∷ 6 ∷ 8 ∷ []) ≡ 1 ∷ 0 ∷ 2 ∷ [])
    × (map (trap_at (read_y Sum) 13) (0xfff8 ∷ 0xfffa ∷ 0xfffb ∷ 4 ∷ 6 ∷ []) ≡ 2 ∷ 0 ∷ 1 ∷ 0 ∷ 2 ∷ [])
unfolding after
sum_traps = (refl, refl)

-- trap 4: DO with four loops active, literal and register; with three it begins
five_loops :
    (after (Do 0 10 ∷ Do 0 9 ∷ Do 0 8 ∷ Do 0 7 ∷ Do 0 6 ∷ []) plain (start but at 4 but looping (slots (0 ∷ 1 ∷ 2 ∷ 3 ∷ []) (9 ∷ 8 ∷ 7 ∷ 6 ∷ []) 4)) memory
    ≡ stops 4 (start but at 4 but looping (slots (0 ∷ 1 ∷ 2 ∷ 3 ∷ []) (9 ∷ 8 ∷ 7 ∷ 6 ∷ []) 4)) memory)
    × (after (Do 0 10 ∷ Do 0 9 ∷ Do 0 8 ∷ Do 0 7 ∷ DoRegister 0 6 ∷ []) plain (start but at 4 but looping (slots (0 ∷ 1 ∷ 2 ∷ 3 ∷ []) (9 ∷ 8 ∷ 7 ∷ 6 ∷ []) 4)) memory
    ≡ stops 4 (start but at 4 but looping (slots (0 ∷ 1 ∷ 2 ∷ 3 ∷ []) (9 ∷ 8 ∷ 7 ∷ 6 ∷ []) 4)) memory)
    × (after (Do 0 10 ∷ Do 0 9 ∷ Do 0 8 ∷ Do 5 7 ∷ []) plain (start but at 3 but looping (slots (0 ∷ 1 ∷ 2 ∷ 0 ∷ []) (9 ∷ 8 ∷ 7 ∷ 0 ∷ []) 3)) memory
    ≡ goes (start but at 4 but looping (slots (0 ∷ 1 ∷ 2 ∷ 3 ∷ []) (9 ∷ 8 ∷ 7 ∷ 6 ∷ []) 4)) memory)
unfolding after
five_loops = (refl, refl, refl)

-- what an operation comes to before anything is written: registers, trap, exact result, place of the store
abbrev worked : Operation → State → List ℕ × ℕ × Exact × Place
worked o s =
    let work = work_of plain (mode_of 0x20) o s.core memory in
    (work.w, work.effect.trap, work.effect.exact, work.effect.place)

-- with a trap the registers are the old ones, and there is neither a result nor a store
no_work :
    (worked (mac Mac A 4 5 (Pointer 8 4) 4 (Pointer 10 4) 5 ToMemory) (start but reg 13 0x1015) ≡ (set registers 13 0x1015, 1, Keep, Nowhere))
    × (worked (Lac A 8 (Pointed 8 Increment)) (start but reg 8 0x1001) ≡ (set registers 8 0x1001, 1, Keep, Nowhere))
    × (worked (SacR A 8 (Pointed 8 Increment)) (start but reg 8 0x1018) ≡ (set registers 8 0x1018, 2, Keep, Nowhere))
    × (worked (Load 0 8 Increment) (start but reg 8 0x1018) ≡ (set registers 8 0x1018, 2, Keep, Nowhere))
    × (worked (Shift A 0) (start but reg 0 17) ≡ (set registers 0 17, 3, Keep, Nowhere))
    × (worked (Do 0 6) (start but looping (slots (0 ∷ 1 ∷ 2 ∷ 3 ∷ []) (9 ∷ 8 ∷ 7 ∷ 6 ∷ []) 4)) ≡ (registers, 4, Keep, Nowhere))
unfolding after
no_work = (refl, refl, refl, refl, refl, refl)

-- ---- traps 5 to 7

-- the trap of an operation by trap word 0, COVTE, OVBTE, OVATE, COVTE and OVATE, OVATE and OVBTE, all three
abbrev by_traps : Operation → State → List ℕ
by_traps o s = map (λ (t : ℕ). (once (settings_of t none none 15 0) o s).trap) (0 ∷ 0x100 ∷ 0x200 ∷ 0x400 ∷ 0x500 ∷ 0x600 ∷ 0x700 ∷ [])

-- A + B by a mode word
abbrev add_traps : Target → ℕ → ℤ → ℤ → List ℕ
add_traps t m a b = by_traps (AddAccumulators t) (start but by m but in_a a but in_b b)

-- saturation off: limits left and O set, to A and to B: 5 before 6 and 7, each by its own bit
left_traps :
    (add_traps A 0x20 (pos (2 ^ 39 - 1)) (pos 1) ≡ 0 ∷ 5 ∷ 0 ∷ 6 ∷ 5 ∷ 6 ∷ 5 ∷ [])
    × (add_traps B 0x20 (pos (2 ^ 39 - 1)) (pos 1) ≡ 0 ∷ 5 ∷ 7 ∷ 0 ∷ 5 ∷ 7 ∷ 5 ∷ [])
    × (add_traps A 0x20 (minus (2 ^ 39)) (minus 1) ≡ 0 ∷ 5 ∷ 0 ∷ 6 ∷ 5 ∷ 6 ∷ 5 ∷ [])
unfolding after
left_traps = (refl, refl, refl)

-- within the limits with O: 2^31 and -2^31 - 1; without O: 2^31 - 1 and -2^31
over_traps :
    (add_traps A 0x20 (pos (2 ^ 31 - 1)) (pos 1) ≡ 0 ∷ 0 ∷ 0 ∷ 6 ∷ 6 ∷ 6 ∷ 6 ∷ [])
    × (add_traps B 0x20 (pos (2 ^ 31 - 1)) (pos 1) ≡ 0 ∷ 0 ∷ 7 ∷ 0 ∷ 0 ∷ 7 ∷ 7 ∷ [])
    × (add_traps A 0x20 (minus (2 ^ 31)) (minus 1) ≡ 0 ∷ 0 ∷ 0 ∷ 6 ∷ 6 ∷ 6 ∷ 6 ∷ [])
    × (add_traps A 0x20 (pos (2 ^ 31 - 2)) (pos 1) ≡ replicate 7 0)
    × (add_traps B 0x20 (minus (2 ^ 31)) (pos 0) ≡ replicate 7 0)
unfolding after
over_traps = (refl, refl, refl, refl, refl)

-- limits left without O: 2^31 shifted by -16 leaves 0
left_without : by_traps (Shift A 0) (start but in_a (pos (2 ^ 31)) but reg 0 0xfff0) ≡ 0 ∷ 5 ∷ 0 ∷ 0 ∷ 5 ∷ 0 ∷ 5 ∷ []
unfolding after
left_without = refl

-- saturation on: never 5; with ACCSAT 1 there may be O; the other accumulator's saturation does not count
saturated_traps :
    (add_traps A 0x80 (pos (2 ^ 31 - 1)) (pos 1) ≡ replicate 7 0)
    × (add_traps B 0x80 (pos (2 ^ 31 - 1)) (pos 1) ≡ 0 ∷ 0 ∷ 7 ∷ 0 ∷ 0 ∷ 7 ∷ 7 ∷ [])
    × (add_traps A 0x90 (pos (2 ^ 39 - 1)) (pos 1) ≡ 0 ∷ 0 ∷ 0 ∷ 6 ∷ 6 ∷ 6 ∷ 6 ∷ [])
    × (add_traps B 0x90 (pos (2 ^ 39 - 1)) (pos 1) ≡ 0 ∷ 5 ∷ 7 ∷ 0 ∷ 5 ∷ 7 ∷ 5 ∷ [])
    × (add_traps A 0x40 (pos (2 ^ 39 - 1)) (pos 1) ≡ 0 ∷ 5 ∷ 0 ∷ 6 ∷ 5 ∷ 6 ∷ 5 ∷ [])
    × (add_traps B 0x50 (pos (2 ^ 39 - 1)) (pos 1) ≡ 0 ∷ 0 ∷ 7 ∷ 0 ∷ 0 ∷ 7 ∷ 7 ∷ [])
unfolding after
saturated_traps = (refl, refl, refl, refl, refl, refl)

-- only on writing that accumulator: OA and OB are set before; A is written without O; B is written; then kinds 7, 14, 15, 16, 19, 24, 25
only_on_writing :
    (by_traps (AddAccumulators A) (start but flags true true true true) ≡ replicate 7 0)
    × (by_traps (Negate B) (start but in_a (pos (2 ^ 38)) but flags true true true true) ≡ replicate 7 0)
    × (map (λ (o : Operation). (once (settings_of 0x700 none none 15 0) o (start but in_a (pos (2 ^ 38)) but in_b (pos (2 ^ 38)) but flags true true true true)).trap)
    (read_x (Pointer 8 3) ∷ Sac A 8 (Direct 0) ∷ SacR B 8 (Direct 0) ∷ Literal 0 1 ∷ Repeat 0 ∷ SetMode 0x80 ∷ ClearSaturation ∷ [])
    ≡ replicate 7 0)
unfolding after
only_on_writing = (refl, refl, refl)

-- kinds 1 to 15 by OVATE with 2^38 in A, 8000 hex in W4, 1 in W0: the first leaves no O; 7, 14 and 15 do not write
writing_kinds :
    map (λ (o : Operation). (once (settings_of 0x400 none none 15 0) o (start but in_a (pos (2 ^ 38)) but reg 4 0x8000 but reg 0 1)).trap)
    (bare Clr A 0 0
    ∷ bare Mpy A 4 4
    ∷ bare Mac A 5 5
    ∷ bare Msc A 5 5
    ∷ mac Ed A 4 4 (Pointer 8 3) 5 (Pointer 11 3) 0 NoBack
    ∷ mac Edac A 5 5 (Pointer 8 3) 5 (Pointer 11 3) 0 NoBack
    ∷ bare Movsac A 0 0
    ∷ AddAccumulators A
    ∷ Subtract A
    ∷ Negate A
    ∷ Shift A 0
    ∷ Lac A 0 (Direct 4)
    ∷ Add A 8 (Direct 0)
    ∷ Sac A 8 (Direct 0)
    ∷ SacR A 8 (Direct 0)
    ∷ [])
    ≡ 0 ∷ 6 ∷ 6 ∷ 6 ∷ 6 ∷ 6 ∷ 0 ∷ 6 ∷ 6 ∷ 6 ∷ 6 ∷ 6 ∷ 6 ∷ 0 ∷ 0 ∷ []
unfolding after
writing_kinds = refl

-- trap 5 in a loop's last place: loads, pointers, write-back, flags, passes and pc as after a normal step, and it counts
complete_5 :
    after (Literal 0 1 ∷ Do 9 3 ∷ Literal 0 1 ∷ mac Mac A 4 5 (Pointer 8 5) 4 (Pointer 10 2) 5 ToMemory ∷ []) (settings_of 0x700 none none 15 0)
    (start but at 3 but one 1 2 but in_a (pos (2 ^ 39 - 1))) memory
    ≡ ends 5
    (start but at 2 but one 1 1 but in_a (minus (2 ^ 39 - 419)) but flags true false true false
    but reg 4 101 but reg 5 108 but reg 8 0x1006 but reg 10 0x100e but reg 13 0x1016)
    (set memory 10 0)
unfolding after
complete_5 = refl

-- trap 6 while 3 runs are due: 2 are left, and pc stays
complete_6 :
    after (Repeat 4 ∷ Add A 8 (Pointed 8 Increment) ∷ []) (settings_of 0x400 none none 15 0) (start but at 1 but due 3 but in_a (pos (2 ^ 31 - 1))) memory
    ≡ ends 6 (start but at 1 but due 2 but in_a (pos 2154102783) but flags true false false false but reg 8 0x1004) memory
unfolding after
complete_6 = refl

-- trap 7 at the end of a loop and of the program
complete_7 :
    after (Do 9 2 ∷ Literal 0 1 ∷ Negate B ∷ []) (settings_of 0x200 none none 15 0) (start but at 2 but one 0 1 but in_b (minus (2 ^ 31 + 1))) memory
    ≡ ends 7 (start but at 3 but in_b (pos (2 ^ 31 + 1)) but flags false true false false) memory
unfolding after
complete_7 = refl

-- ---- repeats

-- 19 REPEAT literal: count + 1 runs of the following operation
repeats :
    (alone (Repeat 0) start ≡ goes (start but at 1 but due 1) memory)
    × (alone (Repeat 4) start ≡ goes (start but at 1 but due 5) memory)
    × (alone (Repeat 32767) start ≡ goes (start but at 1 but due 32768) memory)
unfolding after
repeats = (refl, refl, refl)

-- 20 REPEAT register: all 16 bits
register_repeats :
    map (λ (w : ℕ). (alone (RepeatRegister 3) (start but reg 3 w)).state.core.repeat) (0 ∷ 7 ∷ 0x4000 ∷ 0x8000 ∷ 0xffff ∷ []) ≡ 1 ∷ 8 ∷ 16385 ∷ 32769 ∷ 65536 ∷ []
unfolding after
register_repeats = refl

-- and nothing else changes
register_repeat : alone (RepeatRegister 0) start ≡ goes (start but at 1 but due 11) memory
unfolding after
register_repeat = refl

-- the repeated operation with 3, 2 and 1 runs due, and with none
due_runs :
    (after (Repeat 4 ∷ Load 0 8 Increment ∷ []) plain (start but at 1 but due 3) memory ≡ goes (start but at 1 but due 2 but reg 0 101 but reg 8 0x1004) memory)
    × (after (Repeat 4 ∷ Load 0 8 Increment ∷ []) plain (start but at 1 but due 2) memory ≡ goes (start but at 1 but due 1 but reg 0 101 but reg 8 0x1004) memory)
    × (after (Repeat 4 ∷ Load 0 8 Increment ∷ []) plain (start but at 1 but due 1) memory ≡ goes (start but at 2 but reg 0 101 but reg 8 0x1004) memory)
    × (after (EndEarly ∷ Load 0 8 Increment ∷ []) plain (start but at 1) memory ≡ goes (start but at 2 but reg 0 101 but reg 8 0x1004) memory)
unfolding after
due_runs = (refl, refl, refl, refl)

-- a trap of 1 to 4 in a repeat: repeat left stays
due_stops :
    after (Repeat 4 ∷ Load 0 8 Increment ∷ []) plain (start but at 1 but due 3 but reg 8 0x1018) memory ≡ stops 2 (start but at 1 but due 3 but reg 8 0x1018) memory
unfolding after
due_stops = refl

-- pc and repeat left after a step
abbrev due_after : Step → ℕ × ℕ
due_after x = (x.state.core.pc, x.state.core.repeat)

-- kinds 23, 24 and 25 are repeated too
due_controls :
    map (λ (o : Operation). due_after (after (Repeat 4 ∷ o ∷ []) plain (start but at 1 but due 2) memory)) (EndEarly ∷ SetMode 0x22 ∷ ClearSaturation ∷ [])
    ≡ replicate 3 (1, 1)
unfolding after
due_controls = refl

-- three products by REPEAT: 2 × (100 × 106 + 101 × 107 + 102 × 108), in five steps
dot :
    steps 5 (mac Clr A 0 0 (Pointer 8 4) 4 (Pointer 10 4) 5 NoBack ∷ Repeat 2 ∷ mac Mac A 4 5 (Pointer 8 4) 4 (Pointer 10 4) 5 NoBack ∷ [])
    (start but reg 8 0x1000 but reg 10 0x100c) memory
    ≡ goes (start but at 3 but in_a (pos 64846) but reg 4 103 but reg 5 109 but reg 8 0x1008 but reg 10 0x1014) memory
unfolding after
dot = refl

-- ---- loops

-- 21 DO literal: DO's number and count + 1 passes
does :
    (after (Literal 0 1 ∷ Do 4 3 ∷ []) plain (start but at 1) memory ≡ goes (start but at 2 but one 1 5) memory)
    × (after (Literal 0 1 ∷ Do 32767 3 ∷ []) plain (start but at 1) memory ≡ goes (start but at 2 but one 1 32768) memory)
    × (after (Literal 0 1 ∷ Do 4 9 ∷ Literal 0 1 ∷ Do 6 7 ∷ []) plain (start but at 3 but one 1 5) memory ≡ goes (start but at 4 but two 1 5 3 7) memory)
unfolding after
does = (refl, refl, refl)

-- 22 DO register: all 16 bits
register_does :
    map (λ (w : ℕ). get_or (alone (DoRegister 3 2) (start but reg 3 w)).state.core.loops.passes 0 0)
    (0 ∷ 1 ∷ 0x3fff ∷ 0x4000 ∷ 0x4001 ∷ 0x7fff ∷ 0x8000 ∷ 0xbfff ∷ 0xc000 ∷ 0xffff ∷ [])
    ≡ 1 ∷ 2 ∷ 16384 ∷ 16385 ∷ 16386 ∷ 32768 ∷ 32769 ∷ 49152 ∷ 49153 ∷ 65536 ∷ []
unfolding after
register_does = refl

-- and nothing else changes
register_do : after (Literal 0 1 ∷ DoRegister 0 3 ∷ []) plain (start but at 1) memory ≡ goes (start but at 2 but one 1 11) memory
unfolding after
register_do = refl

-- DO at 1 with last 8, DO at 3 with last 6; each other operation puts 7 in W0
abbrev nested : List Operation
nested =
    Literal 0 7 ∷ Do 4 8 ∷ Literal 0 7 ∷ Do 2 6 ∷ Literal 0 7 ∷ Literal 0 7 ∷ Literal 0 7 ∷ Literal 0 7 ∷ Literal 0 7 ∷ Literal 0 7 ∷ []

-- the last place: passes fall by 1; above 0 back to DO + 1; at 0 the loop ends, its slot is zero and pc moves on
falls :
    (after nested plain (start but at 8 but one 1 5) memory ≡ goes (start but at 2 but one 1 4 but reg 0 7) memory)
    × (after nested plain (start but at 8 but one 1 2) memory ≡ goes (start but at 2 but one 1 1 but reg 0 7) memory)
    × (after nested plain (start but at 8 but one 1 1) memory ≡ goes (start but at 9 but reg 0 7) memory)
    × (after nested plain (start but at 8 but one 1 65536) memory ≡ goes (start but at 2 but one 1 65535 but reg 0 7) memory)
unfolding after
falls = (refl, refl, refl, refl)

-- the inner loop goes back and ends on its own; the outer's passes stay
inner_falls :
    (after nested plain (start but at 6 but two 1 5 3 3) memory ≡ goes (start but at 4 but two 1 5 3 2 but reg 0 7) memory)
    × (after nested plain (start but at 6 but two 1 5 3 1) memory ≡ goes (start but at 7 but one 1 5 but reg 0 7) memory)
unfolding after
inner_falls = (refl, refl)

-- other places: pc moves on by 1, also next to a last place and after the loops
moves_on :
    (after nested plain (start but at 5 but two 1 5 3 1) memory ≡ goes (start but at 6 but two 1 5 3 1 but reg 0 7) memory)
    × (after nested plain (start but at 7 but one 1 1) memory ≡ goes (start but at 8 but one 1 1 but reg 0 7) memory)
    × (after nested plain (start but at 2 but one 1 1) memory ≡ goes (start but at 3 but one 1 1 but reg 0 7) memory)
    × (after nested plain (start but at 9) memory ≡ goes (start but at 10 but reg 0 7) memory)
unfolding after
moves_on = (refl, refl, refl, refl)

-- done: pc = count of operations, no step; one before it there is one
done :
    (done_or_stepped nested plain (start but at 10) memory ≡ stops 0 (start but at 10) memory)
    × (done_or_stepped nested plain (start but at 9) memory ≡ goes (start but at 10 but reg 0 7) memory)
unfolding after done_or_stepped
done = (refl, refl)

-- the fourth loop of four falls and ends
fourth_falls :
    (after (Do 0 9 ∷ Do 0 8 ∷ Do 0 7 ∷ Do 0 6 ∷ Literal 0 7 ∷ Literal 0 7 ∷ Literal 0 7 ∷ []) plain
    (start but at 6 but looping (slots (0 ∷ 1 ∷ 2 ∷ 3 ∷ []) (9 ∷ 8 ∷ 7 ∷ 6 ∷ []) 4)) memory
    ≡ goes (start but at 4 but looping (slots (0 ∷ 1 ∷ 2 ∷ 3 ∷ []) (9 ∷ 8 ∷ 7 ∷ 5 ∷ []) 4) but reg 0 7) memory)
    × (after (Do 0 9 ∷ Do 0 8 ∷ Do 0 7 ∷ Do 0 6 ∷ Literal 0 7 ∷ Literal 0 7 ∷ Literal 0 7 ∷ []) plain
    (start but at 6 but looping (slots (0 ∷ 1 ∷ 2 ∷ 3 ∷ []) (9 ∷ 8 ∷ 7 ∷ 1 ∷ []) 4)) memory
    ≡ goes (start but at 7 but looping (slots (0 ∷ 1 ∷ 2 ∷ 0 ∷ []) (9 ∷ 8 ∷ 7 ∷ 0 ∷ []) 3) but reg 0 7) memory)
unfolding after
fourth_falls = (refl, refl)

-- DO at 0 with last 3, which REPEAT repeats
abbrev last_repeated : Operation → List Operation
last_repeated o = Do 4 3 ∷ Literal 0 1 ∷ Repeat 1 ∷ o ∷ []

-- a repeated last place: passes fall once, after the last run
repeated_last :
    (after (last_repeated (Literal 0 7)) plain (start but at 3 but one 0 5 but due 2) memory ≡ goes (start but at 3 but one 0 5 but due 1 but reg 0 7) memory)
    × (after (last_repeated (Literal 0 7)) plain (start but at 3 but one 0 5 but due 1) memory ≡ goes (start but at 1 but one 0 4 but reg 0 7) memory)
    × (after (last_repeated (Literal 0 7)) plain (start but at 3 but one 0 1 but due 1) memory ≡ goes (start but at 4 but reg 0 7) memory)
unfolding after
repeated_last = (refl, refl, refl)

-- row J: DO 0, one pass: three steps and the loop is over; DO 1, two passes: four steps on the second is under way, after five it is over
pub row_j :
    (steps 3 (Do 0 2 ∷ Literal 0 7 ∷ Literal 1 8 ∷ []) start memory ≡ goes (start but at 3 but reg 0 7 but reg 1 8) memory)
    × (steps 4 (Do 1 2 ∷ Literal 0 7 ∷ Literal 1 8 ∷ []) start memory ≡ goes (start but at 2 but one 0 1 but reg 0 7 but reg 1 8) memory)
    × (steps 5 (Do 1 2 ∷ Literal 0 7 ∷ Literal 1 8 ∷ []) start memory ≡ goes (start but at 3 but reg 0 7 but reg 1 8) memory)
unfolding after
row_j = (refl, refl, refl)

-- two outer passes of three inner ones: 19 steps, A gets 6 × 65,536 and B (6 + 2) × 65,536
passes :
    steps 19 (Do 1 5 ∷ Do 2 3 ∷ Add A 8 (Direct 0) ∷ Add B 8 (Direct 0) ∷ Literal 1 9 ∷ Add B 8 (Direct 0) ∷ []) (start but reg 0 1) memory
    ≡ goes (start but at 6 but reg 0 1 but reg 1 9 but in_a (pos 393219) but in_b (pos 524293)) memory
unfolding after
passes = refl

-- ---- kind 23

-- DO at 1 with last 5, ended early at 2 to 5, and once after it
abbrev ending : List Operation
ending = Literal 0 7 ∷ Do 9 5 ∷ EndEarly ∷ EndEarly ∷ EndEarly ∷ EndEarly ∷ EndEarly ∷ []

-- row I: last place, passes 5 becomes 2, 1 stays 1, both before the loop's own fall by 1
pub row_i :
    (ended_early ending (at 5 (one 1 5 start)).core ≡ (at 5 (one 1 2 start)).core)
    × (ended_early ending (at 5 (one 1 1 start)).core ≡ (at 5 (one 1 1 start)).core)
    × (after ending plain (start but at 5 but one 1 5) memory ≡ goes (start but at 2 but one 1 1) memory)
    × (after ending plain (start but at 5 but one 1 1) memory ≡ goes (start but at 6) memory)
unfolding after
row_i = (refl, refl, refl, refl)

-- the last place with 2 and 3 passes: both become 1 after the fall; last but one: the smaller of passes and 2
near_last :
    (after ending plain (start but at 5 but one 1 2) memory ≡ goes (start but at 2 but one 1 1) memory)
    × (after ending plain (start but at 5 but one 1 3) memory ≡ goes (start but at 2 but one 1 1) memory)
    × (after ending plain (start but at 4 but one 1 5) memory ≡ goes (start but at 5 but one 1 2) memory)
    × (after ending plain (start but at 4 but one 1 3) memory ≡ goes (start but at 5 but one 1 2) memory)
    × (after ending plain (start but at 4 but one 1 2) memory ≡ goes (start but at 5 but one 1 2) memory)
    × (after ending plain (start but at 4 but one 1 1) memory ≡ goes (start but at 5 but one 1 1) memory)
    × (after ending plain (start but at 5 but one 1 65536) memory ≡ goes (start but at 2 but one 1 1) memory)
    × (after ending plain (start but at 4 but one 1 65536) memory ≡ goes (start but at 5 but one 1 2) memory)
unfolding after
near_last = (refl, refl, refl, refl, refl, refl, refl, refl)

-- other places: 1; outside a loop nothing happens
elsewhere :
    (after ending plain (start but at 3 but one 1 5) memory ≡ goes (start but at 4 but one 1 1) memory)
    × (after ending plain (start but at 3 but one 1 2) memory ≡ goes (start but at 4 but one 1 1) memory)
    × (after ending plain (start but at 3 but one 1 1) memory ≡ goes (start but at 4 but one 1 1) memory)
    × (after ending plain (start but at 2 but one 1 65536) memory ≡ goes (start but at 3 but one 1 1) memory)
    × (after ending plain (start but at 6) memory ≡ goes (start but at 7) memory)
unfolding after
elsewhere = (refl, refl, refl, refl, refl)

-- the innermost loop alone: inner places before, next to and in its last; then the outer's last but one
abbrev ending_two : List Operation
ending_two =
    Literal 0 7 ∷ Do 9 9 ∷ Literal 0 7 ∷ Do 9 7 ∷ Literal 0 7 ∷ EndEarly ∷ EndEarly ∷ EndEarly ∷ EndEarly ∷ Literal 0 7 ∷ []

innermost :
    (after ending_two plain (start but at 5 but two 1 4 3 5) memory ≡ goes (start but at 6 but two 1 4 3 1) memory)
    × (after ending_two plain (start but at 6 but two 1 4 3 5) memory ≡ goes (start but at 7 but two 1 4 3 2) memory)
    × (after ending_two plain (start but at 7 but two 1 4 3 5) memory ≡ goes (start but at 4 but two 1 4 3 1) memory)
    × (after ending_two plain (start but at 7 but two 1 4 3 1) memory ≡ goes (start but at 8 but one 1 4) memory)
    × (after ending_two plain (start but at 8 but one 1 4) memory ≡ goes (start but at 9 but one 1 2) memory)
unfolding after
innermost = (refl, refl, refl, refl, refl)

-- repeated in the last place: the minimum each time, one fall
repeated_ending :
    (after (last_repeated EndEarly) plain (start but at 3 but one 0 5 but due 2) memory ≡ goes (start but at 3 but one 0 2 but due 1) memory)
    × (after (last_repeated EndEarly) plain (start but at 3 but one 0 2 but due 1) memory ≡ goes (start but at 1 but one 0 1) memory)
    × (after (last_repeated EndEarly) plain (start but at 3 but one 0 1 but due 1) memory ≡ goes (start but at 4) memory)
unfolding after
repeated_ending = (refl, refl, refl)

-- ---- kinds 24 and 25

-- 24 mode word: accumulators and flags stay, though A is beyond SATA's limits; in a loop's last place the loop falls
modes :
    (alone (SetMode 0x10f3) (start but in_a (pos (2 ^ 38)) but flags false true true false)
    ≡ goes (start but at 1 but in_a (pos (2 ^ 38)) but flags false true true false but by 0x10f3) memory)
    × (after (Do 9 2 ∷ Literal 0 7 ∷ SetMode 0 ∷ []) plain (start but at 2 but one 0 2) memory ≡ goes (start but at 1 but one 0 1 but by 0) memory)
unfolding after
modes = (refl, refl)

-- the next operation goes by it: 14 × 15 not doubled
mode_next : steps 2 (SetMode 0x21 ∷ bare Mpy A 4 5 ∷ []) start memory ≡ goes (start but at 2 but by 0x21 but in_a (pos 210)) memory
unfolding after
mode_next = refl

-- 25 clears SA and SB, and not OA and OB; in a loop's last place the loop falls
clears_flags :
    (alone ClearSaturation (start but flags true true true true) ≡ goes (start but at 1 but flags true true false false) memory)
    × (alone ClearSaturation (start but flags false true false true) ≡ goes (start but at 1 but flags false true false false) memory)
    × (after (Do 9 2 ∷ Literal 0 7 ∷ ClearSaturation ∷ []) plain (start but at 2 but one 0 1 but flags true false true false) memory
    ≡ goes (start but at 3 but flags true false false false) memory)
unfolding after
clears_flags = (refl, refl, refl)

-- SA and SB after a step
abbrev saturations : Step → Bool × Bool
saturations x = (x.state.sa, x.state.sb)

-- no other kind clears a saturation flag
keeps_flags :
    map (λ (o : Operation). saturations (alone o (start but flags false false true true)))
    (bare Clr A 0 0
    ∷ bare Mpy B 4 5
    ∷ bare Mac A 4 5
    ∷ bare Msc B 4 5
    ∷ bare Ed A 4 4
    ∷ bare Edac B 4 4
    ∷ bare Movsac B 0 0
    ∷ AddAccumulators A
    ∷ Subtract B
    ∷ Negate A
    ∷ Shift A 0
    ∷ Lac B 8 (Direct 0)
    ∷ Add A 8 (Direct 0)
    ∷ Sac A 8 (Direct 0)
    ∷ SacR B 8 (Direct 0)
    ∷ Literal 0 1
    ∷ Load 0 8 Stays
    ∷ Store 0 8 Stays
    ∷ Repeat 0
    ∷ RepeatRegister 0
    ∷ Do 0 2
    ∷ DoRegister 0 2
    ∷ EndEarly
    ∷ SetMode 0
    ∷ [])
    ≡ replicate 24 (true, true)
unfolding after
keeps_flags = refl

-- ---- one step as a call

-- a call for literal 3 to W4, literal FFFE hex to W5 and MPY: executed at 0, done at 3, refused with 7 at 4, which leaves state and memory
calls :
    Steps file plain start memory (record { refusal = 0; trap = 0; counted = true; state = start but at 1 but reg 4 3 }) memory
    × Steps file plain (start but at 3) memory (record { refusal = 0; trap = 0; counted = false; state = start but at 3 }) memory
    × Steps file plain (start but at 4) memory (record { refusal = 7; trap = 0; counted = false; state = start but at 4 }) memory
unfolding after done_or_stepped refused
calls = (record { refusal = refl; left = refl }, record { refusal = refl; left = refl }, record { refusal = refl; left = refl })
