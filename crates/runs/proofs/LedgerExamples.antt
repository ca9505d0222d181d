-- The ledger's list with SATDW off and on, its steps, its stops and its traps by every trap word, each value worked out by hand from document 01. Assumes
-- nothing.
use Prim.Native.Nat.{ℕ, zero, suc, ◌+◌, ◌-◌, ◌^◌}
use mathlib.Core.Path.{◌≡◌, refl}
use mathlib.Core.Bool.{Bool, true, false}
use mathlib.Core.List.{List, [], ◌∷◌, map}
use lib.IntN.{ℤ, pos}
use lib.ListN.{set, replicate}
use Rattle.integers.specs.Range.{minus}
use Rattle.accumulator.specs.declared.mode.Target.{Target}
use Rattle.accumulator.specs.declared.mode.Target.TheVariants.{A, B}
use Rattle.operations.specs.declared.operation.Action.TheVariants.{Mac, Movsac}
use Rattle.operations.specs.declared.operation.WriteBack.TheVariants.{Register as ToRegister, Memory as ToMemory}
use Rattle.operations.specs.declared.operation.PostModification.TheVariants.{None as Stays, Increment}
use Rattle.operations.specs.declared.operation.Operand.TheVariants.{Register as Direct, Memory as Pointed}
use Rattle.operations.specs.declared.operation.Operation.{Operation}
use Rattle.operations.specs.declared.operation.Operation.TheVariants.{AddAccumulators, Lac, Sac, SacR, Load, Repeat, Do}
use Rattle.state.specs.declared.state.State.{State}
use Rattle.state.proofs.Made.{◌but◌, reg, in_a, in_b, at, due, by, flags, one}
use Rattle.effects.specs.declared.access.Place.{Place}
use Rattle.effects.specs.declared.access.Place.TheVariants.{Register}
use Rattle.endings.specs.declared.ending.Ending.TheVariants.{Done, Spent, Trap}
use Rattle.runs.specs.Run.{Stop}
use Rattle.runs.specs.Run.Stop.{ended, left}
use Rattle.runs.specs.Ledger.{Entry}
use Rattle.runs.proofs.Opened.{exact, onward}
use Rattle.runs.proofs.RunExamples.{trapping, plain, memory, start, stops, entry, word, bare, adds, lists}

-- ---- how they are written

-- SATDW off: no bit at all, and every other bit of a good mode word
abbrev off : List ℕ
off = 0 ∷ 0x10d3 ∷ []

-- SATDW on: alone, and with every other bit
abbrev on : List ℕ
on = 0x20 ∷ 0x10f3 ∷ []

-- by a mode word with v in A; W8 has the address of word 4, W13 of word 5
abbrev holding : ℤ → ℕ → State
holding v m = start but by m but reg 8 0x1008 but reg 13 0x100a but in_a v

-- the lists of one store to a register and of one to memory, by each of some mode words
abbrev of_both : Operation → Operation → ℤ → List ℕ → List (List (List Entry))
of_both first second v modes = map (λ (m : ℕ). lists first (holding v m) ∷ lists second (holding v m) ∷ []) modes

-- 14 with shift b2 - 8, to W3 and to word 4
abbrev truncates : ℕ → ℤ → List ℕ → List (List (List Entry))
truncates b2 v modes = of_both (Sac A b2 (Direct 3)) (Sac A b2 (Pointed 8 Stays)) v modes

-- 15 the same
abbrev rounds : ℕ → ℤ → List ℕ → List (List (List Entry))
rounds b2 v modes = of_both (SacR A b2 (Direct 3)) (SacR A b2 (Pointed 8 Stays)) v modes

-- write-back, to W13 and to word 5
abbrev writes_back_lem : ℤ → List ℕ → List (List (List Entry))
writes_back_lem v modes = of_both (bare Movsac B 0 0 ToRegister) (bare Movsac B 0 0 ToMemory) v modes

-- by both mode words the list is one entry: v, the word, limiting, rounded
abbrev each : Place → Place → ℤ → ℤ → Bool → Bool → List (List (List Entry))
each first second v x limiting rounded =
    replicate 2 ((entry 1 first v x limiting rounded ∷ []) ∷ (entry 1 second v x limiting rounded ∷ []) ∷ [])

-- of 14, of 15 and of write-back
abbrev truncated : ℤ → ℤ → Bool → List (List (List Entry))
truncated v x limiting = each (Register 3) (word 4) v x limiting false

abbrev rounded_to : ℤ → ℤ → Bool → List (List (List Entry))
rounded_to v x limiting = each (Register 3) (word 4) v x limiting true

abbrev written_back : ℤ → ℤ → Bool → List (List (List Entry))
written_back v x limiting = each (Register 13) (word 5) v x limiting true

-- ---- limiting was not needed, with SATDW off and on

-- shift -2: 25,000 × 4 is 100,000, 1 and 34,464 over; -17,500 × 4 is -70,000, -2 and 61,072 over; shift 1: -140,001 is -70,001, -2 and 61,071 over
truncated_unlimited :
    (truncates 6 (pos 25000) off ≡ truncated (pos 100000) (pos 1) false)
    × (truncates 6 (pos 25000) on ≡ truncated (pos 100000) (pos 1) false)
    × (truncates 6 (minus 17500) off ≡ truncated (minus 70000) (minus 2) false)
    × (truncates 6 (minus 17500) on ≡ truncated (minus 70000) (minus 2) false)
    × (truncates 9 (minus 140001) off ≡ truncated (minus 70001) (minus 2) false)
unfolding exact
truncated_unlimited = (refl, refl, refl, refl, refl)

-- the same rounded: one more each
rounded_unlimited :
    (rounds 6 (pos 25000) off ≡ rounded_to (pos 100000) (pos 2) false)
    × (rounds 6 (pos 25000) on ≡ rounded_to (pos 100000) (pos 2) false)
    × (rounds 6 (minus 17500) off ≡ rounded_to (minus 70000) (minus 1) false)
    × (rounds 6 (minus 17500) on ≡ rounded_to (minus 70000) (minus 1) false)
    × (rounds 9 (minus 140001) off ≡ rounded_to (minus 70001) (minus 1) false)
unfolding exact
rounded_unlimited = (refl, refl, refl, refl, refl)

-- write-back has shift 0
back_unlimited :
    (writes_back_lem (pos 100000) off ≡ written_back (pos 100000) (pos 2) false)
    × (writes_back_lem (pos 100000) on ≡ written_back (pos 100000) (pos 2) false)
    × (writes_back_lem (minus 70000) off ≡ written_back (minus 70000) (minus 1) false)
    × (writes_back_lem (minus 70000) on ≡ written_back (minus 70000) (minus 1) false)
unfolding exact
back_unlimited = (refl, refl, refl, refl)

-- ---- limiting was needed, with SATDW off and on

-- shift -2: 536,887,296 × 4 is 32,769 × 65,536, low 16 bits 8001 hex; -536,903,680 × 4 is -32,770 × 65,536, low 16 bits 7FFE hex
truncated_limited :
    (truncates 6 (pos 536887296) off ≡ truncated (pos 2147549184) (minus 32767) true)
    × (truncates 6 (pos 536887296) on ≡ truncated (pos 2147549184) (pos 32767) true)
    × (truncates 6 (minus 536903680) off ≡ truncated (minus 2147614720) (pos 32766) true)
    × (truncates 6 (minus 536903680) on ≡ truncated (minus 2147614720) (minus 32768) true)
unfolding exact
truncated_limited = (refl, refl, refl, refl)

-- the same rounded: nothing is over, so the words are the same
rounded_limited :
    (rounds 6 (pos 536887296) off ≡ rounded_to (pos 2147549184) (minus 32767) true)
    × (rounds 6 (pos 536887296) on ≡ rounded_to (pos 2147549184) (pos 32767) true)
    × (rounds 6 (minus 536903680) off ≡ rounded_to (minus 2147614720) (pos 32766) true)
    × (rounds 6 (minus 536903680) on ≡ rounded_to (minus 2147614720) (minus 32768) true)
unfolding exact
rounded_limited = (refl, refl, refl, refl)

-- the same v written back, by shift 0
back_limited :
    (writes_back_lem (pos 2147549184) off ≡ written_back (pos 2147549184) (minus 32767) true)
    × (writes_back_lem (pos 2147549184) on ≡ written_back (pos 2147549184) (pos 32767) true)
    × (writes_back_lem (minus 2147614720) off ≡ written_back (minus 2147614720) (pos 32766) true)
    × (writes_back_lem (minus 2147614720) on ≡ written_back (minus 2147614720) (minus 32768) true)
unfolding exact
back_limited = (refl, refl, refl, refl)

-- ---- where it begins

-- truncated: the greatest and the least v that need none, 2^31 - 1 and -2^31, and the next ones, 32,768 and -32,769 units
truncated_edges :
    (truncates 8 (pos (2 ^ 31 - 1)) off ≡ truncated (pos (2 ^ 31 - 1)) (pos 32767) false)
    × (truncates 8 (minus (2 ^ 31)) off ≡ truncated (minus (2 ^ 31)) (minus 32768) false)
    × (truncates 8 (pos (2 ^ 31)) off ≡ truncated (pos (2 ^ 31)) (minus 32768) true)
    × (truncates 8 (minus (2 ^ 31 + 1)) off ≡ truncated (minus (2 ^ 31 + 1)) (pos 32767) true)
    × (truncates 8 (pos (2 ^ 31)) on ≡ truncated (pos (2 ^ 31)) (pos 32767) true)
    × (truncates 8 (minus (2 ^ 31 + 1)) on ≡ truncated (minus (2 ^ 31 + 1)) (minus 32768) true)
unfolding exact
truncated_edges = (refl, refl, refl, refl, refl, refl)

-- rounded: 2^31 - 32,769 is 32,767 units and 32,767 over, one more is half a unit over the odd 32,767; -2^31 - 32,768 is half a unit over the odd
-- -32,769, one less is 32,767 over it
rounded_edges :
    (rounds 8 (pos (2 ^ 31 - 32769)) off ≡ rounded_to (pos (2 ^ 31 - 32769)) (pos 32767) false)
    × (rounds 8 (minus (2 ^ 31 + 32768)) off ≡ rounded_to (minus (2 ^ 31 + 32768)) (minus 32768) false)
    × (rounds 8 (pos (2 ^ 31 - 32768)) off ≡ rounded_to (pos (2 ^ 31 - 32768)) (minus 32768) true)
    × (rounds 8 (minus (2 ^ 31 + 32769)) off ≡ rounded_to (minus (2 ^ 31 + 32769)) (pos 32767) true)
    × (rounds 8 (pos (2 ^ 31 - 32768)) on ≡ rounded_to (pos (2 ^ 31 - 32768)) (pos 32767) true)
    × (rounds 8 (minus (2 ^ 31 + 32769)) on ≡ rounded_to (minus (2 ^ 31 + 32769)) (minus 32768) true)
unfolding exact
rounded_edges = (refl, refl, refl, refl, refl, refl)

-- write-back begins where kind 15 does
back_edges :
    (writes_back_lem (pos (2 ^ 31 - 32769)) off ≡ written_back (pos (2 ^ 31 - 32769)) (pos 32767) false)
    × (writes_back_lem (minus (2 ^ 31 + 32768)) off ≡ written_back (minus (2 ^ 31 + 32768)) (minus 32768) false)
    × (writes_back_lem (pos (2 ^ 31 - 32768)) off ≡ written_back (pos (2 ^ 31 - 32768)) (minus 32768) true)
    × (writes_back_lem (minus (2 ^ 31 + 32769)) off ≡ written_back (minus (2 ^ 31 + 32769)) (pos 32767) true)
    × (writes_back_lem (pos (2 ^ 31 - 32768)) on ≡ written_back (pos (2 ^ 31 - 32768)) (pos 32767) true)
    × (writes_back_lem (minus (2 ^ 31 + 32769)) on ≡ written_back (minus (2 ^ 31 + 32769)) (minus 32768) true)
unfolding exact
back_edges = (refl, refl, refl, refl, refl, refl)

-- v is whole also where it has more than 40 bits: 2^39 - 1 by -8 is 2^47 - 256, low 16 bits of its 2^31 - 1 units FFFF hex
wide_value :
    (truncates 0 (pos (2 ^ 39 - 1)) off ≡ truncated (pos (2 ^ 47 - 256)) (minus 1) true)
    × (rounds 0 (minus (2 ^ 39)) on ≡ rounded_to (minus (2 ^ 47)) (minus 32768) true)
unfolding exact
wide_value = (refl, refl)

-- ---- steps, counted from 1, and the order of the list

-- two passes: W0 = 1 is added to A; A rounded to the words from 0 on, twice; MAC B by 3 × -2 doubled with A written back to W13
abbrev passes : List Operation
passes = Do 1 4 ∷ adds A ∷ Repeat 1 ∷ SacR A 8 (Pointed 8 Increment) ∷ bare Mac B 4 5 ToRegister ∷ []

abbrev passes_start : State
passes_start = start but by 0 but reg 0 1 but reg 4 3 but reg 5 0xfffe but reg 8 0x1000

-- the first pass has steps 2 to 6, the second 7 to 11; latest first
abbrev first_pass : List Entry
first_pass =
    entry 6 (Register 13) (pos 65536) (pos 1) false true
    ∷ entry 5 (word 1) (pos 65536) (pos 1) false true
    ∷ entry 4 (word 0) (pos 65536) (pos 1) false true
    ∷ []

abbrev second_pass : List Entry
second_pass =
    entry 11 (Register 13) (pos 131072) (pos 2) false true
    ∷ entry 10 (word 3) (pos 131072) (pos 2) false true
    ∷ entry 9 (word 2) (pos 131072) (pos 2) false true
    ∷ first_pass

-- to its end, after step 4, after step 6 and after step 9
in_passes :
    (exact passes plain 99 passes_start memory
    ≡ stops (ended Done) 11 (passes_start but at 5 but reg 8 0x1008 but reg 13 2 but in_a (pos 131072) but in_b (minus 24))
    (set (set (set (set memory 0 1) 1 1) 2 2) 3 2) second_pass)
    × (exact passes plain 4 passes_start memory
    ≡ stops (ended Spent) 4 (passes_start but at 3 but one 0 2 but due 1 but reg 8 0x1002 but in_a (pos 65536)) (set memory 0 1)
    (entry 4 (word 0) (pos 65536) (pos 1) false true ∷ []))
    × (exact passes plain 6 passes_start memory
    ≡ stops (ended Spent) 6 (passes_start but at 1 but one 0 1 but reg 8 0x1004 but reg 13 1 but in_a (pos 65536) but in_b (minus 12))
    (set (set memory 0 1) 1 1) first_pass)
    × (exact passes plain 9 passes_start memory
    ≡ stops (ended Spent) 9 (passes_start but at 3 but one 0 1 but due 1 but reg 8 0x1006 but reg 13 1 but in_a (pos 131072) but in_b (minus 12))
    (set (set (set memory 0 1) 1 1) 2 2) (entry 9 (word 2) (pos 131072) (pos 2) false true ∷ first_pass))
unfolding exact
in_passes = (refl, refl, refl, refl)

-- begun in the last pass with one run due: its first store is step 1 of the run
begun_within :
    exact passes plain 99 (passes_start but at 3 but one 0 1 but due 1 but in_a (minus 70000)) memory
    ≡ stops (ended Done) 2 (passes_start but at 5 but reg 8 0x1002 but reg 13 0xffff but in_a (minus 70000) but in_b (minus 12)) (set memory 0 0xffff)
    (entry 2 (Register 13) (minus 70000) (minus 1) false true ∷ entry 1 (word 0) (minus 70000) (minus 1) false true ∷ [])
unfolding exact
begun_within = refl

-- the entries of n stores of 0 to W3, of which the first is step 2
many : ℕ → List Entry
many zero = []
many (suc n) = entry (suc (suc n)) (Register 3) (pos 0) (pos 0) false true ∷ many n

-- a store of 0 where 0 stands is listed as well, and each of a hundred
hundred_stores : exact (Repeat 99 ∷ SacR A 8 (Direct 3) ∷ []) plain 101 (start but by 0) memory ≡ stops (ended Done) 101 (start but by 0 but at 2) memory (many 100)
unfolding exact many
hundred_stores = refl

-- what is stored is read again: 100,000 rounded to 2 in word 4, loaded to W1 and, 2 × 65,536, to B; of 32,769 units SATDW off keeps 8001 hex
own_memory :
    (exact (SacR A 8 (Pointed 8 Stays) ∷ Load 1 8 Stays ∷ Lac B 8 (Pointed 8 Stays) ∷ []) plain 9 (holding (pos 100000) 0) memory
    ≡ stops (ended Done) 3 (holding (pos 100000) 0 but at 3 but reg 1 2 but in_b (pos 131072)) (set memory 4 2)
    (entry 1 (word 4) (pos 100000) (pos 2) false true ∷ []))
    × (exact (Sac A 8 (Pointed 8 Stays) ∷ Load 1 8 Stays ∷ []) plain 9 (holding (pos 2147549184) 0) memory
    ≡ stops (ended Done) 2 (holding (pos 2147549184) 0 but at 2 but reg 1 0x8001) (set memory 4 0x8001)
    (entry 1 (word 4) (pos 2147549184) (minus 32767) true false ∷ []))
unfolding exact
own_memory = (refl, refl)

-- ---- "left"

-- SATA and ACCSAT 0; A is 2^31 - 2, B 1
abbrev close : State
close = start but by 0xa0 but in_a (pos (2 ^ 31 - 2)) but in_b (pos 1)

-- in the second of three runs: repeat left, pc and A as before it; in the second of three passes: so the passes, and both stores of A, truncated to 32,767, stay listed
left_within :
    (exact (Repeat 2 ∷ AddAccumulators A ∷ []) plain 9 close memory ≡ stops left 2 (close but at 1 but due 2 but in_a (pos (2 ^ 31 - 1))) memory [])
    × (exact (Do 2 2 ∷ Sac A 8 (Direct 1) ∷ AddAccumulators A ∷ []) plain 9 close memory
    ≡ stops left 4 (close but at 2 but one 0 2 but reg 1 32767 but in_a (pos (2 ^ 31 - 1))) memory
    (entry 4 (Register 1) (pos (2 ^ 31 - 1)) (pos 32767) false false ∷ entry 2 (Register 1) (pos (2 ^ 31 - 2)) (pos 32767) false false ∷ []))
unfolding exact
left_within = (refl, refl)

-- a step with a write-back of B, 1.5 units, to word 5 whose sum leaves: nothing is written and nothing listed; the ledger that goes on does both
left_with_store :
    (exact (bare Mac A 4 4 ToMemory ∷ []) plain 9 (close but reg 4 1 but reg 13 0x100a but in_b (pos 98304)) memory
    ≡ stops left 0 (close but reg 4 1 but reg 13 0x100a but in_b (pos 98304)) memory [])
    × (onward (bare Mac A 4 4 ToMemory ∷ []) plain 9 (close but reg 4 1 but reg 13 0x100a but in_b (pos 98304)) memory
    ≡ stops (ended Done) 1
    (close but at 1 but reg 4 1 but reg 13 0x100c but in_a (pos (2 ^ 31)) but in_b (pos 98304) but flags true false false false) (set memory 5 2)
    (entry 1 (word 5) (pos 98304) (pos 2) false true ∷ []))
unfolding exact onward
left_with_store = (refl, refl)

-- ---- traps 6 and 7 by every trap word

-- OVATE is 0400 hex, OVBTE 0200, COVTE 0100
abbrev trap_words : List ℕ
trap_words = 0 ∷ 0x100 ∷ 0x200 ∷ 0x300 ∷ 0x400 ∷ 0x500 ∷ 0x600 ∷ 0x700 ∷ []

-- how A + B to a target stops by each, by a mode word
abbrev sums_stop : Target → ℕ → ℤ → ℤ → List Stop
sums_stop t m a b = map (λ (traps : ℕ). (exact (AddAccumulators t ∷ []) (trapping traps) 9 (start but by m but in_a a but in_b b) memory).stop) trap_words

-- the same where the ledger goes on
abbrev sums_onward : Target → ℕ → ℤ → ℤ → List Stop
sums_onward t m a b = map (λ (traps : ℕ). (onward (AddAccumulators t ∷ []) (trapping traps) 9 (start but by m but in_a a but in_b b) memory).stop) trap_words

-- 6 where OVATE is on, 7 where OVBTE is
abbrev by_ovate : List Stop
by_ovate = ended Done ∷ ended Done ∷ ended Done ∷ ended Done ∷ ended (Trap 6) ∷ ended (Trap 6) ∷ ended (Trap 6) ∷ ended (Trap 6) ∷ []

abbrev by_ovbte : List Stop
by_ovbte = ended Done ∷ ended Done ∷ ended (Trap 7) ∷ ended (Trap 7) ∷ ended Done ∷ ended Done ∷ ended (Trap 7) ∷ ended (Trap 7) ∷ []

-- 2^31 and -2^31 - 1, in A and in B, with saturation off and on (ACCSAT 1)
overflow_traps :
    (sums_stop A 0x20 (pos (2 ^ 31 - 1)) (pos 1) ≡ by_ovate)
    × (sums_stop A 0xb0 (minus (2 ^ 31)) (minus 1) ≡ by_ovate)
    × (sums_stop B 0x70 (pos (2 ^ 31 - 1)) (pos 1) ≡ by_ovbte)
    × (sums_stop B 0x20 (minus (2 ^ 31)) (minus 1) ≡ by_ovbte)
unfolding exact
overflow_traps = (refl, refl, refl, refl)

-- 2^31 - 1 and -2^31: none
no_traps :
    (sums_stop A 0x20 (pos (2 ^ 31 - 2)) (pos 1) ≡ replicate 8 (ended Done))
    × (sums_stop A 0x20 (minus (2 ^ 31 - 1)) (minus 1) ≡ replicate 8 (ended Done))
    × (sums_stop B 0x20 (pos (2 ^ 31 - 2)) (pos 1) ≡ replicate 8 (ended Done))
    × (sums_stop B 0x20 (minus (2 ^ 31 - 1)) (minus 1) ≡ replicate 8 (ended Done))
unfolding exact
no_traps = (refl, refl, refl, refl)

-- 2^39, beyond the limits: "left" by every trap word; the ledger that goes on has 6 and 7 there, and never 5
left_or_traps :
    (sums_stop A 0x20 (pos (2 ^ 39 - 1)) (pos 1) ≡ replicate 8 left)
    × (sums_stop B 0x20 (pos (2 ^ 39 - 1)) (pos 1) ≡ replicate 8 left)
    × (sums_onward A 0x20 (pos (2 ^ 39 - 1)) (pos 1) ≡ by_ovate)
    × (sums_onward B 0x20 (pos (2 ^ 39 - 1)) (pos 1) ≡ by_ovbte)
unfolding exact onward
left_or_traps = (refl, refl, refl, refl)

-- the step of trap 7 is complete: B + 3 × 3 doubled is 2^31, A, -70,000, is written back to W13 and listed
trap_lists :
    exact (bare Mac B 4 4 ToRegister ∷ adds A ∷ []) (trapping 0x200) 9 (start but by 0 but reg 4 3 but in_a (minus 70000) but in_b (pos (2 ^ 31 - 18))) memory
    ≡ stops (ended (Trap 7)) 1
    (start but by 0 but at 1 but reg 4 3 but reg 13 0xffff but in_a (minus 70000) but in_b (pos (2 ^ 31)) but flags false true false false) memory
    (entry 1 (Register 13) (minus 70000) (minus 1) false true ∷ [])
unfolding exact
trap_lists = refl
