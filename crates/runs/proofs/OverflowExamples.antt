-- Runs whose sums overflow, against the ledger that goes on: what is equal, what differs, and why each premise is there. Each value is worked out by hand.
-- Assumes nothing.
use Prim.Native.Nat.{ℕ, ◌+◌, ◌*◌, ◌-◌, ◌^◌}
use mathlib.Core.Bool.{true, false, ◌||◌, or-true}
use mathlib.Core.List.{List, [], ◌∷◌}
use mathlib.Core.Path.{◌≡◌, refl}
use lib.IntN.{pos}
use lib.ListN.{set}
use Rattle.integers.specs.Range.{minus}
use Rattle.accumulator.specs.declared.mode.Target.{Target}
use Rattle.accumulator.specs.declared.mode.Target.TheVariants.{A, B}
use Rattle.operations.specs.Encode.{encode_of, action_byte}
use Rattle.operations.specs.declared.operation.Action.{Action}
use Rattle.operations.specs.declared.operation.Action.TheVariants.{Clr, Mpy, Mac, Msc, Ed, Edac, Movsac}
use Rattle.operations.specs.declared.operation.Prefetch.TheVariants.{Pointer}
use Rattle.operations.specs.declared.operation.WriteBack.{WriteBack}
use Rattle.operations.specs.declared.operation.WriteBack.TheVariants.{None as NoBack, Register as ToRegister, Memory as ToMemory}
use Rattle.operations.specs.declared.operation.PostModification.{PostModification}
use Rattle.operations.specs.declared.operation.PostModification.TheVariants.{None as Stays, Increment}
use Rattle.operations.specs.declared.operation.Operand.{Operand}
use Rattle.operations.specs.declared.operation.Operand.TheVariants.{Register as Direct, Memory as Pointed}
use Rattle.operations.specs.declared.operation.MacClass.{MacClass}
use Rattle.operations.specs.declared.operation.Operation.{Operation}
use Rattle.operations.specs.declared.operation.Operation.TheVariants.{MacClass as MacOperation, AddAccumulators, Subtract, Negate, Shift, Lac, Add, Sac}
use Rattle.operations.specs.declared.operation.Operation.TheVariants.{SacR, Literal, Load, Store, Repeat, RepeatRegister, Do, DoRegister, EndEarly, SetMode}
use Rattle.operations.specs.declared.operation.Operation.TheVariants.{ClearSaturation}
use Rattle.state.specs.declared.state.State.{State}
use Rattle.state.proofs.Made.{◌but◌, reg, in_a, in_b, at, looping, slots, by, flags}
use Rattle.effects.specs.declared.access.Place.TheVariants.{Register}
use Rattle.machine.specs.Step.{operation_at}
use Rattle.endings.specs.declared.ending.Ending.TheVariants.{Done, Spent, Trap}
use Rattle.runs.specs.Run.Stop.{ended, left}
use Rattle.runs.specs.Holds.{holds}
use Rattle.runs.specs.Wraps.{is_barred, holds_barred, is_saturating, Wraps, is_barred_kind}
use Rattle.runs.proofs.Opened.{engine, exact, onward}
use Rattle.runs.proofs.Holds.{none_holds}
use Rattle.runs.proofs.RunExamples.{trapping, plain, memory, start, ends, stops, bare, entry}

-- ---- A and B hold the greatest number of 40 bits

abbrev most : ℕ
most = 2 ^ 39 - 1

abbrev full : State
full = start but in_a (pos most) but in_b (pos most)

-- A + B to A; A minus B to A
abbrev there_and_back : List Operation
there_and_back = AddAccumulators A ∷ Subtract A ∷ []

-- the sum 2^40 - 2 is kept as -2 with SA set and OA clear; the ledger keeps it and sets OA
doubled :
    (engine there_and_back plain 1 full memory ≡ ends Spent 1 (full but at 1 but in_a (minus 2) but flags false false true false) memory)
    × (onward there_and_back plain 1 full memory
    ≡ stops (ended Spent) 1 (full but at 1 but in_a (pos (2 ^ 40 - 2)) but flags true false false false) memory [])
unfolding engine onward
doubled = (refl, refl)

-- the way back: -2 - (2^39 - 1) is kept as 2^39 - 1, which the ledger has too
back :
    (engine there_and_back plain 9 full memory ≡ ends Done 2 (full but at 2 but flags true false true false) memory)
    × (onward there_and_back plain 9 full memory ≡ stops (ended Done) 2 (full but at 2 but flags true false false false) memory [])
unfolding engine onward
back = (refl, refl)

-- the ledger of document 01 stops before the first sum
stops_at_once : exact there_and_back plain 9 full memory ≡ stops left 0 full memory []
unfolding exact
stops_at_once = refl

-- A + B to A; CLR B; A + B to B: both are -2 in the engine, and 2^40 - 2 in the ledger
abbrev both_doubled : List Operation
both_doubled = AddAccumulators A ∷ bare Clr B 0 0 NoBack ∷ AddAccumulators B ∷ []

both :
    (engine both_doubled plain 9 full memory ≡ ends Done 3 (full but at 3 but in_a (minus 2) but in_b (minus 2) but flags false false true false) memory)
    × (onward both_doubled plain 9 full memory
    ≡ stops (ended Done) 3 (full but at 3 but in_a (pos (2 ^ 40 - 2)) but in_b (pos (2 ^ 40 - 2)) but flags true true false false) memory [])
unfolding engine onward
both = (refl, refl)

-- the statement of that run: low 40 bits are equal where numbers and O flags are not
both_wrap : Wraps (engine both_doubled plain 9 full memory) (onward both_doubled plain 9 full memory)
unfolding engine onward
both_wrap =
    record {
      matches =
          record {
            a = record { low = refl };
            b = record { low = refl };
            w = refl;
            pc = refl;
            loops = refl;
            repeat = refl;
            mode = refl;
            memory = refl;
          };
      a = refl;
      b = refl;
      steps = refl;
      stop = refl;
    }

-- SA and SB set at the start: A, B and all else as before, and the flags stay set
flagged_start :
    (engine there_and_back plain 1 (full but flags false true true true) memory
    ≡ ends Spent 1 (full but at 1 but in_a (minus 2) but flags false true true true) memory)
    × (onward there_and_back plain 1 (full but flags false true true true) memory
    ≡ stops (ended Spent) 1 (full but at 1 but in_a (pos (2 ^ 40 - 2)) but flags true true false false) memory [])
unfolding engine onward
flagged_start = (refl, refl)

-- A + B twice: 3 × (2^39 - 1) in the ledger, 2^39 - 3 in the engine
twice :
    (engine (AddAccumulators A ∷ AddAccumulators A ∷ []) plain 9 full memory
    ≡ ends Done 2 (full but at 2 but in_a (pos (2 ^ 39 - 3)) but flags true false true false) memory)
    × (onward (AddAccumulators A ∷ AddAccumulators A ∷ []) plain 9 full memory
    ≡ stops (ended Done) 2 (full but at 2 but in_a (pos (3 * 2 ^ 39 - 3)) but flags true false false false) memory [])
unfolding engine onward
twice = (refl, refl)

-- ---- one step over either limit

-- IF 1: MAC of 1 × 1 adds 1 to 2^39 - 1, MSC takes 1 from -2^39
abbrev ones : State
ones = start but by 0x21 but reg 4 1

over_by_one :
    (engine (bare Mac A 4 4 NoBack ∷ []) plain 9 (ones but in_a (pos most)) memory
    ≡ ends Done 1 (ones but at 1 but in_a (minus (2 ^ 39)) but flags true false true false) memory)
    × (onward (bare Mac A 4 4 NoBack ∷ []) plain 9 (ones but in_a (pos most)) memory
    ≡ stops (ended Done) 1 (ones but at 1 but in_a (pos (2 ^ 39)) but flags true false false false) memory [])
    × (engine (bare Msc B 4 4 NoBack ∷ []) plain 9 (ones but in_b (minus (2 ^ 39))) memory
    ≡ ends Done 1 (ones but at 1 but in_b (pos most) but flags false true false true) memory)
    × (onward (bare Msc B 4 4 NoBack ∷ []) plain 9 (ones but in_b (minus (2 ^ 39))) memory
    ≡ stops (ended Done) 1 (ones but at 1 but in_b (minus (2 ^ 39 + 1)) but flags false true false false) memory [])
unfolding engine onward
over_by_one = (refl, refl, refl, refl)

-- over the limit with a write-back of B = 98,304 to W13, which the ledger that goes on lists: 1.5 × 65,536 is rounded to 2
listed_beyond :
    onward (bare Mac A 4 4 ToRegister ∷ []) plain 9 (ones but in_a (pos most) but in_b (pos 98304)) memory
    ≡ stops (ended Done) 1 (ones but at 1 but reg 13 2 but in_a (pos (2 ^ 39)) but in_b (pos 98304) but flags true false false false) memory
    (entry 1 (Register 13) (pos 98304) (pos 2) false true ∷ [])
unfolding onward
listed_beyond = refl

-- NEG of -2^39 is 2^39, kept as -2^39
negated :
    (engine (Negate A ∷ []) plain 9 (start but in_a (minus (2 ^ 39))) memory
    ≡ ends Done 1 (start but at 1 but in_a (minus (2 ^ 39)) but flags true false true false) memory)
    × (onward (Negate A ∷ []) plain 9 (start but in_a (minus (2 ^ 39))) memory
    ≡ stops (ended Done) 1 (start but at 1 but in_a (pos (2 ^ 39)) but flags true false false false) memory [])
unfolding engine onward
negated = (refl, refl)

-- ---- loops

-- 30 passes, each of which doubles A and then takes it over to B: A + B to A, CLR B, A + B to B
abbrev doubling : List Operation
doubling = Do 29 3 ∷ AddAccumulators A ∷ bare Clr B 0 0 NoBack ∷ AddAccumulators B ∷ []

abbrev even : State
even = start but in_a (pos (2 ^ 38 + 1)) but in_b (pos (2 ^ 38 + 1))

-- beyond 2^64: (2^38 + 1) × 2^30 = 2^68 + 2^30 in the ledger, its low 40 bits 2^30 in the engine, where no sum of B leaves the limits; 1 + 30 × 3 steps
beyond_64_bits :
    (engine doubling plain 100 even memory
    ≡ ends Done 91 (even but at 4 but in_a (pos (2 ^ 30)) but in_b (pos (2 ^ 30)) but flags false false true false) memory)
    × (onward doubling plain 100 even memory
    ≡ stops (ended Done) 91 (even but at 4 but in_a (pos (2 ^ 68 + 2 ^ 30)) but in_b (pos (2 ^ 68 + 2 ^ 30)) but flags true true false false) memory [])
unfolding engine onward
beyond_64_bits = (refl, refl)

-- EDAC of W4 to A; X word 100 at 1000 hex minus Y word 104 at 1008 hex goes to W5
abbrev distance : Operation
distance = MacOperation (record { action = Edac; target = A; m = 4; n = 4; x = Pointer 8 3; xto = 5; y = Pointer 10 3; yto = 0; back = NoBack })

-- US 1: W4 = FFFF hex is 65,535, its square doubled (IF 0) is 2^33 - 2^18 + 2
abbrev unsigned : State
unsigned = start but by 0x1020 but reg 4 0xffff but reg 8 0x1000 but reg 10 0x1008 but in_a (pos most)

-- three passes of two EDACs: 2^39 - 1 + 6 × (2^33 - 2^18 + 2), in the engine 2^40 less; W5 is -4
edac_loop :
    (engine (Do 2 2 ∷ distance ∷ distance ∷ []) plain 9 unsigned memory
    ≡ ends Done 7 (unsigned but at 3 but reg 5 0xfffc but in_a (minus (2 ^ 39 + 1 - 6 * (2 ^ 33 - 2 ^ 18 + 2))) but flags true false true false) memory)
    × (onward (Do 2 2 ∷ distance ∷ distance ∷ []) plain 9 unsigned memory
    ≡ stops (ended Done) 7
    (unsigned but at 3 but reg 5 0xfffc but in_a (pos (2 ^ 39 - 1 + 6 * (2 ^ 33 - 2 ^ 18 + 2))) but flags true false false false) memory [])
unfolding engine onward
edac_loop = (refl, refl)

-- a sum that overflows, then five DOs: trap 4 at the fifth, with four loops active
abbrev too_deep : List Operation
too_deep =
    AddAccumulators A ∷ Do 0 11 ∷ Do 0 10 ∷ Do 0 9 ∷ Do 0 8 ∷ Do 0 7 ∷ EndEarly ∷ EndEarly ∷ EndEarly ∷ EndEarly ∷ EndEarly ∷ EndEarly ∷ []

abbrev four_loops : State → State
four_loops s = s but at 5 but looping (slots (1 ∷ 2 ∷ 3 ∷ 4 ∷ []) (1 ∷ 1 ∷ 1 ∷ 1 ∷ []) 4)

trapped :
    (engine too_deep plain 9 full memory ≡ ends (Trap 4) 5 (four_loops full but in_a (minus 2) but flags false false true false) memory)
    × (onward too_deep plain 9 full memory
    ≡ stops (ended (Trap 4)) 5 (four_loops full but in_a (pos (2 ^ 40 - 2)) but flags true false false false) memory [])
unfolding engine onward
trapped = (refl, refl)

-- ---- why the premises: what each of the barred operations makes of -2 in the engine and of 2^40 - 2 in the ledger

-- 11: A shifted right by W0 = 1
shift_differs :
    ((engine (AddAccumulators A ∷ Shift A 0 ∷ []) plain 9 (full but reg 0 1) memory).machine.state.core.a ≡ minus 1)
    × ((onward (AddAccumulators A ∷ Shift A 0 ∷ []) plain 9 (full but reg 0 1) memory).machine.core.a ≡ pos (2 ^ 39 - 1))
unfolding engine onward
shift_differs = (refl, refl)

-- 14, 15 and a write-back to W13: what stands in W1, W2 and W13. Truncated -1, rounded 0; in the ledger 2^24 - 1 and 2^24, limited to 32,767
abbrev storing : List Operation
storing = AddAccumulators A ∷ Sac A 8 (Direct 1) ∷ SacR A 8 (Direct 2) ∷ bare Movsac B 0 0 ToRegister ∷ []

stores_differ :
    ((engine storing plain 9 (full but reg 13 5) memory).machine.state.core.w ≡ (full but reg 1 0xffff but reg 2 0 but reg 13 0).core.w)
    × ((onward storing plain 9 (full but reg 13 5) memory).machine.core.w ≡ (full but reg 1 0x7fff but reg 2 0x7fff but reg 13 0x7fff).core.w)
unfolding engine onward
stores_differ = (refl, refl)

-- a write-back to memory at W13 = 1000 hex, in kind 1 with target B
memory_differs :
    ((engine (AddAccumulators A ∷ bare Clr B 0 0 ToMemory ∷ []) plain 9 (full but reg 13 0x1000) memory).machine.memory ≡ set memory 0 0)
    × ((onward (AddAccumulators A ∷ bare Clr B 0 0 ToMemory ∷ []) plain 9 (full but reg 13 0x1000) memory).machine.memory ≡ set memory 0 0x7fff)
unfolding engine onward
memory_differs = (refl, refl)

-- 24 turns A's saturation on; and a state in which one of the two is on: 2^31 - 1 is kept
saturation_differs :
    ((engine (SetMode 0x80 ∷ AddAccumulators A ∷ []) plain 9 full memory).machine.state.core.a ≡ pos (2 ^ 31 - 1))
    × ((onward (SetMode 0x80 ∷ AddAccumulators A ∷ []) plain 9 full memory).machine.core.a ≡ pos (2 ^ 40 - 2))
    × ((engine (AddAccumulators A ∷ []) plain 9 (full but by 0x80) memory).machine.state.core.a ≡ pos (2 ^ 31 - 1))
    × ((engine (AddAccumulators B ∷ []) plain 9 (full but by 0x40) memory).machine.state.core.b ≡ pos (2 ^ 31 - 1))
    × ((onward (AddAccumulators B ∷ []) plain 9 (full but by 0x40) memory).machine.core.b ≡ pos (2 ^ 40 - 2))
unfolding engine onward
saturation_differs = (refl, refl, refl, refl, refl)

-- 25 does no harm, and is barred all the same
clearing_agrees :
    (engine (AddAccumulators A ∷ ClearSaturation ∷ []) plain 9 full memory ≡ ends Done 2 (full but at 2 but in_a (minus 2)) memory)
    × (onward (AddAccumulators A ∷ ClearSaturation ∷ []) plain 9 full memory
    ≡ stops (ended Done) 2 (full but at 2 but in_a (pos (2 ^ 40 - 2)) but flags true false false false) memory [])
unfolding engine onward
clearing_agrees = (refl, refl)

-- a trap word: 5 ends the engine's run alone; 6 and 7 the ledger's alone, by its own O flags
traps_differ :
    ((engine there_and_back (trapping 0x100) 9 full memory).stop ≡ ended (Trap 5))
    × ((onward there_and_back (trapping 0x100) 9 full memory).stop ≡ ended Done)
    × ((engine (AddAccumulators A ∷ []) (trapping 0x400) 9 full memory).stop ≡ ended Done)
    × ((onward (AddAccumulators A ∷ []) (trapping 0x400) 9 full memory).stop ≡ ended (Trap 6))
    × ((engine (AddAccumulators B ∷ []) (trapping 0x200) 9 full memory).stop ≡ ended Done)
    × ((onward (AddAccumulators B ∷ []) (trapping 0x200) 9 full memory).stop ≡ ended (Trap 7))
unfolding engine onward
traps_differ = (refl, refl, refl, refl, refl, refl)

-- ---- the programs and modes it is about

-- kinds 11, 14, 15, 24 and 25 are barred, whatever their fields
barred : (t : Target) (r b2 word : ℕ) (o : Operand)
    → (is_barred (Shift t r) ≡ true)
    × (is_barred (Sac t b2 o) ≡ true)
    × (is_barred (SacR t b2 o) ≡ true)
    × (is_barred (SetMode word) ≡ true)
    × (is_barred ClearSaturation ≡ true)
unfolding is_barred encode_of
barred t r b2 word o = (refl, refl, refl, refl, refl)

-- kinds 8 to 10, 12, 13 and 16 to 23 are not
free : (t : Target) (r p n b2 : ℕ) (o : Operand) (post : PostModification)
    → (is_barred (AddAccumulators t) ≡ false)
    × (is_barred (Subtract t) ≡ false)
    × (is_barred (Negate t) ≡ false)
    × (is_barred (Lac t b2 o) ≡ false)
    × (is_barred (Add t b2 o) ≡ false)
    × (is_barred (Literal r n) ≡ false)
    × (is_barred (Load r p post) ≡ false)
    × (is_barred (Store r p post) ≡ false)
    × (is_barred (Repeat n) ≡ false)
    × (is_barred (RepeatRegister r) ≡ false)
    × (is_barred (Do n p) ≡ false)
    × (is_barred (DoRegister r p) ≡ false)
    × (is_barred EndEarly ≡ false)
unfolding is_barred encode_of
free t r p n b2 o post = (refl, refl, refl, refl, refl, refl, refl, refl, refl, refl, refl, refl, refl)

-- kinds 1 to 7 with this write-back
abbrev backed : MacClass → WriteBack → Operation
backed k back =
    MacOperation
    (record { action = k.action; target = k.target; m = k.m; n = k.n; x = k.x; xto = k.xto; y = k.y; yto = k.yto; back = back })

-- they are barred with one to W13 or to memory, and are not without one
macs_barred : (k : MacClass) → (is_barred (backed k ToRegister) ≡ true) × (is_barred (backed k ToMemory) ≡ true)
unfolding is_barred encode_of
macs_barred k = let kind = is_barred_kind (action_byte k.action) in (or-true kind, or-true kind)

macs_free : (k : MacClass) → is_barred (backed k NoBack) ≡ false
unfolding is_barred encode_of
macs_free k = by_action k.action
  where
    by_action : (action : Action) → (is_barred_kind (action_byte action) || false) ≡ false
    by_action Clr = refl
    by_action Mpy = refl
    by_action Mac = refl
    by_action Msc = refl
    by_action Ed = refl
    by_action Edac = refl
    by_action Movsac = refl

-- a program in which none is barred holds none, however long it is
barred_nowhere : (p : List Operation) → ((i : ℕ) → is_barred (operation_at p i) ≡ false) → holds_barred p ≡ false
barred_nowhere p h = none_holds is_barred p h

-- every other kind, with fields of 11, 14, 15, 24 and 25
abbrev others : List Operation
others =
    bare Clr A 0 0 NoBack ∷ bare Mpy B 4 5 NoBack ∷ bare Mac A 6 7 NoBack ∷ bare Msc B 4 4 NoBack ∷ bare Ed A 5 5 NoBack ∷ distance
    ∷ bare Movsac B 0 0 NoBack ∷ AddAccumulators A ∷ Subtract B ∷ Negate A ∷ Lac B 14 (Direct 11) ∷ Add A 15 (Pointed 11 Increment)
    ∷ Literal 11 24 ∷ Load 11 11 Stays ∷ Store 11 11 Increment ∷ Repeat 25 ∷ RepeatRegister 11 ∷ Do 24 25 ∷ DoRegister 11 25 ∷ EndEarly ∷ []

-- first, last, alone; with a write-back of either form; after an operation that traps, so that it is not reached; none
barred_anywhere :
    (holds_barred (Shift A 0 ∷ others) ≡ true)
    × (holds_barred (Negate A ∷ Negate B ∷ SetMode 0 ∷ []) ≡ true)
    × (holds_barred (ClearSaturation ∷ []) ≡ true)
    × (holds_barred (Negate A ∷ bare Movsac B 0 0 ToRegister ∷ []) ≡ true)
    × (holds_barred (Negate A ∷ bare Clr B 0 0 ToMemory ∷ []) ≡ true)
    × (holds_barred (Load 0 0 Stays ∷ Sac A 8 (Direct 0) ∷ []) ≡ true)
    × ((engine (Load 0 0 Stays ∷ Sac A 8 (Direct 0) ∷ []) plain 9 start memory).steps ≡ 0)
    × (holds_barred others ≡ false)
    × (holds_barred [] ≡ false)
unfolding engine holds is_barred encode_of
barred_anywhere = (refl, refl, refl, refl, refl, refl, refl, refl, refl)

-- SATA alone, SATB alone, both; neither, with no bit at all and with every other bit of a good mode word
saturating :
    (is_saturating 0x80 ≡ true) × (is_saturating 0x40 ≡ true) × (is_saturating 0xc0 ≡ true) × (is_saturating 0 ≡ false) × (is_saturating 0x1033 ≡ false)
unfolding engine is_saturating
saturating = (refl, refl, refl, refl, refl)
