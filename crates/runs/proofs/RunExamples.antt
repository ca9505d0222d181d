-- Runs of the engine and of the ledger, the ledger's list and the engine's stored words, each value worked out by hand from document 01. Assumes nothing.
use Prim.Native.Nat.{ℕ, ◌+◌, ◌-◌, ◌^◌}
use mathlib.Core.Path.{◌≡◌, refl}
use mathlib.Core.Bool.{Bool, true, false}
use mathlib.Core.List.{List, [], ◌∷◌, map}
use lib.IntN.{ℤ, pos}
use lib.ListN.{set, replicate}
use Rattle.integers.specs.Bits.{signed_of}
use Rattle.integers.specs.Range.{minus, lowest, highest, outside}
use Rattle.accumulator.specs.Mode.{is_good_mode, mode_of}
use Rattle.accumulator.specs.Limit.{is_accumulator}
use Rattle.accumulator.specs.declared.mode.Target.{Target}
use Rattle.accumulator.specs.declared.mode.Target.TheVariants.{A, B}
use Rattle.operations.specs.declared.operation.Action.{Action}
use Rattle.operations.specs.declared.operation.Action.TheVariants.{Clr, Mpy, Mac, Msc, Ed, Edac, Movsac}
use Rattle.operations.specs.declared.operation.Prefetch.{Prefetch}
use Rattle.operations.specs.declared.operation.Prefetch.TheVariants.{None as NoRead, Pointer}
use Rattle.operations.specs.declared.operation.WriteBack.{WriteBack}
use Rattle.operations.specs.declared.operation.WriteBack.TheVariants.{None as NoBack, Register as ToRegister, Memory as ToMemory}
use Rattle.operations.specs.declared.operation.PostModification.TheVariants.{None as Stays, Increment, Decrement}
use Rattle.operations.specs.declared.operation.Operand.TheVariants.{Register as Direct, Memory as Pointed}
use Rattle.operations.specs.declared.operation.Operation.{Operation}
use Rattle.operations.specs.declared.operation.Operation.TheVariants.{MacClass as MacOperation, AddAccumulators, Subtract, Negate, Shift, Lac, Add, Sac}
use Rattle.operations.specs.declared.operation.Operation.TheVariants.{SacR, Literal, Load, Store, Repeat, RepeatRegister, Do, DoRegister, EndEarly, SetMode}
use Rattle.operations.specs.declared.operation.Operation.TheVariants.{ClearSaturation}
use Rattle.state.specs.Settings.{no_circular}
use Rattle.state.specs.State.{no_loops}
use Rattle.state.specs.Accept.{are_loops, is_repeat_left, is_state, state_refusal}
use Rattle.state.specs.declared.settings.Settings.{Settings}
use Rattle.state.specs.declared.state.State.{State}
use Rattle.state.proofs.Made.{made, ◌but◌, reg, in_a, in_b, at, looping, due, by, flags, one, two}
use Rattle.effects.specs.declared.access.Place.{Place}
use Rattle.effects.specs.declared.access.Place.TheVariants.{Register, Memory}
use Rattle.machine.specs.Control.{control_of, clears}
use Rattle.machine.specs.Step.{operation_at}
use Rattle.endings.specs.declared.ending.Ending.{Ending}
use Rattle.endings.specs.declared.ending.Ending.TheVariants.{Done, Spent, Trap, Refused}
use Rattle.runs.specs.Run.{Stop, is_done, Result}
use Rattle.runs.specs.Run.Stop.{ended, left}
use Rattle.runs.specs.Engine.{Engine}
use Rattle.runs.specs.Ledger.{Entry, Ledger}
use Rattle.runs.specs.Holds.{holds}
use Rattle.runs.specs.Exact.{holds_clear, word_in, stored_at}
use Rattle.runs.proofs.Opened.{engine, exact}
use Rattle.runs.proofs.Holds.{none_holds}

-- ---- how the examples are written

-- settings: 8 words, 4 of them X's (addresses 1000 to 1006 hex, then 1008 to 100E), no correction; the trap word
abbrev pub trapping : ℕ → Settings
trapping traps = record { xwords = 4; traps = traps; x = no_circular; y = no_circular; reversed = record { register = 15; words = 0 } }

abbrev pub plain : Settings
plain = trapping 0

-- word i holds 100 + i
abbrev pub memory : List ℕ
memory = 100 ∷ 101 ∷ 102 ∷ 103 ∷ 104 ∷ 105 ∷ 106 ∷ 107 ∷ []

-- as after reset: all is zero except that the mode word is 0020 hex, SATDW alone
abbrev pub start : State
start = made (replicate 14 0) (pos 0) (pos 0) 0 no_loops 0 0x20 false false false false

-- the engine ends so, with so many steps
abbrev pub ends : Ending → ℕ → State → List ℕ → Result Engine
ends e k s m = record { machine = record { state = s; memory = m }; steps = k; stop = ended e }

-- the ledger stops so, with so many steps; then its list, latest first
abbrev pub stops : Stop → ℕ → State → List ℕ → List Entry → Result Ledger
stops e k s m l = record { machine = record { core = s.core; memory = m; stores = l }; steps = k; stop = e }

-- an accumulator store: step, place, exact scaled value, word, limiting, rounded
abbrev pub entry : ℕ → Place → ℤ → ℤ → Bool → Bool → Entry
entry k place v word limiting rounded = record { step = k; place = place; value = v; word = word; limiting = limiting; rounded = rounded }

-- memory word i
abbrev pub word : ℕ → Place
word i = Memory (record { 0 = i })

-- kinds 1 to 7
abbrev pub mac : Action → Target → ℕ → ℕ → Prefetch → ℕ → WriteBack → Operation
mac action t m n x xto back = MacOperation (record { action = action; target = t; m = m; n = n; x = x; xto = xto; y = NoRead; yto = 0; back = back })

-- without reads
abbrev pub bare : Action → Target → ℕ → ℕ → WriteBack → Operation
bare action t m n back = mac action t m n NoRead 0 back

-- 13 ADD of W0, which adds 65,536 × W0
abbrev pub adds : Target → Operation
adds t = Add t 8 (Direct 0)

-- ---- done and spent

-- only an ending as done is one
is_done_lem : map is_done (ended Done ∷ ended Spent ∷ ended (Trap 5) ∷ ended (Refused 7) ∷ left ∷ []) ≡ true ∷ false ∷ false ∷ false ∷ false ∷ []
is_done_lem = refl

abbrev literals : List Operation
literals = Literal 0 7 ∷ Literal 1 8 ∷ []

abbrev both_loaded : State
both_loaded = start but at 2 but reg 0 7 but reg 1 8

-- done comes before spent: with the budget just used up, and with more of it
done_first :
    (engine literals plain 2 start memory ≡ ends Done 2 both_loaded memory)
    × (engine literals plain 3 start memory ≡ ends Done 2 both_loaded memory)
    × (engine literals plain 4294967295 start memory ≡ ends Done 2 both_loaded memory)
unfolding engine
done_first = (refl, refl, refl)

-- pc = count: done with no step and no effect, with budget 0 and with more; all that a state holds stays
done_at_once :
    (engine literals plain 0 (start but at 2 but in_a (pos 5) but flags true true true true) memory
    ≡ ends Done 0 (start but at 2 but in_a (pos 5) but flags true true true true) memory)
    × (engine literals plain 9 (start but at 2) memory ≡ ends Done 0 (start but at 2) memory)
unfolding engine
done_at_once = (refl, refl)

-- spent comes before execution: no step with budget 0, one with budget 1; from pc 1 one step is to the end
spent :
    (engine literals plain 0 start memory ≡ ends Spent 0 start memory)
    × (engine literals plain 1 start memory ≡ ends Spent 1 (start but at 1 but reg 0 7) memory)
    × (engine literals plain 0 (start but at 1) memory ≡ ends Spent 0 (start but at 1) memory)
    × (engine literals plain 1 (start but at 1) memory ≡ ends Done 1 (start but at 2 but reg 1 8) memory)
unfolding engine
spent = (refl, refl, refl, refl)

-- the ledger ends as a run does
ledger_ends :
    (exact literals plain 2 start memory ≡ stops (ended Done) 2 both_loaded memory [])
    × (exact literals plain 0 (start but at 2) memory ≡ stops (ended Done) 0 (start but at 2) memory [])
    × (exact literals plain 9 (start but at 2) memory ≡ stops (ended Done) 0 (start but at 2) memory [])
    × (exact literals plain 0 start memory ≡ stops (ended Spent) 0 start memory [])
    × (exact literals plain 1 start memory ≡ stops (ended Spent) 1 (start but at 1 but reg 0 7) memory [])
unfolding exact
ledger_ends = (refl, refl, refl, refl, refl)

-- ---- repeats and loops

-- REPEAT 2 of an ADD of W0 = 1: three runs, four steps
abbrev thrice : List Operation
thrice = Repeat 2 ∷ adds A ∷ []

-- repeat left is 3, 2, 1 with the current run counted, and 0 at the end
repeats :
    (engine thrice plain 1 (start but reg 0 1) memory ≡ ends Spent 1 (start but reg 0 1 but at 1 but due 3) memory)
    × (engine thrice plain 2 (start but reg 0 1) memory ≡ ends Spent 2 (start but reg 0 1 but at 1 but due 2 but in_a (pos 65536)) memory)
    × (engine thrice plain 3 (start but reg 0 1) memory ≡ ends Spent 3 (start but reg 0 1 but at 1 but due 1 but in_a (pos 131072)) memory)
    × (engine thrice plain 4 (start but reg 0 1) memory ≡ ends Done 4 (start but reg 0 1 but at 2 but in_a (pos 196608)) memory)
unfolding engine
repeats = (refl, refl, refl, refl)

-- begun within it: with two runs due two steps are left
within_repeat :
    (engine thrice plain 9 (start but reg 0 1 but at 1 but due 2) memory ≡ ends Done 2 (start but reg 0 1 but at 2 but in_a (pos 131072)) memory)
    × (exact thrice plain 9 (start but reg 0 1 but at 1 but due 2) memory ≡ stops (ended Done) 2 (start but reg 0 1 but at 2 but in_a (pos 131072)) memory [])
unfolding engine exact
within_repeat = (refl, refl)

-- DO 2, three passes of a literal 7 to W0 and an ADD of it, 458,752: 1 + 3 × 2 steps
abbrev looped : List Operation
looped = Do 2 2 ∷ Literal 0 7 ∷ adds A ∷ []

-- passes left is 3, 2, 1 with the current one counted
loops :
    (engine looped plain 1 start memory ≡ ends Spent 1 (start but at 1 but one 0 3) memory)
    × (engine looped plain 3 start memory ≡ ends Spent 3 (start but at 1 but one 0 2 but reg 0 7 but in_a (pos 458752)) memory)
    × (engine looped plain 4 start memory ≡ ends Spent 4 (start but at 2 but one 0 2 but reg 0 7 but in_a (pos 458752)) memory)
    × (engine looped plain 6 start memory ≡ ends Spent 6 (start but at 2 but one 0 1 but reg 0 7 but in_a (pos 917504)) memory)
    × (engine looped plain 7 start memory ≡ ends Done 7 (start but at 3 but reg 0 7 but in_a (pos 1376256)) memory)
    × (engine looped plain 9 (start but at 2 but one 0 2) memory ≡ ends Done 3 (start but at 3 but reg 0 7 but in_a (pos 458752)) memory)
unfolding engine
loops = (refl, refl, refl, refl, refl, refl)

-- the outer loop of 2 passes: a literal; the inner one of 3 passes, whose last operation is run 4 times; and its own last, run twice.
-- 1 + 2 × (1 + 1 + 3 × (1 + 4) + (1 + 2)) = 41 steps, 24 ADDs to A and 4 to B
abbrev nested : List Operation
nested = Do 1 6 ∷ Literal 1 1 ∷ Do 2 4 ∷ Repeat 3 ∷ adds A ∷ Repeat 1 ∷ adds B ∷ []

abbrev nested_in : ℕ → Result Engine
nested_in budget = engine nested plain budget (start but reg 0 1) memory

-- W0 and W1 are 1
abbrev ones : State
ones = start but reg 0 1 but reg 1 1

-- step 8 is the first inner pass's last; step 10 the first ADD of the second; step 21 ends the first outer pass; step 40 is the last but one
nest :
    (nested_in 8 ≡ ends Spent 8 (ones but at 3 but two 0 2 2 2 but in_a (pos 262144)) memory)
    × (nested_in 10 ≡ ends Spent 10 (ones but at 4 but two 0 2 2 2 but due 3 but in_a (pos 327680)) memory)
    × (nested_in 18 ≡ ends Spent 18 (ones but at 5 but one 0 2 but in_a (pos 786432)) memory)
    × (nested_in 21 ≡ ends Spent 21 (ones but at 1 but one 0 1 but in_a (pos 786432) but in_b (pos 131072)) memory)
    × (nested_in 40 ≡ ends Spent 40 (ones but at 6 but one 0 1 but due 1 but in_a (pos 1572864) but in_b (pos 196608)) memory)
    × (nested_in 41 ≡ ends Done 41 (ones but at 7 but in_a (pos 1572864) but in_b (pos 262144)) memory)
    × (nested_in 99 ≡ ends Done 41 (ones but at 7 but in_a (pos 1572864) but in_b (pos 262144)) memory)
unfolding engine
nest = (refl, refl, refl, refl, refl, refl, refl)

-- the ledger's steps are the same
nest_ledger :
    (exact nested plain 10 (start but reg 0 1) memory ≡ stops (ended Spent) 10 (ones but at 4 but two 0 2 2 2 but due 3 but in_a (pos 327680)) memory [])
    × (exact nested plain 99 (start but reg 0 1) memory ≡ stops (ended Done) 41 (ones but at 7 but in_a (pos 1572864) but in_b (pos 262144)) memory [])
unfolding exact
nest_ledger = (refl, refl)

-- kind 23 in the first of three places: that pass is the last, 1 + 3 steps; in the last but one: one more, 1 + 2 × 3 steps
early :
    (engine (Do 9 3 ∷ EndEarly ∷ Literal 0 7 ∷ Literal 1 8 ∷ []) plain 99 start memory ≡ ends Done 4 (start but at 4 but reg 0 7 but reg 1 8) memory)
    × (engine (Do 9 3 ∷ Literal 0 7 ∷ EndEarly ∷ Literal 1 8 ∷ []) plain 99 start memory ≡ ends Done 7 (start but at 4 but reg 0 7 but reg 1 8) memory)
unfolding engine
early = (refl, refl)

-- ---- traps 1 to 4: no effect and no step

-- W8 is made odd in the second step; the load is not made. With budget 2 it is not come to
abbrev odd : List Operation
odd = Literal 0 7 ∷ Literal 8 0x1001 ∷ Load 1 8 Increment ∷ Literal 2 9 ∷ []

trap_1 :
    (engine odd plain 9 start memory ≡ ends (Trap 1) 2 (start but at 2 but reg 0 7 but reg 8 0x1001) memory)
    × (engine odd plain 3 start memory ≡ ends (Trap 1) 2 (start but at 2 but reg 0 7 but reg 8 0x1001) memory)
    × (engine odd plain 2 start memory ≡ ends Spent 2 (start but at 2 but reg 0 7 but reg 8 0x1001) memory)
    × (exact odd plain 9 start memory ≡ stops (ended (Trap 1)) 2 (start but at 2 but reg 0 7 but reg 8 0x1001) memory [])
    × (exact odd plain 2 start memory ≡ stops (ended Spent) 2 (start but at 2 but reg 0 7 but reg 8 0x1001) memory [])
unfolding engine exact
trap_1 = (refl, refl, refl, refl, refl)

-- a store of 7, to be run five times from word 6 on: the third is outside. The two words and the pointer stay as the steps before left them,
-- and repeat left is 3
abbrev beyond : List Operation
beyond = Literal 0 7 ∷ Repeat 4 ∷ Store 0 8 Increment ∷ []

trap_2 :
    (engine beyond plain 99 (start but reg 8 0x100c) memory
    ≡ ends (Trap 2) 4 (start but reg 0 7 but reg 8 0x1010 but at 2 but due 3) (set (set memory 6 7) 7 7))
    × (exact beyond plain 99 (start but reg 8 0x100c) memory
    ≡ stops (ended (Trap 2)) 4 (start but reg 0 7 but reg 8 0x1010 but at 2 but due 3) (set (set memory 6 7) 7 7) [])
unfolding engine exact
trap_2 = (refl, refl)

-- a shift by 17 in a loop's last place: passes stay; as the first operation: no step at all
abbrev far : List Operation
far = Do 1 2 ∷ Literal 0 17 ∷ Shift A 0 ∷ []

trap_3 :
    (engine far plain 9 (start but in_a (pos 5)) memory ≡ ends (Trap 3) 2 (start but in_a (pos 5) but reg 0 17 but at 2 but one 0 2) memory)
    × (exact far plain 9 (start but in_a (pos 5)) memory ≡ stops (ended (Trap 3)) 2 (start but in_a (pos 5) but reg 0 17 but at 2 but one 0 2) memory [])
    × (engine (Shift A 0 ∷ []) plain 9 (start but reg 0 17 but flags true true true true) memory
    ≡ ends (Trap 3) 0 (start but reg 0 17 but flags true true true true) memory)
unfolding engine exact
trap_3 = (refl, refl, refl)

-- five loops: the fifth DO finds four active, of 1, 2, 3 and 4 passes
abbrev five : List Operation
five =
    Do 0 10
    ∷ Do 1 9
    ∷ Do 2 8
    ∷ Do 3 7
    ∷ Do 4 6
    ∷ Literal 0 1
    ∷ Literal 0 2
    ∷ Literal 0 3
    ∷ Literal 0 4
    ∷ Literal 0 5
    ∷ Literal 0 6
    ∷ []

abbrev four_active : State
four_active = start but at 4 but looping (record { starts = 0 ∷ 1 ∷ 2 ∷ 3 ∷ []; passes = 1 ∷ 2 ∷ 3 ∷ 4 ∷ []; depth = 4 })

trap_4 :
    (engine five plain 9 start memory ≡ ends (Trap 4) 4 four_active memory)
    × (engine five plain 4 start memory ≡ ends Spent 4 four_active memory)
    × (exact five plain 9 start memory ≡ stops (ended (Trap 4)) 4 four_active memory [])
unfolding engine exact
trap_4 = (refl, refl, refl)

-- ---- traps 5 to 7: the step is complete and counted

-- A = A + B with B = 1, then a literal; A alone is just below 2^31
abbrev sum : List Operation
sum = AddAccumulators A ∷ Literal 0 7 ∷ []

abbrev pub near : State
near = start but in_a (pos (2 ^ 31 - 1)) but in_b (pos 1)

-- 6 OA with OVATE, 0400 hex; without that bit it goes on
trap_6 :
    (engine sum (trapping 0x400) 9 near memory ≡ ends (Trap 6) 1 (near but at 1 but in_a (pos (2 ^ 31)) but flags true false false false) memory)
    × (engine sum (trapping 0x300) 9 near memory ≡ ends Done 2 (near but at 2 but reg 0 7 but in_a (pos (2 ^ 31)) but flags true false false false) memory)
unfolding engine
trap_6 = (refl, refl)

-- at the last operation, at the budget's last step and at both it is the trap, neither done nor spent; with no step left it is spent
trap_last :
    (engine (AddAccumulators A ∷ []) (trapping 0x400) 9 near memory
    ≡ ends (Trap 6) 1 (near but at 1 but in_a (pos (2 ^ 31)) but flags true false false false) memory)
    × (engine sum (trapping 0x400) 1 near memory ≡ ends (Trap 6) 1 (near but at 1 but in_a (pos (2 ^ 31)) but flags true false false false) memory)
    × (engine (AddAccumulators A ∷ []) (trapping 0x400) 1 near memory
    ≡ ends (Trap 6) 1 (near but at 1 but in_a (pos (2 ^ 31)) but flags true false false false) memory)
    × (engine sum (trapping 0x400) 0 near memory ≡ ends Spent 0 near memory)
unfolding engine
trap_last = (refl, refl, refl, refl)

-- where the step ends a loop its slot is zero, and the state is accepted again
abbrev summing_loop : List Operation
summing_loop = Do 0 2 ∷ Literal 0 7 ∷ AddAccumulators A ∷ []

abbrev ended_loop : State
ended_loop = near but at 3 but reg 0 7 but in_a (pos (2 ^ 31)) but flags true false false false

trap_at_loop_end : (engine summing_loop (trapping 0x400) 9 near memory ≡ ends (Trap 6) 3 ended_loop memory) × (state_refusal summing_loop ended_loop ≡ 0)
unfolding engine state_refusal is_state are_loops is_repeat_left is_accumulator is_good_mode outside lowest highest mode_of
trap_at_loop_end = (refl, refl)

-- 7 OB with OVBTE, 0200 hex: -2^31 negated
trap_7 :
    (engine (Negate B ∷ Literal 0 7 ∷ []) (trapping 0x200) 9 (start but in_b (minus (2 ^ 31))) memory
    ≡ ends (Trap 7) 1 (start but at 1 but in_b (pos (2 ^ 31)) but flags false true false false) memory)
    × (engine (Negate B ∷ Literal 0 7 ∷ []) (trapping 0x500) 9 (start but in_b (minus (2 ^ 31))) memory
    ≡ ends Done 2 (start but at 2 but reg 0 7 but in_b (pos (2 ^ 31)) but flags false true false false) memory)
unfolding engine
trap_7 = (refl, refl)

-- 5 limits left, saturation off, COVTE, 0100 hex, before 6: 2^39 becomes -2^39; with saturation on it is 2^39 - 1 and no 5, but 6 or none
abbrev top : State
top = start but in_a (pos (2 ^ 39 - 1)) but in_b (pos 1)

trap_5 :
    (engine sum (trapping 0x100) 9 top memory ≡ ends (Trap 5) 1 (top but at 1 but in_a (minus (2 ^ 39)) but flags true false true false) memory)
    × (engine sum (trapping 0x700) 1 top memory ≡ ends (Trap 5) 1 (top but at 1 but in_a (minus (2 ^ 39)) but flags true false true false) memory)
    × (engine sum (trapping 0x500) 9 (top but by 0xb0) memory ≡ ends (Trap 6) 1 (top but by 0xb0 but at 1 but flags true false true false) memory)
    × (engine sum (trapping 0x300) 9 (top but by 0xb0) memory ≡ ends Done 2 (top but by 0xb0 but at 2 but reg 0 7 but flags true false true false) memory)
unfolding engine
trap_5 = (refl, refl, refl, refl)

-- 5 and 7 at the last operation and the budget's last step
traps_last :
    (engine (AddAccumulators A ∷ []) (trapping 0x100) 1 top memory
    ≡ ends (Trap 5) 1 (top but at 1 but in_a (minus (2 ^ 39)) but flags true false true false) memory)
    × (engine (Negate B ∷ []) (trapping 0x200) 1 (start but in_b (minus (2 ^ 31))) memory
    ≡ ends (Trap 7) 1 (start but at 1 but in_b (pos (2 ^ 31)) but flags false true false false) memory)
unfolding engine
traps_last = (refl, refl)

-- repeat left, passes and pc are as after a normal step: in the first of two runs, in the last one, in a loop's last place
trap_moves :
    (engine (Repeat 1 ∷ sum) (trapping 0x400) 9 near memory
    ≡ ends (Trap 6) 2 (near but at 1 but due 1 but in_a (pos (2 ^ 31)) but flags true false false false) memory)
    × (engine (Repeat 1 ∷ sum) (trapping 0x400) 9 (near but in_a (pos (2 ^ 31 - 2))) memory
    ≡ ends (Trap 6) 3 (near but at 2 but in_a (pos (2 ^ 31)) but flags true false false false) memory)
    × (engine (Do 1 2 ∷ Literal 0 7 ∷ AddAccumulators A ∷ []) (trapping 0x400) 9 near memory
    ≡ ends (Trap 6) 3 (near but at 1 but one 0 1 but reg 0 7 but in_a (pos (2 ^ 31)) but flags true false false false) memory)
unfolding engine
trap_moves = (refl, refl, refl)

-- MAC A by 1 × 1 doubled, with an X read of word 1 to W5, and B, 1.5 rounded to 2, written back to word 6
abbrev full : List Operation
full = mac Mac A 4 4 (Pointer 8 4) 5 ToMemory ∷ Literal 0 7 ∷ []

abbrev full_start : State
full_start = start but reg 4 1 but reg 8 0x1002 but reg 13 0x100c but in_a (pos (2 ^ 31 - 2)) but in_b (pos 98304)

abbrev full_end : State
full_end = full_start but at 1 but reg 5 101 but reg 8 0x1004 but reg 13 0x100e but in_a (pos (2 ^ 31)) but flags true false false false

-- load, pointers, write-back and flag are all there, and the ledger lists the store
trap_full :
    (engine full (trapping 0x400) 9 full_start memory ≡ ends (Trap 6) 1 full_end (set memory 6 2))
    × (exact full (trapping 0x400) 9 full_start memory
    ≡ stops (ended (Trap 6)) 1 full_end (set memory 6 2) (entry 1 (word 6) (pos 98304) (pos 2) false true ∷ []))
unfolding engine exact
trap_full = (refl, refl)

-- a flag set before never traps by itself, nor when the other accumulator is written
flag_before :
    (engine (Literal 0 7 ∷ bare Movsac A 0 0 NoBack ∷ []) (trapping 0x700) 9 (start but flags true true false false) memory
    ≡ ends Done 2 (start but at 2 but reg 0 7 but flags true true false false) memory)
    × (engine (bare Clr B 0 0 NoBack ∷ []) (trapping 0x700) 9 (start but in_a (pos (2 ^ 31)) but flags true true false false) memory
    ≡ ends Done 1 (start but at 1 but in_a (pos (2 ^ 31)) but flags true false false false) memory)
    × (exact (bare Clr B 0 0 NoBack ∷ []) (trapping 0x700) 9 (start but in_a (pos (2 ^ 31)) but flags true true false false) memory
    ≡ stops (ended Done) 1 (start but at 1 but in_a (pos (2 ^ 31)) but flags true false false false) memory [])
unfolding engine exact
flag_before = (refl, refl, refl)

-- ---- the ledger keeps exact results

-- -32,768 squared and doubled with saturation on and ACCSAT 1: 2^31, to A and to B; the O flag is its own
keeps_square :
    (exact (bare Mpy A 4 4 NoBack ∷ []) plain 9 (start but by 0xb0 but reg 4 0x8000) memory
    ≡ stops (ended Done) 1 (start but by 0xb0 but reg 4 0x8000 but at 1 but in_a (pos (2 ^ 31)) but flags true false false false) memory [])
    × (exact (bare Mpy B 4 4 NoBack ∷ []) plain 9 (start but by 0x70 but reg 4 0x8000) memory
    ≡ stops (ended Done) 1 (start but by 0x70 but reg 4 0x8000 but at 1 but in_b (pos (2 ^ 31)) but flags false true false false) memory [])
unfolding exact
keeps_square = (refl, refl)

-- sums up to both limits of 40 bits: 2^38 + 2^38 - 1, and -2^38 - 2^38; then one beyond, where it stops after that one step
keeps_sums :
    (exact (AddAccumulators A ∷ []) plain 9 (start but in_a (pos (2 ^ 38)) but in_b (pos (2 ^ 38 - 1))) memory
    ≡ stops (ended Done) 1 (start but at 1 but in_a (pos (2 ^ 39 - 1)) but in_b (pos (2 ^ 38 - 1)) but flags true false false false) memory [])
    × (exact (Subtract B ∷ Subtract B ∷ []) plain 9 (start but in_a (pos (2 ^ 38)) but in_b (minus (2 ^ 38))) memory
    ≡ stops left 1 (start but at 1 but in_a (pos (2 ^ 38)) but in_b (minus (2 ^ 39)) but flags false true false false) memory [])
unfolding exact
keeps_sums = (refl, refl)

-- O flags are redone at each write: 2^31 has it, 2^31 - 1 not; one that does not fit goes at the next write of its accumulator, and B's stays
redone :
    (exact (AddAccumulators A ∷ Subtract A ∷ []) plain 1 near memory
    ≡ stops (ended Spent) 1 (near but at 1 but in_a (pos (2 ^ 31)) but flags true false false false) memory [])
    × (exact (AddAccumulators A ∷ Subtract A ∷ []) plain 9 near memory ≡ stops (ended Done) 2 (near but at 2) memory [])
    × (exact (Literal 0 7 ∷ bare Clr A 0 0 NoBack ∷ []) plain 9 (near but flags true true false false) memory
    ≡ stops (ended Done) 2 (near but at 2 but reg 0 7 but in_a (pos 0) but flags false true false false) memory [])
unfolding exact
redone = (refl, refl, refl)

-- ---- where the ledger stops, marked "left"

-- with SATA and ACCSAT 0, r = 2^31 in the second step: no effect and no step; the engine goes on with 2^31 - 1 and SA
abbrev limited : List Operation
limited = Literal 0 7 ∷ AddAccumulators A ∷ Literal 1 8 ∷ []

leaves :
    (exact limited plain 9 (near but by 0xa0) memory ≡ stops left 1 (near but by 0xa0 but at 1 but reg 0 7) memory [])
    × (exact limited plain 2 (near but by 0xa0) memory ≡ stops left 1 (near but by 0xa0 but at 1 but reg 0 7) memory [])
    × (exact limited plain 1 (near but by 0xa0) memory ≡ stops (ended Spent) 1 (near but by 0xa0 but at 1 but reg 0 7) memory [])
    × (engine limited plain 9 (near but by 0xa0) memory
    ≡ ends Done 3 (near but by 0xa0 but at 3 but reg 0 7 but reg 1 8 but flags false false true false) memory)
unfolding engine exact
leaves = (refl, refl, refl, refl)

-- the stop of A + B to a target by a mode word
abbrev summed : Target → ℕ → ℤ → ℤ → Stop
summed t m a b = (exact (AddAccumulators t ∷ []) plain 9 (start but by m but in_a a but in_b b) memory).stop

-- r is 2^k - 1, 2^k, -2^k, -2^k - 1
abbrev around : Target → ℕ → ℕ → List Stop
around t k m =
    summed t m (pos (2 ^ k - 2)) (pos 1)
    ∷ summed t m (pos (2 ^ k - 1)) (pos 1)
    ∷ summed t m (minus (2 ^ k - 1)) (minus 1)
    ∷ summed t m (minus (2 ^ k)) (minus 1)
    ∷ []

-- those are the limits, or not
abbrev limit : List Stop
limit = ended Done ∷ left ∷ ended Done ∷ left ∷ []

abbrev none : List Stop
none = replicate 4 (ended Done)

-- A's limits are 31 bits with SATA and ACCSAT 0, whatever SATB is; 39 bits otherwise
limits_a :
    (map (around A 31) (0xa0 ∷ 0xe0 ∷ []) ≡ limit ∷ limit ∷ [])
    × (map (around A 31) (0x20 ∷ 0x30 ∷ 0x60 ∷ 0x70 ∷ 0xb0 ∷ []) ≡ replicate 5 none)
    × (map (around A 39) (0x20 ∷ 0x30 ∷ 0x60 ∷ 0x70 ∷ 0xb0 ∷ []) ≡ replicate 5 limit)
unfolding exact
limits_a = (refl, refl, refl)

-- B's the same by SATB, also where kind 8's sum is of both
limits_b :
    (map (around B 31) (0x60 ∷ 0xe0 ∷ []) ≡ limit ∷ limit ∷ [])
    × (map (around B 31) (0x20 ∷ 0x30 ∷ 0xa0 ∷ 0xb0 ∷ 0x70 ∷ []) ≡ replicate 5 none)
    × (map (around B 39) (0x20 ∷ 0x30 ∷ 0xa0 ∷ 0xb0 ∷ 0x70 ∷ []) ≡ replicate 5 limit)
unfolding exact
limits_b = (refl, refl, refl)

-- a mode change in the step before counts: SATA on, then 2^31 is outside; SATA off, then it is not
mode_before :
    (exact (SetMode 0xa0 ∷ AddAccumulators A ∷ []) plain 9 near memory ≡ stops left 1 (near but by 0xa0 but at 1) memory [])
    × (exact (SetMode 0x20 ∷ AddAccumulators A ∷ []) plain 9 (near but by 0xa0) memory
    ≡ stops (ended Done) 2 (near but at 2 but in_a (pos (2 ^ 31)) but flags true false false false) memory [])
unfolding exact
mode_before = (refl, refl)

-- an A that is outside is nothing as long as it is not written: mode change, MOVSAC, literal, a store of it and CLR B go on; and CLR A does
outside_already :
    exact (SetMode 0xe0 ∷ bare Movsac A 0 0 NoBack ∷ Sac A 8 (Direct 3) ∷ bare Clr B 0 0 NoBack ∷ bare Clr A 0 0 NoBack ∷ []) plain 9
    (start but in_a (pos (2 ^ 32))) memory
    ≡ stops (ended Done) 5 (start but by 0xe0 but at 5 but reg 3 32767) memory (entry 3 (Register 3) (pos (2 ^ 32)) (pos 32767) true false ∷ [])
unfolding exact
outside_already = refl

-- ---- traps of the ledger

-- traps 1 to 4 come before "left": an odd X read, a write-back outside, a shift beyond, each with r beyond; the second without the trap is "left"
traps_first :
    (exact (mac Mac A 4 4 (Pointer 8 3) 5 NoBack ∷ []) plain 9 (near but by 0xa0 but reg 4 1 but reg 8 0x1001) memory
    ≡ stops (ended (Trap 1)) 0 (near but by 0xa0 but reg 4 1 but reg 8 0x1001) memory [])
    × (exact (bare Mac A 4 4 ToMemory ∷ []) plain 9 (near but by 0xa0 but reg 4 1 but reg 13 0x1010) memory
    ≡ stops (ended (Trap 2)) 0 (near but by 0xa0 but reg 4 1 but reg 13 0x1010) memory [])
    × (exact (bare Mac A 4 4 ToMemory ∷ []) plain 9 (near but by 0xa0 but reg 4 1 but reg 13 0x100e) memory
    ≡ stops left 0 (near but by 0xa0 but reg 4 1 but reg 13 0x100e) memory [])
    × (exact (Shift A 0 ∷ []) plain 9 (near but reg 0 0xffef) memory ≡ stops (ended (Trap 3)) 0 (near but reg 0 0xffef) memory [])
    × (exact (Shift A 0 ∷ []) plain 9 (near but reg 0 0xfff0) memory ≡ stops left 0 (near but reg 0 0xfff0) memory [])
unfolding exact
traps_first = (refl, refl, refl, refl, refl)

-- 6 and 7 by its own O flags, the step complete, at the last operation and the budget's last step too; the other's bit is not its own
own_traps :
    (exact sum (trapping 0x400) 9 near memory ≡ stops (ended (Trap 6)) 1 (near but at 1 but in_a (pos (2 ^ 31)) but flags true false false false) memory [])
    × (exact (AddAccumulators A ∷ []) (trapping 0x400) 1 (near but by 0xb0) memory
    ≡ stops (ended (Trap 6)) 1 (near but by 0xb0 but at 1 but in_a (pos (2 ^ 31)) but flags true false false false) memory [])
    × (exact sum (trapping 0x200) 9 near memory
    ≡ stops (ended Done) 2 (near but at 2 but reg 0 7 but in_a (pos (2 ^ 31)) but flags true false false false) memory [])
    × (exact (Subtract B ∷ []) (trapping 0x200) 1 (start but in_a (pos 1) but in_b (minus (2 ^ 31))) memory
    ≡ stops (ended (Trap 7)) 1 (start but at 1 but in_a (pos 1) but in_b (minus (2 ^ 31 + 1)) but flags false true false false) memory [])
    × (exact (Subtract B ∷ []) (trapping 0x400) 1 (start but in_a (pos 1) but in_b (minus (2 ^ 31))) memory
    ≡ stops (ended Done) 1 (start but at 1 but in_a (pos 1) but in_b (minus (2 ^ 31 + 1)) but flags false true false false) memory [])
unfolding exact
own_traps = (refl, refl, refl, refl, refl)

-- no trap without overflow: 2^31 - 1 and -2^31 with all trap bits
no_overflow :
    (exact sum (trapping 0x700) 9 (near but in_a (pos (2 ^ 31 - 2))) memory ≡ stops (ended Done) 2 (near but at 2 but reg 0 7) memory [])
    × (exact (Subtract B ∷ []) (trapping 0x700) 9 (start but in_a (pos 1) but in_b (minus (2 ^ 31 - 1))) memory
    ≡ stops (ended Done) 1 (start but at 1 but in_a (pos 1) but in_b (minus (2 ^ 31))) memory [])
unfolding exact
no_overflow = (refl, refl)

-- 5 never: where the engine traps with 5 it stops, marked "left", and so where 6 would follow
never_5 :
    (exact sum (trapping 0x100) 9 top memory ≡ stops left 0 top memory [])
    × (exact sum (trapping 0x700) 9 top memory ≡ stops left 0 top memory [])
    × (exact sum (trapping 0x700) 9 (top but by 0xb0) memory ≡ stops left 0 (top but by 0xb0) memory [])
unfolding exact
never_5 = (refl, refl, refl)

-- repeat left and passes after trap 6 are as after a normal step
own_moves :
    (exact (Repeat 1 ∷ sum) (trapping 0x400) 9 near memory
    ≡ stops (ended (Trap 6)) 2 (near but at 1 but due 1 but in_a (pos (2 ^ 31)) but flags true false false false) memory [])
    × (exact (Do 1 2 ∷ Literal 0 7 ∷ AddAccumulators A ∷ []) (trapping 0x400) 9 near memory
    ≡ stops (ended (Trap 6)) 3 (near but at 1 but one 0 1 but reg 0 7 but in_a (pos (2 ^ 31)) but flags true false false false) memory [])
unfolding exact
own_moves = (refl, refl)

-- kind 25 changes nothing but pc, O flags included; in the engine it clears SA and SB
clearing :
    (exact (ClearSaturation ∷ []) (trapping 0x700) 9 (near but flags true true false false) memory
    ≡ stops (ended Done) 1 (near but at 1 but flags true true false false) memory [])
    × (engine (ClearSaturation ∷ []) (trapping 0x700) 9 (near but flags true true true true) memory
    ≡ ends Done 1 (near but at 1 but flags true true false false) memory)
unfolding engine exact
clearing = (refl, refl)

-- ---- the list of stores

-- the list after one operation
abbrev pub lists : Operation → State → List Entry
lists o s = (exact (o ∷ []) plain 9 s memory).machine.stores

-- kind 14: 131,071 is 1 and 65,535 over, -1 is -1 and 65,535 over; kind 15 adds 1 to both; a half to the even one, and up with RND 1
rounding :
    (lists (Sac A 8 (Direct 3)) (start but in_a (pos 131071)) ≡ entry 1 (Register 3) (pos 131071) (pos 1) false false ∷ [])
    × (lists (Sac B 8 (Direct 3)) (start but in_b (minus 1)) ≡ entry 1 (Register 3) (minus 1) (minus 1) false false ∷ [])
    × (lists (SacR A 8 (Direct 3)) (start but in_a (pos 131071)) ≡ entry 1 (Register 3) (pos 131071) (pos 2) false true ∷ [])
    × (lists (SacR B 8 (Direct 3)) (start but in_b (minus 1)) ≡ entry 1 (Register 3) (minus 1) (pos 0) false true ∷ [])
    × (lists (SacR A 8 (Direct 3)) (start but in_a (minus 98304)) ≡ entry 1 (Register 3) (minus 98304) (minus 2) false true ∷ [])
    × (lists (SacR A 8 (Direct 3)) (start but by 0x22 but in_a (minus 98304)) ≡ entry 1 (Register 3) (minus 98304) (minus 1) false true ∷ [])
unfolding exact
rounding = (refl, refl, refl, refl, refl, refl)

-- the value is after the shift, floor included: -1,000 by 7 is -8, 300 by -8 is 76,800, which is 1 and 11,264 over
scaled :
    (lists (Sac A 15 (Direct 0)) (start but in_a (minus 1000)) ≡ entry 1 (Register 0) (minus 8) (minus 1) false false ∷ [])
    × (lists (SacR B 15 (Direct 0)) (start but in_b (minus 1000)) ≡ entry 1 (Register 0) (minus 8) (pos 0) false true ∷ [])
    × (lists (SacR A 0 (Direct 13)) (start but in_a (pos 300)) ≡ entry 1 (Register 13) (pos 76800) (pos 1) false true ∷ [])
unfolding exact
scaled = (refl, refl, refl)

-- limiting was needed, whatever SATDW is; without SATDW, mode 0, the low 16 bits are kept. 32,767.5 rounds to 32,768 and truncates to 32,767;
-- -2^31 - 1 truncates to -32,769, low bits 7FFF hex, and rounds to -32,768; 2^31 by -8 is 2^39, 2^23 units
limiting :
    (lists (SacR A 8 (Direct 3)) (start but in_a (pos 2147450880)) ≡ entry 1 (Register 3) (pos 2147450880) (pos 32767) true true ∷ [])
    × (lists (SacR A 8 (Direct 3)) (start but by 0 but in_a (pos 2147450880)) ≡ entry 1 (Register 3) (pos 2147450880) (minus 32768) true true ∷ [])
    × (lists (Sac A 8 (Direct 3)) (start but in_a (pos 2147450880)) ≡ entry 1 (Register 3) (pos 2147450880) (pos 32767) false false ∷ [])
    × (lists (Sac A 8 (Direct 3)) (start but in_a (minus 2147483649)) ≡ entry 1 (Register 3) (minus 2147483649) (minus 32768) true false ∷ [])
    × (lists (Sac A 8 (Direct 3)) (start but by 0 but in_a (minus 2147483649)) ≡ entry 1 (Register 3) (minus 2147483649) (pos 32767) true false ∷ [])
    × (lists (SacR A 8 (Direct 3)) (start but in_a (minus 2147483649)) ≡ entry 1 (Register 3) (minus 2147483649) (minus 32768) false true ∷ [])
    × (lists (Sac A 0 (Direct 3)) (start but in_a (pos (2 ^ 31))) ≡ entry 1 (Register 3) (pos (2 ^ 39)) (pos 32767) true false ∷ [])
    × (lists (Sac A 0 (Direct 3)) (start but by 0 but in_a (pos (2 ^ 31))) ≡ entry 1 (Register 3) (pos (2 ^ 39)) (pos 0) true false ∷ [])
unfolding exact
limiting = (refl, refl, refl, refl, refl, refl, refl, refl)

-- write-back is the rounded store of the other accumulator: kinds 3 and 1 to W13, then 4 and 7 to memory at it. A is -1.5, B 2.5, p -12;
-- B after MAC is 163,828, 2 and 32,756 over; A after MSC is 12
abbrev backs : List Operation
backs = bare Mac B 4 5 ToRegister ∷ bare Clr A 0 0 ToRegister ∷ Literal 13 0x1006 ∷ bare Msc A 4 5 ToMemory ∷ bare Movsac B 0 0 ToMemory ∷ []

abbrev back_start : State
back_start = start but reg 4 3 but reg 5 0xfffe but in_a (minus 98304) but in_b (pos 163840)

-- latest first
abbrev back_list : List Entry
back_list =
    entry 5 (word 4) (pos 12) (pos 0) false true
    ∷ entry 4 (word 3) (pos 163828) (pos 2) false true
    ∷ entry 2 (Register 13) (pos 163828) (pos 2) false true
    ∷ entry 1 (Register 13) (minus 98304) (minus 2) false true
    ∷ []

write_backs :
    (exact backs plain 9 back_start memory
    ≡ stops (ended Done) 5 (back_start but at 5 but reg 13 0x100a but in_a (pos 12) but in_b (pos 163828)) (set (set memory 3 2) 4 0) back_list)
    × (exact backs plain 1 back_start memory
    ≡ stops (ended Spent) 1 (back_start but at 1 but reg 13 0xfffe but in_b (pos 163828)) memory
    (entry 1 (Register 13) (minus 98304) (minus 2) false true ∷ []))
unfolding exact
write_backs = (refl, refl)

-- the lists of kinds 1, 3, 4 and 7 with a target and a write-back; W13 is word 3's address
abbrev backs_of : Target → WriteBack → List (List Entry)
backs_of t back = map (λ (action : Action). lists (bare action t 4 5 back) (back_start but reg 13 0x1006)) (Clr ∷ Mac ∷ Msc ∷ Movsac ∷ [])

-- all four write the other accumulator back: B, 2.5, with target A, and A, -1.5, with target B
all_backs :
    (backs_of A ToRegister ≡ replicate 4 (entry 1 (Register 13) (pos 163840) (pos 2) false true ∷ []))
    × (backs_of B ToRegister ≡ replicate 4 (entry 1 (Register 13) (minus 98304) (minus 2) false true ∷ []))
    × (backs_of A ToMemory ≡ replicate 4 (entry 1 (word 3) (pos 163840) (pos 2) false true ∷ []))
    × (backs_of B ToMemory ≡ replicate 4 (entry 1 (word 3) (minus 98304) (minus 2) false true ∷ []))
unfolding exact
all_backs = (refl, refl, refl, refl)

-- a write-back is limited too, of what is exact: 2^32, 65,536 units, in A and of -2^32 in B
back_limits :
    (lists (bare Movsac B 0 0 ToRegister) (start but in_a (pos (2 ^ 32))) ≡ entry 1 (Register 13) (pos (2 ^ 32)) (pos 32767) true true ∷ [])
    × (lists (bare Clr A 0 0 ToRegister) (start but in_b (minus (2 ^ 32))) ≡ entry 1 (Register 13) (minus (2 ^ 32)) (minus 32768) true true ∷ [])
    × (lists (bare Clr A 0 0 ToRegister) (start but by 0 but in_b (minus (2 ^ 32))) ≡ entry 1 (Register 13) (minus (2 ^ 32)) (pos 0) true true ∷ [])
unfolding exact
back_limits = (refl, refl, refl)

-- a store repeated three times through a pointer, and one through it back: steps 2, 3, 4 and 5, words 1, 2, 3 and 4
through_pointer :
    exact (Repeat 2 ∷ SacR A 8 (Pointed 8 Increment) ∷ Sac B 8 (Pointed 8 Decrement) ∷ []) plain 9
    (start but reg 8 0x1002 but in_a (pos 196608) but in_b (minus 65536)) memory
    ≡ stops (ended Done) 5 (start but at 3 but reg 8 0x1006 but in_a (pos 196608) but in_b (minus 65536))
    (set (set (set (set memory 1 3) 2 3) 3 3) 4 0xffff)
    (entry 5 (word 4) (minus 65536) (minus 1) false false
    ∷ entry 4 (word 3) (pos 196608) (pos 3) false true
    ∷ entry 3 (word 2) (pos 196608) (pos 3) false true
    ∷ entry 2 (word 1) (pos 196608) (pos 3) false true
    ∷ [])
unfolding exact
through_pointer = refl

-- nothing is listed of kinds 1, 3, 4, 7 without write-back, of 2, 5, 6 and 8 to 13, and of 16, 17, 18, whatever is written
not_listed :
    (map (λ (action : Action). lists (bare action A 4 5 NoBack) back_start) (Clr ∷ Mpy ∷ Mac ∷ Msc ∷ Ed ∷ Edac ∷ Movsac ∷ []) ≡ replicate 7 [])
    × (map (λ (o : Operation). lists o back_start) (AddAccumulators A ∷ Subtract B ∷ Negate A ∷ Shift A 0 ∷ Lac A 8 (Direct 4) ∷ adds B ∷ []) ≡ replicate 6 [])
    × (exact (Literal 8 0x1002 ∷ Load 0 8 Increment ∷ Store 0 8 Stays ∷ []) plain 9 start memory
    ≡ stops (ended Done) 3 (start but at 3 but reg 0 101 but reg 8 0x1004) (set memory 2 101) [])
unfolding exact
not_listed = (refl, refl, refl)

-- a step that is left lists nothing and stores nothing, and the list before it stays; so with a trap of 1 to 4
left_list :
    (exact (Sac B 8 (Direct 0) ∷ bare Mac A 4 4 ToRegister ∷ []) plain 9 (near but by 0xa0 but reg 4 1) memory
    ≡ stops left 1 (near but by 0xa0 but reg 4 1 but at 1) memory (entry 1 (Register 0) (pos 1) (pos 0) false false ∷ []))
    × (exact (Sac A 8 (Direct 0) ∷ SacR A 8 (Pointed 8 Stays) ∷ []) plain 9 near memory
    ≡ stops (ended (Trap 2)) 1 (near but reg 0 32767 but at 1) memory (entry 1 (Register 0) (pos (2 ^ 31 - 1)) (pos 32767) false false ∷ []))
unfolding exact
left_list = (refl, refl)

-- SATDW and RND as the step before left them
store_mode :
    exact (SacR A 8 (Direct 0) ∷ SetMode 2 ∷ SacR A 8 (Direct 1) ∷ []) plain 9 (start but in_a (pos 2147516416)) memory
    ≡ stops (ended Done) 3 (start but by 2 but at 3 but in_a (pos 2147516416) but reg 0 32767 but reg 1 0x8001) memory
    (entry 3 (Register 1) (pos 2147516416) (minus 32767) true true ∷ entry 1 (Register 0) (pos 2147516416) (pos 32767) true true ∷ [])
unfolding exact
store_mode = refl

-- ---- the engine's stored word

-- what stands there after the run with so many steps as budget, and read as signed: the words of the list above, though W13 changes afterwards
stored_words :
    (map (stored_at backs plain back_start memory) back_list ≡ 0 ∷ 2 ∷ 2 ∷ 0xfffe ∷ [])
    × (map (λ (e : Entry). signed_of 16 (stored_at backs plain back_start memory e)) back_list ≡ pos 0 ∷ pos 2 ∷ pos 2 ∷ minus 2 ∷ [])
unfolding engine word_in
stored_words = (refl, refl)

-- two stores to one place, 1 and then 3, and a literal to it: by the entry's step and place, not by its word
abbrev restored : List Operation
restored = SacR A 8 (Direct 3) ∷ AddAccumulators A ∷ SacR A 8 (Direct 3) ∷ Literal 3 9 ∷ []

stored_again :
    map (stored_at restored plain (start but in_a (pos 65536) but in_b (pos 131072)) memory)
    (entry 1 (Register 3) (pos 0) (pos 0) false false ∷ entry 2 (Register 3) (pos 0) (pos 0) false false ∷ entry 3 (Register 3) (pos 0) (pos 0) false false
    ∷ entry 4 (Register 3) (pos 0) (pos 0) false false ∷ entry 3 (Register 2) (pos 0) (pos 0) false false ∷ entry 3 (word 5) (pos 0) (pos 0) false false ∷ [])
    ≡ 1 ∷ 1 ∷ 3 ∷ 9 ∷ 0 ∷ 105 ∷ []
unfolding engine word_in
stored_again = refl

-- also in a step that ends with trap 6
stored_trap : stored_at full (trapping 0x400) full_start memory (entry 1 (word 6) (pos 98304) (pos 2) false true) ≡ 2
unfolding engine word_in
stored_trap = refl

-- ---- kind 25 anywhere in a program

-- one operation of each kind but 25
abbrev others : List Operation
others =
    bare Clr A 0 0 NoBack
    ∷ bare Mpy A 4 5 NoBack
    ∷ bare Mac A 4 5 NoBack
    ∷ bare Msc A 4 5 NoBack
    ∷ bare Ed A 4 4 NoBack
    ∷ bare Edac A 4 4 NoBack
    ∷ bare Movsac A 0 0 NoBack
    ∷ AddAccumulators A
    ∷ Subtract A
    ∷ Negate A
    ∷ Shift A 0
    ∷ Lac A 8 (Direct 0)
    ∷ Add A 8 (Direct 0)
    ∷ Sac A 8 (Direct 0)
    ∷ SacR A 8 (Direct 0)
    ∷ Literal 0 25
    ∷ Load 0 8 Stays
    ∷ Store 0 8 Stays
    ∷ Repeat 25
    ∷ RepeatRegister 0
    ∷ Do 25 25
    ∷ DoRegister 0 25
    ∷ EndEarly
    ∷ SetMode 0x20
    ∷ []

-- a program in which none clears holds none, however long it is
clears_nowhere : (p : List Operation) → ((i : ℕ) → clears (control_of (operation_at p i)) ≡ false) → holds_clear p ≡ false
clears_nowhere p h = none_holds (λ o. clears (control_of o)) p h

-- first, last, alone, between; after an operation that traps, so that it is not reached; none
clears_anywhere :
    (holds_clear (ClearSaturation ∷ others) ≡ true)
    × (holds_clear (Literal 0 7 ∷ Literal 1 8 ∷ ClearSaturation ∷ []) ≡ true)
    × (holds_clear (ClearSaturation ∷ []) ≡ true)
    × (holds_clear (Literal 0 7 ∷ ClearSaturation ∷ Literal 1 8 ∷ []) ≡ true)
    × (holds_clear (Literal 0 17 ∷ Shift A 0 ∷ ClearSaturation ∷ []) ≡ true)
    × ((engine (Literal 0 17 ∷ Shift A 0 ∷ ClearSaturation ∷ []) plain 9 start memory).steps ≡ 1)
    × (holds_clear others ≡ false)
    × (holds_clear [] ≡ false)
unfolding engine holds
clears_anywhere = (refl, refl, refl, refl, refl, refl, refl, refl)
