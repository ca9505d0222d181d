-- Which operations write A, what a run multiplies for A, and calls that fit a dot product, each value worked out by hand from documents 01 and 02. Assumes
-- nothing.
use Prim.Native.Nat.{ℕ, zero, suc, ◌-◌, ◌^◌, ◌<◌}
use mathlib.Core.Bool.{Bool, true, false}
use mathlib.Core.List.{List, [], ◌∷◌, ◌++◌, map, Memᴰ}
use mathlib.Core.Path.{◌≡◌, refl}
use native.Mathlib.Omega.{arith}
use lib.IntN.{ℤ, pos}
use lib.ListN.{replicate}
use Rattle.integers.specs.Floor.{remainder_of}
use Rattle.integers.specs.Bits.{low_bits, signed_of}
use Rattle.integers.proofs.Whole.{never}
use Rattle.integers.specs.Range.{minus}
use Rattle.accumulator.specs.Mode.{mode_of}
use Rattle.accumulator.specs.Product.{read_of, product_of}
use Rattle.accumulator.specs.declared.mode.Target.{Target}
use Rattle.accumulator.specs.declared.mode.Target.TheVariants.{A, B}
use Rattle.operations.specs.Encode.{encode_of}
use Rattle.operations.specs.declared.operation.Action.TheVariants.{Clr, Mpy, Mac, Msc, Ed, Edac, Movsac}
use Rattle.operations.specs.declared.operation.Operand.TheVariants.{Register as Direct}
use Rattle.operations.specs.declared.operation.PostModification.TheVariants.{None as Stays}
use Rattle.operations.specs.declared.operation.WriteBack.TheVariants.{None as NoBack, Memory as ToMemory}
use Rattle.operations.specs.declared.operation.Operation.{Operation}
use Rattle.operations.specs.declared.operation.Prefetch.TheVariants.{Pointer}
use Rattle.operations.specs.declared.operation.Operation.TheVariants.{MacClass as MacOperation, AddAccumulators, Subtract, Negate, Shift, Lac, Add, Sac}
use Rattle.operations.specs.declared.operation.Operation.TheVariants.{SacR, Literal, Load, Store, Repeat, RepeatRegister, Do, DoRegister, EndEarly, SetMode}
use Rattle.operations.specs.declared.operation.Operation.TheVariants.{ClearSaturation}
use Rattle.program.specs.File.{program_of}
use Rattle.program.specs.Write.{file_of}
use Rattle.state.proofs.Made.{◌but◌, reg, in_a, in_b, at, due, by, flags, one}
use Rattle.machine.specs.Control.{control_of}
use Rattle.machine.proofs.CallExamples.{refused}
use Rattle.endings.specs.declared.ending.Ending.TheVariants.{Trap}
use Rattle.runs.specs.Run.{Result}
use Rattle.runs.specs.Run.Stop.{ended}
use Rattle.runs.specs.Engine.{Engine}
use Rattle.runs.specs.Holds.{holds}
use Rattle.runs.specs.Steps.{Transition, first_steps}
use Rattle.runs.proofs.Opened.{engine}
use Rattle.runs.proofs.RunExamples.{trapping, plain, memory, start, bare}
use Rattle.engine.specs.Call.{run_of}
use Rattle.engine.proofs.Steps.{transition, each_listed}
use Rattle.combine.specs.Dot.{Pair, dot_of, writes_a, adds_to_a, pair_of, pairs_in, BoardCall, ran_on, steps_on, pairs_on, StepFits, CallFits, is_stray, holds_stray}
use Rattle.combine.proofs.Stretches.{run_on}
use Rattle.combine.proofs.Checked.{checked_fits}

-- ---- operations

-- one of each kind, 1 to 25, with this target where it has one
abbrev kinds : Target → List Operation
kinds t =
    bare Clr t 0 0 NoBack
    ∷ bare Mpy t 4 5 NoBack
    ∷ bare Mac t 4 5 NoBack
    ∷ bare Msc t 4 5 NoBack
    ∷ bare Ed t 4 4 NoBack
    ∷ bare Edac t 4 4 NoBack
    ∷ bare Movsac t 0 0 NoBack
    ∷ AddAccumulators t
    ∷ Subtract t
    ∷ Negate t
    ∷ Shift t 0
    ∷ Lac t 8 (Direct 0)
    ∷ Add t 8 (Direct 0)
    ∷ Sac t 8 (Direct 0)
    ∷ SacR t 8 (Direct 0)
    ∷ Literal 0 0
    ∷ Load 0 8 Stays
    ∷ Store 0 8 Stays
    ∷ Repeat 0
    ∷ RepeatRegister 0
    ∷ Do 0 0
    ∷ DoRegister 0 0
    ∷ EndEarly
    ∷ SetMode 0x40
    ∷ ClearSaturation
    ∷ []

-- so many times
abbrev times : ℕ → Bool → List Bool
times zero b = []
times (suc n) b = b ∷ times n b

-- 1 to 6 and 8 to 13 with target A write A, 3 adds to it
writing :
    (map writes_a (kinds A) ≡ times 6 true ++ times 1 false ++ times 6 true ++ times 12 false)
    × (map writes_a (kinds B) ≡ times 25 false)
    × (map adds_to_a (kinds A) ≡ times 2 false ++ times 1 true ++ times 22 false)
    × (map adds_to_a (kinds B) ≡ times 25 false)
unfolding writes_a adds_to_a encode_of
writing = (refl, refl, refl, refl)

-- with mode word 40 hex all of these but 3 are strays, and 25; kind 24 is one with another word alone
straying :
    (map (is_stray 0x40) (kinds A) ≡ times 2 true ++ times 1 false ++ times 3 true ++ times 1 false ++ times 6 true ++ times 11 false ++ times 1 true)
    × (map (is_stray 0x40) (kinds B) ≡ times 24 false ++ times 1 true)
    × (map (is_stray 0x41) (kinds B) ≡ times 23 false ++ times 2 true)
    × (is_stray 0x1041 (SetMode 0x1041) ≡ false)
    × (is_stray 0x41 (SetMode 0x1041) ≡ true)
unfolding is_stray writes_a adds_to_a encode_of control_of
straying = (refl, refl, refl, refl, refl)

-- ---- products

abbrev pub pair : ℕ → ℕ → Pair
pair m n = record { m = m; n = n }

-- both words are signed: 3 × -2, -32,768 × -32,768, -1 × 32,767; fractional mode doubles
products :
    (dot_of true (pair 3 65534 ∷ []) ≡ minus 6)
    × (dot_of false (pair 3 65534 ∷ []) ≡ minus 12)
    × (dot_of true (pair 32768 32768 ∷ pair 65535 32767 ∷ []) ≡ pos 1073709057)
    × (dot_of true [] ≡ pos 0)
unfolding dot_of product_of read_of remainder_of low_bits signed_of
products = (refl, refl, refl, refl)

-- it is not reduced to 40 bits: 512 squares of -32,768 are 2^40 in fractional mode
unlimited : dot_of false (replicate 512 (pair 32768 32768)) ≡ pos (2 ^ 40)
unfolding dot_of product_of read_of remainder_of low_bits signed_of
unlimited = refl

-- ---- calls

-- the file of a program
abbrev encoded : List Operation → List ℕ
encoded [] = []
encoded (o ∷ p) = encode_of o ++ encoded p

abbrev pub file : List Operation → List ℕ
file p = file_of (encoded p)

-- what a board's call comes to, opened, and what its steps multiplied
unfoldable pub opened : BoardCall → Result Engine
unfolding run_of refused file_of engine first_steps pairs_in pair_of writes_a adds_to_a encode_of
opened x = ran_on x

-- W4 × W5 to B, the mode word once more, W4 × W5 added to A twice; another W5, both flags cleared, W5 × W4 added to A
abbrev lively : List Operation
lively =
    bare Mpy B 4 5 NoBack
    ∷ SetMode 0x81
    ∷ Repeat 1
    ∷ bare Mac A 4 5 NoBack
    ∷ Literal 5 7
    ∷ ClearSaturation
    ∷ bare Mac A 5 4 NoBack
    ∷ []

-- W4 is 3, W5 is -2; mode word 81 hex: SATA with ACCSAT 0, integer; SB is set
abbrev pub first : ℕ → BoardCall
first budget =
    record {
      file = file lively;
      settings = plain;
      state = start but by 0x81 but flags false false false true but reg 4 3 but reg 5 65534;
      memory = memory;
      budget = budget;
    }

-- W5 × W4 of 7 and 3, begun where one run of a REPEAT is left
abbrev pub second : BoardCall
second =
    record {
      file = file (Repeat 1 ∷ bare Mac A 5 4 NoBack ∷ []);
      settings = plain;
      state = start but by 0x81 but at 1 but due 1 but reg 4 3 but reg 5 7;
      memory = memory;
      budget = 9;
    }

-- a call that is refused: its file is empty
abbrev pub none : BoardCall
none = record { file = []; settings = plain; state = start but by 0x81; memory = memory; budget = 9 }

-- W4 × W5 added to A with both words read on and B stored to memory, and W6 := 1, in a loop of which two passes are left
abbrev looped : List Operation
looped =
    Do 5 2
    ∷ MacOperation (record { action = Mac; target = A; m = 4; n = 5; x = Pointer 8 4; xto = 4; y = Pointer 10 4; yto = 5; back = ToMemory })
    ∷ Literal 6 1
    ∷ []

-- mode word 72 hex: SATB, SATDW, ACCSAT, RND, fractional. OA, OB and SB are set, B is 3 × 65,536, W13 points to word 3; all traps on
abbrev pub around : BoardCall
around =
    record {
      file = file looped;
      settings = trapping 0x700;
      state =
          start but by 0x72 but at 1 but one 0 2 but in_b (pos 196608) but flags true true false true
          but reg 4 3 but reg 5 65534 but reg 8 0x1000 but reg 10 0x1008 but reg 13 0x1006;
      memory = memory;
      budget = 9;
    }

-- -32,768 squared is 2^31: trap 6, whose step is complete. Another memory
abbrev pub trapped : BoardCall
trapped =
    record {
      file = file (bare Mac A 4 4 NoBack ∷ Literal 0 1 ∷ []);
      settings = trapping 0x400;
      state = start but by 0x72 but reg 4 32768;
      memory = 1 ∷ 2 ∷ 3 ∷ 4 ∷ 5 ∷ [];
      budget = 9;
    }

-- no step at all
abbrev pub idle : BoardCall
idle = record { file = file (Literal 0 1 ∷ []); settings = plain; state = start but by 0x72; memory = memory; budget = 0 }

-- each repeat is a pair, the product for B is none; -6 - 6 + 21 is 9, and with 5 steps the last is not made
pairs :
    (pairs_on (first 99) ≡ pair 3 65534 ∷ pair 3 65534 ∷ pair 7 3 ∷ [])
    × ((ran_on (first 99)).machine.state.core.a ≡ pos 9)
    × (pairs_on (first 5) ≡ pair 3 65534 ∷ pair 3 65534 ∷ [])
    × ((ran_on (first 5)).machine.state.core.a ≡ minus 12)
    × (pairs_on second ≡ pair 7 3 ∷ [])
    × (pairs_on none ≡ [])
unfolding opened
pairs = (refl, refl, refl, refl, refl, refl)

-- -12 + 20,800: the words that the loop's first pass reads are multiplied by its second. A trap 6's step is one of them
looped_pairs :
    (pairs_on around ≡ pair 3 65534 ∷ pair 100 104 ∷ [])
    × ((ran_on around).machine.state.core.a ≡ pos 20788)
    × ((ran_on around).machine.memory ≡ 100 ∷ 101 ∷ 102 ∷ 3 ∷ 3 ∷ 105 ∷ 106 ∷ 107 ∷ [])
    × (pairs_on trapped ≡ pair 32768 32768 ∷ [])
    × ((ran_on trapped).stop ≡ ended (Trap 6))
    × (pairs_on idle ≡ [])
unfolding opened
looped_pairs = (refl, refl, refl, refl, refl, refl)

-- ---- calls that fit

-- step i of a call fits
abbrev fits : ℕ → BoardCall → ℕ → Type 0
fits mode x i = StepFits mode (program_of x.file) (transition (run_on x) i)

-- SB set, B written, the same mode word set, flags cleared while SA is clear: none of it matters
first_steps_lem : (i : ℕ) → i < 8 → fits 0x81 (first 99) i
unfolding opened
first_steps_lem zero l = record { kind = λ e. never e; word = refl; flag = λ e. never e }
first_steps_lem (suc zero) l = record { kind = λ e. never e; word = refl; flag = λ e. never e }
first_steps_lem (suc (suc zero)) l = record { kind = λ e. never e; word = refl; flag = λ e. never e }
first_steps_lem (suc (suc (suc zero))) l = record { kind = λ e. refl; word = refl; flag = λ e. never e }
first_steps_lem (suc (suc (suc (suc zero)))) l = record { kind = λ e. refl; word = refl; flag = λ e. never e }
first_steps_lem (suc (suc (suc (suc (suc zero))))) l = record { kind = λ e. never e; word = refl; flag = λ e. never e }
first_steps_lem (suc (suc (suc (suc (suc (suc zero)))))) l = record { kind = λ e. never e; word = refl; flag = λ e. never e }
first_steps_lem (suc (suc (suc (suc (suc (suc (suc zero))))))) l = record { kind = λ e. refl; word = refl; flag = λ e. never e }
first_steps_lem (suc (suc (suc (suc (suc (suc (suc (suc i)))))))) l = absurd (omega arith)

-- nor do a loop, reads, write-back to memory, traps and O flags
around_steps : (i : ℕ) → i < 4 → fits 0x72 around i
unfolding opened
around_steps zero l = record { kind = λ e. refl; word = refl; flag = λ e. never e }
around_steps (suc zero) l = record { kind = λ e. never e; word = refl; flag = λ e. never e }
around_steps (suc (suc zero)) l = record { kind = λ e. refl; word = refl; flag = λ e. never e }
around_steps (suc (suc (suc zero))) l = record { kind = λ e. never e; word = refl; flag = λ e. never e }
around_steps (suc (suc (suc (suc i)))) l = absurd (omega arith)

second_steps : (i : ℕ) → i < 1 → fits 0x81 second i
unfolding opened
second_steps zero l = record { kind = λ e. refl; word = refl; flag = λ e. never e }
second_steps (suc i) l = absurd (omega arith)

-- the steps of a call of n steps, each of which fits
by_steps : (mode : ℕ) (x : BoardCall) (n : ℕ) → (ran_on x).steps ≡ n → ((i : ℕ) → i < n → fits mode x i)
    → (t : Transition Engine) → Memᴰ t (steps_on x) → StepFits mode (program_of x.file) t
by_steps mode x n is h = rw is (each_listed (run_on x) (StepFits mode (program_of x.file)) n h)

pub first_fits : CallFits 0x81 (first 99)
unfolding opened mode_of
first_fits = record { signed = refl; word = refl; start = refl; clear = refl; steps = by_steps 0x81 (first 99) 8 refl first_steps_lem }

pub half_fits : CallFits 0x81 (first 5)
unfolding opened mode_of
half_fits = record { signed = refl; word = refl; start = refl; clear = refl; steps = by_steps 0x81 (first 5) 5 refl (λ i l. first_steps_lem i (omega arith)) }

pub second_fits : CallFits 0x81 second
unfolding opened mode_of
second_fits = record { signed = refl; word = refl; start = refl; clear = refl; steps = by_steps 0x81 second 1 refl second_steps }

pub none_fits : CallFits 0x81 none
unfolding opened mode_of
none_fits = record { signed = refl; word = refl; start = refl; clear = refl; steps = by_steps 0x81 none 0 refl (λ i l. absurd (omega arith)) }

pub around_fits : CallFits 0x72 around
unfolding opened mode_of
around_fits = record { signed = refl; word = refl; start = refl; clear = refl; steps = by_steps 0x72 around 4 refl around_steps }

-- by the check of the program alone
pub trapped_fits : CallFits 0x72 trapped
unfolding opened holds is_stray control_of mode_of
trapped_fits = checked_fits 0x72 trapped refl refl refl refl refl

pub idle_fits : CallFits 0x72 idle
unfolding opened holds is_stray control_of mode_of
idle_fits = checked_fits 0x72 idle refl refl refl refl refl

-- `lively` holds kind 25 and does not pass it, though its run fits
unchecked : (holds_stray 0x81 lively ≡ true) × (holds_stray 0x81 (SetMode 0x81 ∷ Negate B ∷ Repeat 1 ∷ bare Mac A 5 4 NoBack ∷ []) ≡ false)
unfolding opened holds is_stray control_of
unchecked = (refl, refl)

-- ---- why each premise

-- a run of p from A with this mode word, W4 and W5 both x
abbrev begun : List Operation → ℤ → ℕ → ℕ → BoardCall
begun p a mode x = record { file = file p; settings = plain; state = start but in_a a but by mode but reg 4 x but reg 5 x; memory = memory; budget = 9 }

-- its A, with SA clear at the end, and the sum of its products
abbrev Ends : List Operation → ℤ → ℕ → ℕ → ℤ → ℤ → Type 0
Ends p a mode x left dot =
    let run = begun p a mode x in
    ((ran_on run).machine.state.core.a ≡ left) × ((ran_on run).machine.state.sa ≡ false) × (dot_of (mode_of mode).integer (pairs_on run) ≡ dot)

abbrev adding : Operation
adding = bare Mac A 4 5 NoBack

-- from A = 5; CLR of A between two products; doubled after another mode word; read as unsigned with US 1; SA cleared after the sum was limited to 2^31 - 1
differ :
    Ends (adding ∷ []) (pos 5) 0x01 3 (pos 14) (pos 9)
    × Ends (adding ∷ bare Clr A 0 0 NoBack ∷ adding ∷ []) (pos 0) 0x01 3 (pos 9) (pos 18)
    × Ends (adding ∷ SetMode 0 ∷ adding ∷ []) (pos 0) 0x01 3 (pos 27) (pos 18)
    × Ends (adding ∷ []) (pos 0) 0x1001 65535 (pos 4294836225) (pos 1)
    × Ends (adding ∷ adding ∷ ClearSaturation ∷ []) (pos 0) 0x81 32768 (pos (2 ^ 31 - 1)) (pos (2 ^ 31))
unfolding opened dot_of product_of read_of signed_of mode_of
differ = ((refl, refl, refl), (refl, refl, refl), (refl, refl, refl), (refl, refl, refl), (refl, refl, refl))

-- the last of them does not fit: its third step clears SA, which was set
cleared : fits 0x81 (begun (adding ∷ adding ∷ ClearSaturation ∷ []) (pos 0) 0x81 32768) 2 → ⊥
unfolding opened dot_of product_of read_of signed_of mode_of
cleared h = never (h.flag refl)
