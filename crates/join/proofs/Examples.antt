-- The joined program, its file and its runs, each value worked out by hand from document 02. Assumes nothing.
use Prim.Native.Nat.{ℕ, suc, ◌+◌, ◌-◌, ◌^◌}
use mathlib.Core.Path.{◌≡◌, refl}
use mathlib.Core.Bool.{true, false}
use mathlib.Core.List.{List, [], ◌∷◌}
use lib.IntN.{pos}
use lib.ListN.{length, set, take, drop, replicate}
use Rattle.accumulator.specs.declared.mode.Target.{Target}
use Rattle.accumulator.specs.declared.mode.Target.TheVariants.{A, B}
use Rattle.operations.specs.Encode.{encode_of}
use Rattle.operations.specs.declared.operation.Operand.TheVariants.{Register as Direct}
use Rattle.operations.specs.declared.operation.PostModification.TheVariants.{None as Stays}
use Rattle.operations.specs.declared.operation.Operation.{Operation}
use Rattle.operations.specs.declared.operation.Operation.TheVariants.{AddAccumulators, Shift, Add, Literal, Load, Store, Repeat, RepeatRegister, Do, DoRegister, EndEarly}
use Rattle.program.specs.Answer.{room_refusal}
use Rattle.program.specs.File.{operation_count, file_refusal}
use Rattle.program.specs.Write.{file_of}
use Rattle.std.specs.Prelude.{Ok, Err}
use Rattle.program.specs.declared.answer.Refusal.TheVariants.{Together}
use Rattle.state.specs.State.{no_loops, reset_state, restarted_state}
use Rattle.state.specs.declared.settings.Settings.{Settings}
use Rattle.state.specs.declared.state.State.{State}
use Rattle.state.proofs.Made.{slots, ◌but◌, reg, in_a, in_b, at, due, by, flags, one}
use Rattle.machine.proofs.CallExamples.{refused}
use Rattle.endings.specs.declared.ending.Ending.TheVariants.{Done, Spent, Trap, Refused}
use Rattle.runs.specs.Run.{Result}
use Rattle.runs.specs.Engine.{Engine}
use Rattle.runs.proofs.Opened.{engine}
use Rattle.runs.proofs.RunExamples.{trapping, plain, memory, start, ends}
use Rattle.engine.specs.Call.{run_of}
use Rattle.join.specs.Join.{moved_operation, joined, encoded, joined_bytes, joined_file, together_refusal, join_refusal}
use Rattle.join.specs.Both.{moved_loops, runs_both}
use Rattle.join.specs.Call.{written_in}

-- ---- how the examples are written

-- the file of a program
abbrev file : List Operation → List ℕ
file p = file_of (encoded p)

-- the call for a run of a file, and of two files one after the other, with all that they come to opened
unfoldable call : List ℕ → Settings → State → List ℕ → ℕ → Result Engine
unfolding run_of refused file_of engine
call first settings s m budget = run_of first settings s m budget

-- reset_state, which it does not come to, for must-fail/begun_from_reset
unfoldable both : List ℕ → List ℕ → Settings → State → List ℕ → ℕ → Result Engine
unfolding runs_both reset_state restarted_state call
both first second settings s m budget = runs_both first second settings s m budget

-- 13 ADD of W0, which adds 65,536 × W0
abbrev adds : Target → Operation
adds t = Add t 8 (Direct 0)

-- ---- the joined program

-- two passes of a literal 7 and an ADD of it, 458,752, to A: 1 + 2 × 2 steps
abbrev opening : List Operation
opening = Do 1 2 ∷ Literal 0 7 ∷ adds A ∷ []

-- two ADDs to B, then two passes of a literal and an ADD to A: 1 + 2 + 1 + 2 × 2 steps
abbrev closing : List Operation
closing = Repeat 1 ∷ adds B ∷ Do 1 4 ∷ Literal 1 1 ∷ adds A ∷ []

-- the second's loop ends at 3 + 4, the first's where it did; DO by register likewise
together :
    (joined opening closing ≡ Do 1 2 ∷ Literal 0 7 ∷ adds A ∷ Repeat 1 ∷ adds B ∷ Do 1 7 ∷ Literal 1 1 ∷ adds A ∷ [])
    × (joined closing opening ≡ Repeat 1 ∷ adds B ∷ Do 1 4 ∷ Literal 1 1 ∷ adds A ∷ Do 1 7 ∷ Literal 0 7 ∷ adds A ∷ [])
    × (joined (EndEarly ∷ []) (DoRegister 13 2 ∷ EndEarly ∷ EndEarly ∷ []) ≡ EndEarly ∷ DoRegister 13 3 ∷ EndEarly ∷ EndEarly ∷ [])
unfolding joined moved_operation
together = (refl, refl, refl)

-- the last operation stands in b4-5: 200 + 100 is 012C hex; a literal, a count and a register stay
bytes :
    (encode_of (moved_operation 200 (Do 5 100)) ≡ 21 ∷ 0 ∷ 5 ∷ 0 ∷ 0x2c ∷ 1 ∷ 0 ∷ 0 ∷ [])
    × (encode_of (moved_operation 63 (DoRegister 13 4)) ≡ 22 ∷ 13 ∷ 0 ∷ 0 ∷ 67 ∷ 0 ∷ 0 ∷ 0 ∷ [])
    × (encode_of (moved_operation 63 (Literal 4 5)) ≡ 16 ∷ 4 ∷ 5 ∷ 0 ∷ 0 ∷ 0 ∷ 0 ∷ 0 ∷ [])
    × (encode_of (moved_operation 63 (Repeat 5)) ≡ 19 ∷ 0 ∷ 5 ∷ 0 ∷ 0 ∷ 0 ∷ 0 ∷ 0 ∷ [])
    × (encode_of (moved_operation 63 (RepeatRegister 5)) ≡ 20 ∷ 5 ∷ 0 ∷ 0 ∷ 0 ∷ 0 ∷ 0 ∷ 0 ∷ [])
unfolding moved_operation encode_of
bytes = (refl, refl, refl, refl, refl)

-- ---- its file

-- n operations that end a loop early
abbrev early : ℕ → List ℕ
early n = file (replicate n EndEarly)

-- blocks are made anew: 62 and 2 operations make a block of 63 and one of 1, number 1, of sum 1 + 1 + 23
blocks :
    (length (joined_file (early 61) (early 2)) ≡ 512)
    × (length (joined_file (early 62) (early 2)) ≡ 1024)
    × (take 8 (joined_file (early 62) (early 2)) ≡ 0 ∷ 0 ∷ 63 ∷ 0 ∷ 0xe8 ∷ 5 ∷ 0 ∷ 0 ∷ [])
    × (take 16 (drop 512 (joined_file (early 62) (early 2))) ≡ 1 ∷ 0 ∷ 1 ∷ 0 ∷ 25 ∷ 0 ∷ 0 ∷ 0 ∷ 23 ∷ 0 ∷ 0 ∷ 0 ∷ 0 ∷ 0 ∷ 0 ∷ 0 ∷ [])
unfolding call joined_file joined_bytes joined moved_operation
blocks = (refl, refl, refl, refl)

-- ---- a result counted from the joined program's start

-- one, two and four active loops of four slots, with 5 operations before; no loop
moved_loops_lem :
    (moved_loops 5 (slots (2 ∷ 0 ∷ 0 ∷ 0 ∷ []) (9 ∷ 0 ∷ 0 ∷ 0 ∷ []) 1) ≡ slots (7 ∷ 0 ∷ 0 ∷ 0 ∷ []) (9 ∷ 0 ∷ 0 ∷ 0 ∷ []) 1)
    × (moved_loops 5 (slots (0 ∷ 1 ∷ 0 ∷ 0 ∷ []) (9 ∷ 8 ∷ 0 ∷ 0 ∷ []) 2) ≡ slots (5 ∷ 6 ∷ 0 ∷ 0 ∷ []) (9 ∷ 8 ∷ 0 ∷ 0 ∷ []) 2)
    × (moved_loops 5 (slots (0 ∷ 1 ∷ 2 ∷ 3 ∷ []) (1 ∷ 2 ∷ 3 ∷ 4 ∷ []) 4) ≡ slots (5 ∷ 6 ∷ 7 ∷ 8 ∷ []) (1 ∷ 2 ∷ 3 ∷ 4 ∷ []) 4)
    × (moved_loops 5 no_loops ≡ no_loops)
moved_loops_lem = (refl, refl, refl, refl)

-- ---- runs: by two calls, and by the call for the joined file

-- the two files one after the other, and the joined file, from s with a budget
abbrev parts : State → ℕ → Result Engine
parts s budget = both (file opening) (file closing) plain s memory budget

abbrev whole : State → ℕ → Result Engine
whole s budget = call (joined_file (file opening) (file closing)) plain s memory budget

-- both ways a run ends so
abbrev Both : Result Engine → Result Engine → Result Engine → Type 0
Both x y r = (x ≡ r) × (y ≡ r)

-- after the first: W0 is 7, A is 917,504
abbrev between : State
between = start but at 3 but reg 0 7 but in_a (pos 917504)

-- within the first with budgets 0 and 4; at its end with budget 5, spent and not done; in the second's repeat with 6; in its loop, whose DO is operation
-- 3 + 2, with 9; at the last step but one, and at the last; with more
runs :
    Both (parts start 0) (whole start 0) (ends Spent 0 start memory)
    × Both (parts start 4) (whole start 4) (ends Spent 4 (start but at 2 but one 0 1 but reg 0 7 but in_a (pos 458752)) memory)
    × Both (parts start 5) (whole start 5) (ends Spent 5 between memory)
    × Both (parts start 6) (whole start 6) (ends Spent 6 (between but at 4 but due 2) memory)
    × Both (parts start 9) (whole start 9) (ends Spent 9 (between but at 6 but one 5 2 but in_b (pos 917504)) memory)
    × Both (parts start 12) (whole start 12) (ends Spent 12 (between but at 7 but one 5 1 but reg 1 1 but in_a (pos 1376256) but in_b (pos 917504)) memory)
    × Both (parts start 13) (whole start 13) (ends Done 13 (between but at 8 but reg 1 1 but in_a (pos 1835008) but in_b (pos 917504)) memory)
    × Both (parts start 4294967295) (whole start 4294967295)
    (ends Done 13 (between but at 8 but reg 1 1 but in_a (pos 1835008) but in_b (pos 917504)) memory)
unfolding both joined_file joined_bytes joined moved_operation
runs = ((refl, refl), (refl, refl), (refl, refl), (refl, refl), (refl, refl), (refl, refl), (refl, refl), (refl, refl))

-- nothing is reset between: SA, SB and the mode word are kept
abbrev flagged : State
flagged = start but by 0xe1 but flags false false true true

kept :
    Both (parts flagged 99) (whole flagged 99)
    (ends Done 13 (flagged but at 8 but reg 0 7 but reg 1 1 but in_a (pos 1835008) but in_b (pos 917504)) memory)
unfolding both joined_file joined_bytes joined moved_operation
kept = (refl, refl)

-- nor memory and the O flags: the first stores 9 over word 0, the second loads it; no accumulator is written
abbrev storing : List Operation
storing = Literal 0 9 ∷ Literal 8 0x1000 ∷ Store 0 8 Stays ∷ []

abbrev loading : List Operation
loading = Load 1 8 Stays ∷ []

abbrev overflowed : State
overflowed = start but flags true true false false

left_over :
    Both (both (file storing) (file loading) plain overflowed memory 99) (call (joined_file (file storing) (file loading)) plain overflowed memory 99)
    (ends Done 4 (overflowed but at 4 but reg 0 9 but reg 1 9 but reg 8 0x1000) (set memory 0 9))
unfolding both joined_file joined_bytes joined moved_operation
left_over = (refl, refl)

-- a trap in the first ends the run there: 3 at its second operation, a shift by 17, with no step; 6 at its last, complete and counted, pc past it
abbrev shifting : List Operation
shifting = Literal 0 17 ∷ Shift A 0 ∷ []

abbrev summing : List Operation
summing = AddAccumulators A ∷ []

-- A is one below 2^31, B is 1
abbrev near : State
near = start but in_a (pos (2 ^ 31 - 1)) but in_b (pos 1)

abbrev over : State
over = near but in_a (pos (2 ^ 31)) but flags true false false false

traps :
    Both (both (file shifting) (file closing) plain start memory 99) (call (joined_file (file shifting) (file closing)) plain start memory 99)
    (ends (Trap 3) 1 (start but at 1 but reg 0 17) memory)
    × Both (both (file summing) (file closing) (trapping 0x400) near memory 99) (call (joined_file (file summing) (file closing)) (trapping 0x400) near memory 99)
    (ends (Trap 6) 1 (over but at 1) memory)
    × Both (both (file opening) (file shifting) plain start memory 99) (call (joined_file (file opening) (file shifting)) plain start memory 99)
    (ends (Trap 3) 6 (between but at 4 but reg 0 17) memory)
    × Both (both (file closing) (file summing) (trapping 0x400) near memory 99) (call (joined_file (file closing) (file summing)) (trapping 0x400) near memory 99)
    (ends (Trap 6) 9 (over but at 6 but reg 1 1) memory)
unfolding both joined_file joined_bytes joined moved_operation
traps = ((refl, refl), (refl, refl), (refl, refl), (refl, refl))

-- a repeat left or a loop at the first operation is refused with 7, a trap word of 0800 hex with 6, both ways
refusals :
    Both (parts (start but due 1) 99) (whole (start but due 1) 99) (ends (Refused 7) 0 (start but due 1) memory)
    × Both (parts (start but one 0 1) 99) (whole (start but one 0 1) 99) (ends (Refused 7) 0 (start but one 0 1) memory)
    × Both (both (file opening) (file closing) (trapping 0x800) (start but due 1) memory 99)
    (call (joined_file (file opening) (file closing)) (trapping 0x800) (start but due 1) memory 99) (ends (Refused 6) 0 (start but due 1) memory)
unfolding both joined_file joined_bytes joined moved_operation
refusals = ((refl, refl), (refl, refl), (refl, refl))

-- ---- the call's refusals in their order

-- a file of 511 bytes, one whose sum is off
abbrev short : List ℕ
short = drop 1 (file opening)

abbrev unsummed : List ℕ
unsummed = set (file opening) 4 0

-- the first's before the second's, both before 8; 8 for room one byte short of one block and of two
joins :
    (join_refusal unsummed short 0 ≡ 2)
    × (join_refusal short unsummed 0 ≡ 1)
    × (join_refusal (file opening) unsummed 0 ≡ 2)
    × (join_refusal (file opening) (file closing) 511 ≡ 8)
    × (join_refusal (file opening) (file closing) 512 ≡ 0)
    × (join_refusal (early 62) (early 2) 1023 ≡ 8)
    × (join_refusal (early 62) (early 2) 1024 ≡ 0)
unfolding call join_refusal joined_file joined_bytes joined moved_operation
joins = (refl, refl, refl, refl, refl, refl, refl)

-- a first of 4,032 operations and a second of three whose sum is off: 2, and not 9
two_before_nine : (first : List ℕ) (room : ℕ) → file_refusal first ≡ 0 → operation_count first ≡ 4032
    → ◌≡◌ {A = ℕ × ℕ} (operation_count first, join_refusal first unsummed room) (4032, 2)
unfolding call join_refusal
two_before_nine first room e count = rw (e, count) refl

-- a second of five, and room one byte short of the 65 blocks that 4,037 operations would take: 9, and not 8
nine_before_eight : (first : List ℕ) → file_refusal first ≡ 0 → operation_count first ≡ 4032 → length (joined_file first (file closing)) ≡ 33280
    → ◌≡◌ {A = ℕ × ℕ × ℕ} (operation_count first, length (joined_file first (file closing)), join_refusal first (file closing) 33279) (4032, 33280, 9)
unfolding call join_refusal
nine_before_eight first e count size = rw (e, count, size) refl

-- 4,032 operations together are joined, 4,033 are not
most : (together_refusal 4032 ≡ 0) × (together_refusal 4033 ≡ 9)
most = (refl, refl)

-- the first's refusal comes before all else, the second's before 9 and 8, and 9 before 8, whatever the room
first_refused : (first second : List ℕ) (room k : ℕ) → file_refusal first ≡ suc k → join_refusal first second room ≡ suc k
unfolding join_refusal
first_refused first second room k e = rw e

second_refused : (first second : List ℕ) (room k : ℕ) → file_refusal first ≡ 0 → file_refusal second ≡ suc k → join_refusal first second room ≡ suc k
unfolding join_refusal
second_refused first second room k e e' = rw (e, e')

nine_first : (first second : List ℕ) (room : ℕ) → file_refusal first ≡ 0 → file_refusal second ≡ 0 → operation_count first + operation_count second ≡ 4033
    → join_refusal first second room ≡ 9
unfolding join_refusal
nine_first first second room e e' many = rw (e, e', many)

-- 8 exactly where the room is shorter than the joined file
eight_last : (first second : List ℕ) (room : ℕ) → file_refusal first ≡ 0 → file_refusal second ≡ 0
    → together_refusal (operation_count first + operation_count second) ≡ 0 → join_refusal first second room ≡ room_refusal (length (joined_file first second)) room
unfolding join_refusal
eight_last first second room e e' few = rw (e, e', few)

-- ---- what is written

written : (written_in (Ok 2) (7 ∷ 8 ∷ 9 ∷ []) ≡ 7 ∷ 8 ∷ []) × (written_in (Err Together) (7 ∷ 8 ∷ 9 ∷ []) ≡ [])
written = (refl, refl)
