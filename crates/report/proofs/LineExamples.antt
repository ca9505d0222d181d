-- Lines worked out by hand from CASES.md: order of fields, signs, checks, refusals. Assumes nothing.
use Prim.Native.Nat.{ℕ}
use mathlib.Core.Path.{◌≡◌, refl}
use mathlib.Core.Bool.{Bool, true, false}
use mathlib.Core.List.{List, [], ◌∷◌, ◌++◌}
use lib.IntN.{ℤ, pos}
use Rattle.integers.specs.Range.{minus}
use Rattle.accumulator.specs.Status.{status_of}
use Rattle.accumulator.specs.declared.limit.Accumulator.{Accumulator}
use Rattle.program.specs.declared.answer.Refusal.TheVariants.{Room, Together, Boards, Settings}
use Rattle.std.specs.Prelude.{Ok, Err}
use Rattle.state.specs.State.{no_loops, state_status}
use Rattle.state.specs.declared.state.State.{State}
use Rattle.machine.specs.declared.single.SingleStep.{SingleStep}
use Rattle.endings.specs.Ending.{name_of, decimal_of}
use Rattle.endings.specs.declared.ending.Ending.{Ending}
use Rattle.endings.specs.declared.ending.Ending.TheVariants.{Done, Spent, Trap, Refused}
use Rattle.engine.specs.declared.outcome.Outcome.{Outcome}
use Rattle.text.specs.Text.{number_text, signed_text, word_text}
use Rattle.report.specs.Line.{slot_fields, sum_fields, control_fields, state_fields, ending_text, run_fields, run_line, long_run_line, decoded_run_line, tally_sums, tally_line}
use Rattle.report.specs.Line.{step_text, step_line, filled_line, combined_fields, combined_line, combined_line_of, notice_line, service_text, service_text_of, bag_fields}
use Rattle.report.specs.declared.notice.Notice.TheVariants.{Short, TooLarge, Unknown}
use Rattle.report.specs.declared.verb.Verb.TheVariants.{Loaded, Wrote, Joined}

-- ---- a state with another value in each field

-- SR is 9E10: OA, SB, OA or OB, SA or SB, a loop, repeat left
abbrev standing : State
standing =
    record {
      core =
          record {
            w = 0xABCD ∷ 0xFFFF ∷ 0 ∷ 0x000A ∷ 1 ∷ 2 ∷ 3 ∷ 4 ∷ 5 ∷ 6 ∷ 7 ∷ 8 ∷ 9 ∷ 0x001F ∷ [];
            a = minus 5;
            b = pos 6;
            pc = 7;
            loops = record { starts = 2 ∷ 3 ∷ 4 ∷ 5 ∷ []; passes = 9 ∷ 4294967295 ∷ 6 ∷ 7 ∷ []; depth = 2 };
            repeat = 4;
            mode = 0x00A0;
            oa = true;
            ob = false;
          };
      sa = false;
      sb = true;
    }

-- two words, of which the check is 33
abbrev words : List ℕ
words = 1 ∷ 2 ∷ []

-- its fields and the check of two words: ` -5 6 9E10 7 4 00A0 2 2:9 3:4294967295 4:6 5:7 ABCD FFFF 0000 000A 0001 0002 0003 0004 0005 0006 0007 0008 0009 001F 33`
abbrev standing_fields : List ℕ
standing_fields =
    32 ∷ 45 ∷ 53 ∷ 32 ∷ 54 ∷ 32 ∷ 57 ∷ 69 ∷ 49 ∷ 48 ∷ 32 ∷ 55 ∷ 32 ∷ 52 ∷ 32 ∷ 48 ∷ 48 ∷ 65 ∷ 48 ∷ 32 ∷ 50 ∷ 32 ∷ 50 ∷ 58 ∷ 57
    ∷ 32 ∷ 51 ∷ 58 ∷ 52 ∷ 50 ∷ 57 ∷ 52 ∷ 57 ∷ 54 ∷ 55 ∷ 50 ∷ 57 ∷ 53 ∷ 32 ∷ 52 ∷ 58 ∷ 54 ∷ 32 ∷ 53 ∷ 58 ∷ 55 ∷ 32 ∷ 65 ∷ 66 ∷ 67 ∷ 68
    ∷ 32 ∷ 70 ∷ 70 ∷ 70 ∷ 70 ∷ 32 ∷ 48 ∷ 48 ∷ 48 ∷ 48 ∷ 32 ∷ 48 ∷ 48 ∷ 48 ∷ 65 ∷ 32 ∷ 48 ∷ 48 ∷ 48 ∷ 49 ∷ 32 ∷ 48 ∷ 48 ∷ 48 ∷ 50
    ∷ 32 ∷ 48 ∷ 48 ∷ 48 ∷ 51 ∷ 32 ∷ 48 ∷ 48 ∷ 48 ∷ 52 ∷ 32 ∷ 48 ∷ 48 ∷ 48 ∷ 53 ∷ 32 ∷ 48 ∷ 48 ∷ 48 ∷ 54 ∷ 32 ∷ 48 ∷ 48 ∷ 48 ∷ 55
    ∷ 32 ∷ 48 ∷ 48 ∷ 48 ∷ 56 ∷ 32 ∷ 48 ∷ 48 ∷ 48 ∷ 57 ∷ 32 ∷ 48 ∷ 48 ∷ 49 ∷ 70 ∷ 32 ∷ 51 ∷ 51 ∷ []

-- A alone, all else as after reset but the registers, which the line of `tally` does not show
abbrev made_of : ℤ → State
made_of v =
    record {
      core = record { w = []; a = v; b = pos 0; pc = 3; loops = no_loops; repeat = 0; mode = 0x20; oa = false; ob = false };
      sa = false;
      sb = false;
    }

-- a run that ended so
abbrev ended_so : Ending → Outcome
ended_so e = record { ending = e; state = standing; steps = 12 }

-- a run: `trap5 12 ..\n`
run_trapped : run_line (ended_so (Trap 5)) words
    ≡ (116 ∷ 114 ∷ 97 ∷ 112 ∷ 53 ∷ 32 ∷ 49 ∷ 50 ∷ [])
    ++ standing_fields
    ++ (10 ∷ [])
unfolding run_line run_fields ending_text name_of decimal_of state_fields sum_fields control_fields slot_fields state_status status_of number_text signed_text word_text
run_trapped = refl

-- another: `spent 12 ..\n`
run_spent : run_line (ended_so Spent) words
    ≡ (115 ∷ 112 ∷ 101 ∷ 110 ∷ 116 ∷ 32 ∷ 49 ∷ 50 ∷ [])
    ++ standing_fields
    ++ (10 ∷ [])
unfolding run_line run_fields ending_text name_of decimal_of state_fields sum_fields control_fields slot_fields state_status status_of number_text signed_text word_text
run_spent = refl

-- a refusal: `refused7 12 ..\n`
run_refused : run_line (ended_so (Refused 7)) words
    ≡ (114 ∷ 101 ∷ 102 ∷ 117 ∷ 115 ∷ 101 ∷ 100 ∷ 55 ∷ 32 ∷ 49 ∷ 50 ∷ [])
    ++ standing_fields
    ++ (10 ∷ [])
unfolding run_line run_fields ending_text name_of decimal_of state_fields sum_fields control_fields slot_fields state_status status_of number_text signed_text word_text
run_refused = refl

-- the long form: set 0, the check of 70 registers (each register times 31 to the number of those after it), eight zeros and the steps: `done 12 .. 0 1678458134 0 0 0 0 0 0 0 0 12\n`
run_long : long_run_line (ended_so Done) words
    ≡ (100 ∷ 111 ∷ 110 ∷ 101 ∷ 32 ∷ 49 ∷ 50 ∷ [])
    ++ standing_fields
    ++ (32 ∷ 48 ∷ 32 ∷ 49 ∷ 54 ∷ 55 ∷ 56 ∷ 52 ∷ 53 ∷ 56 ∷ 49 ∷ 51 ∷ 52 ∷ 32 ∷ 48 ∷ 32 ∷ 48 ∷ 32 ∷ 48 ∷ 32 ∷ 48 ∷ 32 ∷ 48 ∷ 32 ∷ 48 ∷ 32 ∷ 48 ∷ 32 ∷ 48 ∷ 32 ∷ 49 ∷ 50 ∷ 10 ∷ [])
unfolding long_run_line run_fields ending_text name_of decimal_of state_fields sum_fields control_fields slot_fields state_status status_of number_text signed_text word_text
run_long = refl

-- over decoded operations: the long form's line, then the check of the slice's words 3 and 4, refused for its slice: `refused8 12 .. 0 1678458134 0 0 0 0 0 0 0 0 12 97\n`
run_decoded : decoded_run_line (ended_so (Refused 8)) words (3 ∷ 4 ∷ [])
    ≡ (114 ∷ 101 ∷ 102 ∷ 117 ∷ 115 ∷ 101 ∷ 100 ∷ 56 ∷ 32 ∷ 49 ∷ 50 ∷ [])
    ++ standing_fields
    ++ (32 ∷ 48 ∷ 32 ∷ 49 ∷ 54 ∷ 55 ∷ 56 ∷ 52 ∷ 53 ∷ 56 ∷ 49 ∷ 51 ∷ 52 ∷ 32 ∷ 48 ∷ 32 ∷ 48 ∷ 32 ∷ 48 ∷ 32 ∷ 48 ∷ 32 ∷ 48 ∷ 32 ∷ 48 ∷ 32 ∷ 48 ∷ 32 ∷ 48 ∷ 32 ∷ 49 ∷ 50 ∷ 32 ∷ 57 ∷ 55 ∷ 10 ∷ [])
unfolding decoded_run_line long_run_line run_fields ending_text name_of decimal_of state_fields sum_fields control_fields slot_fields state_status status_of number_text signed_text word_text
run_decoded = refl

-- ---- tally

-- steps, A, B, SR: `done 12 -5 6 9E10\n`
tally_done : tally_line (ended_so Done) ≡ 100 ∷ 111 ∷ 110 ∷ 101 ∷ 32 ∷ 49 ∷ 50 ∷ 32 ∷ 45 ∷ 53 ∷ 32 ∷ 54 ∷ 32 ∷ 57 ∷ 69 ∷ 49 ∷ 48 ∷ 10 ∷ []
unfolding tally_line tally_sums ending_text name_of decimal_of state_fields sum_fields control_fields slot_fields state_status status_of number_text signed_text word_text
tally_done = refl

-- a refusal alone: `refused3\n`
tally_refused : tally_line (ended_so (Refused 3)) ≡ 114 ∷ 101 ∷ 102 ∷ 117 ∷ 115 ∷ 101 ∷ 100 ∷ 51 ∷ 10 ∷ []
unfolding tally_line tally_sums ending_text name_of decimal_of state_fields sum_fields control_fields slot_fields state_status status_of number_text signed_text word_text
tally_refused = refl

-- spent and a trap have their sums too: `spent 12 -5 6 9E10\n`, `trap3 12 -5 6 9E10\n`
tally_spent : tally_line (ended_so Spent) ≡ 115 ∷ 112 ∷ 101 ∷ 110 ∷ 116 ∷ 32 ∷ 49 ∷ 50 ∷ 32 ∷ 45 ∷ 53 ∷ 32 ∷ 54 ∷ 32 ∷ 57 ∷ 69 ∷ 49 ∷ 48 ∷ 10 ∷ []
unfolding tally_line tally_sums ending_text name_of decimal_of sum_fields state_status status_of number_text signed_text word_text
tally_spent = refl

tally_trapped : tally_line (ended_so (Trap 3)) ≡ 116 ∷ 114 ∷ 97 ∷ 112 ∷ 51 ∷ 32 ∷ 49 ∷ 50 ∷ 32 ∷ 45 ∷ 53 ∷ 32 ∷ 54 ∷ 32 ∷ 57 ∷ 69 ∷ 49 ∷ 48 ∷ 10 ∷ []
unfolding tally_line tally_sums ending_text name_of decimal_of sum_fields state_status status_of number_text signed_text word_text
tally_trapped = refl

-- document 01's line: `done 3 -12 0 0000\n`
tally_paper :
    tally_line (record { ending = Done; state = made_of (minus 12); steps = 3 })
    ≡ 100 ∷ 111 ∷ 110 ∷ 101 ∷ 32 ∷ 51 ∷ 32 ∷ 45 ∷ 49 ∷ 50 ∷ 32 ∷ 48 ∷ 32 ∷ 48 ∷ 48 ∷ 48 ∷ 48 ∷ 10 ∷ []
unfolding tally_line tally_sums ending_text name_of decimal_of sum_fields state_status status_of number_text signed_text word_text
tally_paper = refl

-- ---- single steps

abbrev made : ℕ → ℕ → Bool → SingleStep
made r t counted = record { refusal = r; trap = t; counted = counted; state = standing }

-- a step: `step 1 ..\n`
step_made : step_line (made 0 0 true) words
    ≡ (115 ∷ 116 ∷ 101 ∷ 112 ∷ 32 ∷ 49 ∷ [])
    ++ standing_fields
    ++ (10 ∷ [])
unfolding step_line step_text ending_text name_of decimal_of state_fields sum_fields control_fields slot_fields state_status status_of number_text signed_text word_text
step_made = refl

-- done: `done 0 ..\n`
step_done : step_line (made 0 0 false) words
    ≡ (100 ∷ 111 ∷ 110 ∷ 101 ∷ 32 ∷ 48 ∷ [])
    ++ standing_fields
    ++ (10 ∷ [])
unfolding step_line step_text ending_text name_of decimal_of state_fields sum_fields control_fields slot_fields state_status status_of number_text signed_text word_text
step_done = refl

-- a trap that counts: `trap6 1 ..\n`
step_trapped : step_line (made 0 6 true) words
    ≡ (116 ∷ 114 ∷ 97 ∷ 112 ∷ 54 ∷ 32 ∷ 49 ∷ [])
    ++ standing_fields
    ++ (10 ∷ [])
unfolding step_line step_text ending_text name_of decimal_of state_fields sum_fields control_fields slot_fields state_status status_of number_text signed_text word_text
step_trapped = refl

-- a refusal: `refused4 0 ..\n`
step_refused : step_line (made 4 0 false) words
    ≡ (114 ∷ 101 ∷ 102 ∷ 117 ∷ 115 ∷ 101 ∷ 100 ∷ 52 ∷ 32 ∷ 48 ∷ [])
    ++ standing_fields
    ++ (10 ∷ [])
unfolding step_line step_text ending_text name_of decimal_of state_fields sum_fields control_fields slot_fields state_status status_of number_text signed_text word_text
step_refused = refl

-- ---- loads, writes, joins: the slice has two bytes

-- a load: `loaded 504 33\n`
loaded : filled_line Loaded (Ok 504) words ≡ 108 ∷ 111 ∷ 97 ∷ 100 ∷ 101 ∷ 100 ∷ 32 ∷ 53 ∷ 48 ∷ 52 ∷ 32 ∷ 51 ∷ 51 ∷ 10 ∷ []
unfolding filled_line number_text ending_text name_of decimal_of
loaded = refl

-- a write: `written 512 33\n`
written : filled_line Wrote (Ok 512) words ≡ 119 ∷ 114 ∷ 105 ∷ 116 ∷ 116 ∷ 101 ∷ 110 ∷ 32 ∷ 53 ∷ 49 ∷ 50 ∷ 32 ∷ 51 ∷ 51 ∷ 10 ∷ []
unfolding filled_line number_text ending_text name_of decimal_of
written = refl

-- a join: `joined 1024 33\n`
joined : filled_line Joined (Ok 1024) words ≡ 106 ∷ 111 ∷ 105 ∷ 110 ∷ 101 ∷ 100 ∷ 32 ∷ 49 ∷ 48 ∷ 50 ∷ 52 ∷ 32 ∷ 51 ∷ 51 ∷ 10 ∷ []
unfolding filled_line number_text ending_text name_of decimal_of
joined = refl

-- refused for its room: `refused8 0 33\n`
no_room : filled_line Wrote (Err Room) words ≡ 114 ∷ 101 ∷ 102 ∷ 117 ∷ 115 ∷ 101 ∷ 100 ∷ 56 ∷ 32 ∷ 48 ∷ 32 ∷ 51 ∷ 51 ∷ 10 ∷ []
unfolding filled_line number_text ending_text name_of decimal_of
no_room = refl

-- refused together: `refused9 0 33\n`
not_joined : filled_line Joined (Err Together) words ≡ 114 ∷ 101 ∷ 102 ∷ 117 ∷ 115 ∷ 101 ∷ 100 ∷ 57 ∷ 32 ∷ 48 ∷ 32 ∷ 51 ∷ 51 ∷ 10 ∷ []
unfolding filled_line number_text ending_text name_of decimal_of
not_joined = refl

-- ---- boards combined

abbrev total : Accumulator
total = record { value = minus 5; overflow = false; saturation = true }

-- A, OA, SA: `combined -5 0 1\n`
combined : combined_line (Ok total) ≡ 99 ∷ 111 ∷ 109 ∷ 98 ∷ 105 ∷ 110 ∷ 101 ∷ 100 ∷ 32 ∷ 45 ∷ 53 ∷ 32 ∷ 48 ∷ 32 ∷ 49 ∷ 10 ∷ []
unfolding combined_line combined_fields number_text signed_text
combined = refl

-- a refusal: `refused13\n`
not_combined : combined_line (Err Boards) ≡ 114 ∷ 101 ∷ 102 ∷ 117 ∷ 115 ∷ 101 ∷ 100 ∷ 49 ∷ 51 ∷ 10 ∷ []
unfolding combined_line ending_text name_of decimal_of
not_combined = refl

-- the same by the number of a refusal, and one that is no number of the table: `refused13\n`, `refused12\n`
not_combined_of :
    (combined_line_of (Err 13) ≡ 114 ∷ 101 ∷ 102 ∷ 117 ∷ 115 ∷ 101 ∷ 100 ∷ 49 ∷ 51 ∷ 10 ∷ [])
    × (combined_line_of (Err 12) ≡ 114 ∷ 101 ∷ 102 ∷ 117 ∷ 115 ∷ 101 ∷ 100 ∷ 49 ∷ 50 ∷ 10 ∷ [])
unfolding combined_line_of ending_text name_of decimal_of
not_combined_of = (refl, refl)

-- the sum: `combined -5 0 1\n`
combined_of : combined_line_of (Ok total) ≡ 99 ∷ 111 ∷ 109 ∷ 98 ∷ 105 ∷ 110 ∷ 101 ∷ 100 ∷ 32 ∷ 45 ∷ 53 ∷ 32 ∷ 48 ∷ 32 ∷ 49 ∷ 10 ∷ []
unfolding combined_line_of combined_fields number_text signed_text
combined_of = refl

-- ---- cases without an answer

-- `short\n`, `toolarge\n`, `unknown\n`
notices :
    (notice_line Short ≡ 115 ∷ 104 ∷ 111 ∷ 114 ∷ 116 ∷ 10 ∷ [])
    × (notice_line TooLarge ≡ 116 ∷ 111 ∷ 111 ∷ 108 ∷ 97 ∷ 114 ∷ 103 ∷ 101 ∷ 10 ∷ [])
    × (notice_line Unknown ≡ 117 ∷ 110 ∷ 107 ∷ 110 ∷ 111 ∷ 119 ∷ 110 ∷ 10 ∷ [])
unfolding notice_line
notices = (refl, refl, refl)

-- ---- a service

-- served: the checks of memory, of the ending codes and of the steps: `served .. 16 3`
served : service_text {A = State} (Ok standing) standing words (0 ∷ 16 ∷ []) (3 ∷ [])
    ≡ (115 ∷ 101 ∷ 114 ∷ 118 ∷ 101 ∷ 100 ∷ [])
    ++ standing_fields
    ++ (32 ∷ 49 ∷ 54 ∷ 32 ∷ 51 ∷ [])
unfolding service_text ending_text name_of decimal_of state_fields sum_fields control_fields slot_fields state_status status_of number_text signed_text word_text
served = refl

-- refused: `refused6 .. 16 3`
not_served : service_text {A = State} (Err Settings) standing words (0 ∷ 16 ∷ []) (3 ∷ [])
    ≡ (114 ∷ 101 ∷ 102 ∷ 117 ∷ 115 ∷ 101 ∷ 100 ∷ 54 ∷ [])
    ++ standing_fields
    ++ (32 ∷ 49 ∷ 54 ∷ 32 ∷ 51 ∷ [])
unfolding service_text ending_text name_of decimal_of state_fields sum_fields control_fields slot_fields state_status status_of number_text signed_text word_text
not_served = refl

-- by the number 0: `served .. 16 3`
served_of : service_text_of 0 standing words (0 ∷ 16 ∷ []) (3 ∷ [])
    ≡ (115 ∷ 101 ∷ 114 ∷ 118 ∷ 101 ∷ 100 ∷ [])
    ++ standing_fields
    ++ (32 ∷ 49 ∷ 54 ∷ 32 ∷ 51 ∷ [])
unfolding service_text_of ending_text name_of decimal_of state_fields sum_fields control_fields slot_fields state_status status_of number_text signed_text word_text
served_of = refl

-- by the number 6: `refused6 .. 16 3`
not_served_of : service_text_of 6 standing words (0 ∷ 16 ∷ []) (3 ∷ [])
    ≡ (114 ∷ 101 ∷ 102 ∷ 117 ∷ 115 ∷ 101 ∷ 100 ∷ 54 ∷ [])
    ++ standing_fields
    ++ (32 ∷ 49 ∷ 54 ∷ 32 ∷ 51 ∷ [])
unfolding service_text_of ending_text name_of decimal_of state_fields sum_fields control_fields slot_fields state_status status_of number_text signed_text word_text
not_served_of = refl

-- a bag that trapped with 5: ` 0025 817`
bag_trapped : bag_fields 0x25 817 ≡ 32 ∷ 48 ∷ 48 ∷ 50 ∷ 53 ∷ 32 ∷ 56 ∷ 49 ∷ 55 ∷ []
unfolding bag_fields number_text word_text
bag_trapped = refl
