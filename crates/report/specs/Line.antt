-- The line that is printed for a case: its fields in their order, parted by one space.
use Rattle.std.specs.Prelude.{ℕ, ◌-◌, cond, List, [], ◌∷◌, ◌++◌, eqb, length, get_or, take, replicate, Result, Ok, Err}
use Rattle.accumulator.specs.declared.limit.Accumulator.{Accumulator}
use Rattle.program.specs.Answer.{refusal_number, answer_bytes}
use Rattle.program.specs.declared.answer.Refusal.{Refusal}
use Rattle.state.specs.State.{state_status}
use Rattle.state.specs.declared.state.Core.{Core}
use Rattle.state.specs.declared.state.State.{State}
use Rattle.machine.specs.declared.single.SingleStep.{SingleStep}
use Rattle.endings.specs.Ending.{name_of}
use Rattle.endings.specs.declared.ending.Ending.{Ending}
use Rattle.endings.specs.declared.ending.Ending.TheVariants.{Done, Spent, Trap, Refused}
use Rattle.engine.specs.declared.outcome.Outcome.{Outcome}
use Rattle.text.specs.Text.{number_text, signed_text, word_text, before_zero, field_of, flag_text, fields_of, check_field}
use Rattle.report.specs.declared.notice.Notice.{Notice}
use Rattle.report.specs.declared.notice.Notice.TheVariants.{Short, TooLarge, Unknown}
use Rattle.report.specs.declared.verb.Verb.{Verb}
use Rattle.report.specs.declared.verb.Verb.TheVariants.{Loaded, Wrote, Joined}

-- the end of a line
abbrev pub line_end : List ℕ
line_end = 10 ∷ []

-- ---- state and memory

-- a slot: `DO:passes`
abbrev pub slot_field : ℕ → ℕ → List ℕ
slot_field start left = field_of (number_text start) ++ (58 ∷ []) ++ number_text left

-- the four slots
unfoldable pub slot_fields : List ℕ → List ℕ → List ℕ
slot_fields starts passes =
    slot_field (get_or starts 0 0) (get_or passes 0 0)
    ++ slot_field (get_or starts 1 0) (get_or passes 1 0)
    ++ slot_field (get_or starts 2 0) (get_or passes 2 0)
    ++ slot_field (get_or starts 3 0) (get_or passes 3 0)

-- A, B, SR
unfoldable pub sum_fields : Core → ℕ → List ℕ
sum_fields c status = field_of (signed_text c.a) ++ field_of (signed_text c.b) ++ field_of (word_text status)

-- pc, repeat left, mode word, number of active loops, the four slots as `DO:passes`
unfoldable pub control_fields : Core → List ℕ
control_fields c =
    field_of (number_text c.pc)
    ++ field_of (number_text c.repeat)
    ++ field_of (word_text c.mode)
    ++ field_of (number_text c.loops.depth)
    ++ slot_fields c.loops.starts c.loops.passes

-- A, B, SR, pc, repeat left, mode word, loops, W0 .. W13, the memory's check
unfoldable pub state_fields : State → List ℕ → List ℕ
state_fields s memory =
    sum_fields s.core (state_status s) ++ control_fields s.core ++ fields_of word_text s.core.w ++ check_field memory

-- ---- runs

-- an ending's name: done, spent, trap1 .. trap7, refused1 and so on
unfoldable pub ending_text : Ending → List ℕ
ending_text e = before_zero (name_of e)

-- ending, steps, the state, the memory's check
unfoldable pub run_fields : Outcome → List ℕ → List ℕ
run_fields r memory = ending_text r.ending ++ field_of (number_text r.steps) ++ state_fields r.state memory

-- a run
unfoldable pub run_line : Outcome → List ℕ → List ℕ
run_line r memory = run_fields r memory ++ line_end

-- all 70 registers, set 0 first: sets 1 to 4 are zeros
abbrev pub all_registers : List ℕ → List ℕ
all_registers w = w ++ replicate 56 0

-- the nine task counts: of the eight tasks, then of operations in none
abbrev pub task_counts : ℕ → List ℕ
task_counts steps = 0 ∷ 0 ∷ 0 ∷ 0 ∷ 0 ∷ 0 ∷ 0 ∷ 0 ∷ steps ∷ []

-- a run in the long form: the fields of a run, then the number of the set in use, which is 0, the check of all 70 registers, the nine task counts
unfoldable pub long_run_line : Outcome → List ℕ → List ℕ
long_run_line r memory =
    run_fields r memory
    ++ field_of (48 ∷ [])
    ++ check_field (all_registers r.state.core.w)
    ++ fields_of number_text (task_counts r.steps)
    ++ line_end

-- a line without its end
abbrev pub unended : List ℕ → List ℕ
unended line = take (length line - 1) line

-- a run over decoded operations: the line of a run in the long form, then the check of the slice's words
unfoldable pub decoded_run_line : Outcome → List ℕ → List ℕ → List ℕ
decoded_run_line r memory slice = unended (long_run_line r memory) ++ check_field slice ++ line_end

-- steps, A, B and SR
unfoldable pub tally_sums : Outcome → List ℕ
tally_sums r = field_of (number_text r.steps) ++ sum_fields r.state.core (state_status r.state)

-- a text, and none where the ending is a refusal
abbrev pub of_no_refusal : Ending → List ℕ → List ℕ
of_no_refusal Done text = text
of_no_refusal Spent text = text
of_no_refusal (Trap n) text = text
of_no_refusal (Refused n) text = []

-- document 01's tally: ending, steps, A, B and SR; a refusal alone
unfoldable pub tally_line : Outcome → List ℕ
tally_line r = ending_text r.ending ++ of_no_refusal r.ending (tally_sums r) ++ line_end

-- ---- a single step

-- refused, trapped, `step` where one was made, else done
unfoldable pub step_text : SingleStep → List ℕ
step_text m =
    cond (eqb m.refusal 0)
    (cond (eqb m.trap 0) (cond m.counted (115 ∷ 116 ∷ 101 ∷ 112 ∷ []) (ending_text Done)) (ending_text (Trap m.trap)))
    (ending_text (Refused m.refusal))

-- how the step ended, the steps made, the state, the memory's check
unfoldable pub step_line : SingleStep → List ℕ → List ℕ
step_line m memory = step_text m ++ field_of (flag_text m.counted) ++ state_fields m.state memory ++ line_end

-- ---- loads, writes, joins

-- loaded, written, joined
abbrev pub verb_text : Verb → List ℕ
verb_text Loaded = 108 ∷ 111 ∷ 97 ∷ 100 ∷ 101 ∷ 100 ∷ []
verb_text Wrote = 119 ∷ 114 ∷ 105 ∷ 116 ∷ 116 ∷ 101 ∷ 110 ∷ []
verb_text Joined = 106 ∷ 111 ∷ 105 ∷ 110 ∷ 101 ∷ 100 ∷ []

-- a text, or the refusal in its place
abbrev pub unless_refused : {A : Type 0} → Result A Refusal → List ℕ → List ℕ
unless_refused (Ok x) text = text
unless_refused (Err r) text = ending_text (Refused (refusal_number r))

-- a text, or the refusal where its number is not 0
abbrev pub unless_numbered : ℕ → List ℕ → List ℕ
unless_numbered n text = cond (eqb n 0) text (ending_text (Refused n))

-- the verb and the bytes written, or the refusal and 0; the slice's check
unfoldable pub filled_line : Verb → Result ℕ Refusal → List ℕ → List ℕ
filled_line v answer slice =
    unless_refused answer (verb_text v) ++ field_of (number_text (answer_bytes answer)) ++ check_field slice ++ line_end

-- ---- boards combined

-- `combined A OA SA`
unfoldable pub combined_fields : Accumulator → List ℕ
combined_fields a =
    (99 ∷ 111 ∷ 109 ∷ 98 ∷ 105 ∷ 110 ∷ 101 ∷ 100 ∷ [])
    ++ field_of (signed_text a.value)
    ++ field_of (flag_text a.overflow)
    ++ field_of (flag_text a.saturation)

-- the sum or the refusal
unfoldable pub combined_line : Result Accumulator Refusal → List ℕ
combined_line (Ok a) = combined_fields a ++ line_end
combined_line (Err r) = ending_text (Refused (refusal_number r)) ++ line_end

-- the sum or the refusal of this number
unfoldable pub combined_line_of : Result Accumulator ℕ → List ℕ
combined_line_of (Ok a) = combined_fields a ++ line_end
combined_line_of (Err n) = ending_text (Refused n) ++ line_end

-- ---- cases without an answer

-- a case that breaks off: short; one that asks for too much: toolarge; a call that has not landed: unknown
abbrev pub notice_text : Notice → List ℕ
notice_text Short = 115 ∷ 104 ∷ 111 ∷ 114 ∷ 116 ∷ []
notice_text TooLarge = 116 ∷ 111 ∷ 111 ∷ 108 ∷ 97 ∷ 114 ∷ 103 ∷ 101 ∷ []
notice_text Unknown = 117 ∷ 110 ∷ 107 ∷ 110 ∷ 111 ∷ 119 ∷ 110 ∷ []

unfoldable pub notice_line : Notice → List ℕ
notice_line n = notice_text n ++ line_end

-- ---- a service of bags

-- `served`
abbrev pub served_text : List ℕ
served_text = 115 ∷ 101 ∷ 114 ∷ 118 ∷ 101 ∷ 100 ∷ []

-- `served` or the refusal, the state, the memory's check, the checks of the ending codes and of the steps; the bags' fields and the line's end follow
unfoldable pub service_text : {A : Type 0} → Result A Refusal → State → List ℕ → List ℕ → List ℕ → List ℕ
service_text answer s memory endings steps =
    unless_refused answer served_text ++ state_fields s memory ++ check_field endings ++ check_field steps

-- the same of a refusal's number, 0 where it was served
unfoldable pub service_text_of : ℕ → State → List ℕ → List ℕ → List ℕ → List ℕ
service_text_of refusal s memory endings steps =
    unless_numbered refusal served_text ++ state_fields s memory ++ check_field endings ++ check_field steps

-- a bag: its ending's code in hexadecimal, its steps
unfoldable pub bag_fields : ℕ → ℕ → List ℕ
bag_fields ending steps = field_of (word_text ending) ++ field_of (number_text steps)
