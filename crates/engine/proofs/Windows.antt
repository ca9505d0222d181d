-- Windows on a file's words: all, one, none; and the call over decoded operations: refused, too short a slice, or run. Assumes nothing.
use Prim.Native.Nat.{ℕ, ◌*◌, ◌≤◌, ◌<◌}
use mathlib.Core.Bool.{Bool, true, false, ◌&&◌}
use mathlib.Core.List.{List, [], ◌∷◌, append-nil}
use mathlib.Core.Path.{◌≡◌, refl, sym, ap, ◌∙◌}
use native.Mathlib.Nat.{zero-add, add-zero}
use native.Mathlib.Omega.{arith}
use borrow.Author.Tests.{lt-leb, ltb-true, eqb-true}
use lib.Dec.{eqb, leb, ltb}
use lib.ListN.{length, get_or}
use Rattle.integers.proofs.Whole.{both, never}
use Rattle.operations.specs.declared.operation.Operation.{Operation}
use Rattle.operations.specs.declared.operation.Operation.TheVariants.{EndEarly}
use Rattle.program.specs.Answer.{◌then◌, room_refusal}
use Rattle.program.specs.Bytes.{over}
use Rattle.program.specs.File.{file_refusal, operation_count, program_of}
use Rattle.program.proofs.Accepted.{accepted_blocks, program_length, program_placed}
use Rattle.program.proofs.Answers.{cond_zero, room_fits}
use Rattle.program.proofs.Places.{count_range}
use Rattle.form.specs.Words.{words_for}
use Rattle.form.specs.Form.{form_of}
use Rattle.form.proofs.Fields.{held_encoded}
use Rattle.form.proofs.Programs.{Holds, held_operation, over_holds}
use Rattle.state.specs.Settings.{is_parted, is_trap_word, is_x, is_y, is_reversed, are_settings, settings_refusal}
use Rattle.state.specs.Typed.{Typed, AreWords}
use Rattle.state.specs.declared.settings.Settings.{Settings}
use Rattle.state.specs.declared.state.State.{State}
use Rattle.effects.proofs.Traps.{first_some}
use Rattle.machine.specs.Single.{call_refusal}
use Rattle.machine.specs.Step.{operation_at}
use Rattle.machine.proofs.Calls.{if_refused, call_most}
use Rattle.endings.specs.Ending.{number_of}
use Rattle.endings.specs.declared.ending.Ending.TheVariants.{Refused}
use Rattle.runs.specs.Engine.{engine_run}
use Rattle.legs.specs.Leg.{ShowsWords}
use Rattle.legs.proofs.Fits.{file_listed}
use Rattle.engine.specs.Call.{result_of}
use Rattle.engine.specs.Decoded.{decoded_refusal, RunsDecoded}
use Rattle.engine.specs.Span.{whole_of, Has}
use Rattle.engine.specs.declared.outcome.Outcome.{Outcome}
use Rattle.engine.specs.declared.run.Span.{Span}
use Rattle.engine.proofs.Calls.{call_refused, call_run}

-- ---- the X part lies in memory

pub x_part_in : (settings : Settings) (words : ℕ) → settings_refusal settings words ≡ 0 → settings.xwords ≤ words
unfolding settings_refusal are_settings is_parted
x_part_in settings words e =
    let x = settings.xwords in
    let trap = is_trap_word settings.traps in
    let four = cond_zero (are_settings settings words) 5 e in
    let three = (both (is_parted x words && trap && is_x settings words && is_y settings words) (is_reversed settings) four).0 in
    let two = (both (is_parted x words && trap && is_x settings words) (is_y settings words) three).0 in
    let one = (both (is_parted x words && trap) (is_x settings words) two).0 in
    let parted = (both (is_parted x words) trap one).0 in
    let below = ltb-true x words (both (leb 2 words && leb words 30720 && leb 1 x) (ltb x words) parted).1 in
    omega arith

-- ---- decoded words are a window on the whole program

module _ (file code old : List ℕ) (accepted : file_refusal file ≡ 0) (decoded : code ≡ over (form_of (program_of file)) old) where
  abbrev p : List Operation
  p = program_of file

  holds : Holds code p
  holds = over_holds p code old decoded

  pub whole_window : ShowsWords p code 0 (operation_count file)
  whole_window =
      let count : length p ≡ operation_count file = program_length file accepted in
      record {
        placed = program_placed file accepted;
        listed = file_listed file accepted;
        most = rw count (count_range file (accepted_blocks file accepted)).1;
        inside = omega arith;
        words = λ i l. held_encoded holds i EndEarly (rw count l) (file_listed file accepted i (rw count l));
        same =
            λ i l. ap (operation_at p) (zero-add i) ∙ sym (held_operation holds i EndEarly (rw count l) (file_listed file accepted i (rw count l)));
      }

-- ---- the words of one operation are a window on it

pub one_window : (file code old : List ℕ) (i : ℕ) → file_refusal file ≡ 0 → i < operation_count file
    → code ≡ over (words_for (get_or (program_of file) i EndEarly)) old → ShowsWords (program_of file) code i 1
one_window file code old i accepted l decoded =
    let p = program_of file in
    let count : length p ≡ operation_count file = program_length file accepted in
    let o : Operation = get_or p i EndEarly in
    let listed = file_listed file accepted i (rw count l) in
    let holds : Holds code (o ∷ []) = over_holds (o ∷ []) code old (decoded ∙ rw (append-nil (words_for o))) in
    record {
      placed = program_placed file accepted;
      listed = file_listed file accepted;
      most = rw count (count_range file (accepted_blocks file accepted)).1;
      inside = omega arith;
      words = λ j k. let none : j ≡ 0 = omega arith in rw none (held_encoded holds 0 EndEarly (omega arith) listed);
      same = λ j k. let none : j ≡ 0 = omega arith in rw (none, add-zero i) (sym (held_operation holds 0 EndEarly (omega arith) listed));
    }

-- no operation

pub none_window : (file words : List ℕ) → file_refusal file ≡ 0 → ShowsWords (program_of file) words 0 0
none_window file words accepted =
    let count : length (program_of file) ≡ operation_count file = program_length file accepted in
    record {
      placed = program_placed file accepted;
      listed = file_listed file accepted;
      most = rw count (count_range file (accepted_blocks file accepted)).1;
      inside = omega arith;
      words = λ j k. absurd (omega arith);
      same = λ j k. absurd (omega arith);
    }

-- a span of the whole file has every operation, so it stays with its words

pub kept_whole : {file : List ℕ} {pc : ℕ} {at₀ at at' : Span} {words₀ words words' : List ℕ} → (at₀ ≡ whole_of file → (at ≡ at₀) × (words ≡ words₀))
    → pc < operation_count file → Has file pc at words at' words' → at₀ ≡ whole_of file → (at' ≡ at₀) × (words' ≡ words₀)
kept_whole {file} {pc} {at₀} {at} same l has e =
    let is : at ≡ whole_of file = (same e).0 ∙ e in
    let stays = has.stays (rw is (omega arith)) (rw is (omega (arith, l))) in
    (stays.0 ∙ (same e).0, stays.1 ∙ (same e).1)

-- ---- what the call promises

module _ (file : List ℕ) (settings : Settings) (s : State) (memory : List ℕ) (budget : ℕ) (lent : List ℕ) where
  abbrev before : ℕ
  before = call_refusal file settings s (length memory)

  -- 1 to 7
  pub decoded_refused : (n : ℕ) → n ≡ before → (n ≡ 0 → ⊥)
      → RunsDecoded file settings s memory budget lent (record { ending = Refused n; state = s; steps = 0 }) memory lent
  unfolding decoded_refusal
  decoded_refused n e h =
      let some : before ≡ 0 → ⊥ = λ z. h (e ∙ z) in
      let same = first_some before (room_refusal (16 * operation_count file) (length lent)) some in
      let most : before ≤ 7 = call_most file settings s (length memory) in
      record {
        short = λ eight. absurd (omega (arith, same, eight));
        name = λ eight. absurd (omega (arith, same, eight));
        number = λ eight. absurd (omega (arith, same, eight));
        runs = λ other. call_refused file settings s memory budget n e h;
        words = if_refused _ _ _ (λ z. some (same ∙ z));
      }

  module _ (none : before ≡ 0) where
    -- 8
    pub decoded_short : length lent < 16 * operation_count file
        → RunsDecoded file settings s memory budget lent (record { ending = Refused 8; state = s; steps = 0 }) memory lent
    unfolding decoded_refusal number_of
    decoded_short l =
        let eight : room_refusal (16 * operation_count file) (length lent) ≡ 8 = rw (lt-leb (16 * operation_count file) (length lent) l) in
        let is : before then room_refusal (16 * operation_count file) (length lent) ≡ 8 = rw none eight in
        record { short = λ e. refl; name = λ e. refl; number = λ e. refl; runs = λ other. absurd (other is); words = rw is }

    -- none
    pub decoded_runs : 16 * operation_count file ≤ length lent → Typed s.core → AreWords memory → (r : Outcome) (after slice : List ℕ)
        → result_of r after ≡ engine_run (program_of file) settings budget s memory → slice ≡ over (form_of (program_of file)) lent
        → RunsDecoded file settings s memory budget lent r after slice
    unfolding decoded_refusal
    decoded_runs l typed ram r after slice is words =
        let runs = call_run file settings s memory budget none typed ram r after is in
        let zero-eight : before then room_refusal (16 * operation_count file) (length lent) ≡ 0 = rw none (room_fits (16 * operation_count file) (length lent) l) in
        record {
          short = λ e. absurd (omega (arith, zero-eight, e));
          name = λ e. absurd (omega (arith, zero-eight, e));
          number = λ e. absurd (omega (arith, zero-eight, e));
          runs = λ other. runs;
          words = rw zero-eight words;
        }

-- no answer is free, by the contract alone: two outcomes of one call are the same, with the memory and the slice that they leave
pub decoded_determined : (file : List ℕ) (settings : Settings) (s : State) (memory : List ℕ) (budget : ℕ) (lent : List ℕ) (r r' : Outcome) (after after' slice slice' : List ℕ)
    → RunsDecoded file settings s memory budget lent r after slice → RunsDecoded file settings s memory budget lent r' after' slice'
    → (result_of r after ≡ result_of r' after') × (slice ≡ slice')
decoded_determined file settings s memory budget lent r r' after after' slice slice' h k = (go (eqb n 8) refl, h.words ∙ sym k.words)
  where
    n : ℕ
    n = decoded_refusal file settings s (length memory) (length lent)

    go : (t : Bool) → eqb n 8 ≡ t → result_of r after ≡ result_of r' after'
    go true e = h.short (eqb-true n 8 e) ∙ sym (k.short (eqb-true n 8 e))
    go false e =
        let other : n ≡ 8 → ⊥ = λ z. never (sym (rw z at e)) in
        (h.runs other).runs ∙ sym (k.runs other).runs
