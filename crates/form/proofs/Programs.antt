-- A program's words: what they are operation by operation. Assumes nothing.
use Prim.Native.Nat.{ℕ, zero, suc, ◌+◌, ◌*◌, ◌<◌}
use mathlib.Core.Path.{◌≡◌, refl, sym, ap, ◌∙◌}
use mathlib.Core.Bool.{true}
use mathlib.Core.List.{List, [], ◌∷◌, ◌++◌, append_assoc, append-nil}
use native.Mathlib.Omega.{arith}
use native.Mathlib.Nat.{not-suc-le-zero, le_of_suc-le-suc}
use native.Mathlib.Numerals.{add-one}
use mathlib.Core.Bool.{cond}
use lib.ListN.{length, get_or, take, drop, length-append}
use lib.Seq.{drop-append-add, take_at}
use Rattle.operations.specs.Listed.{is_listed}
use Rattle.operations.specs.declared.operation.Operation.{Operation}
use Rattle.program.specs.Bytes.{over}
use Rattle.program.specs.Accept.{operations_refusal, fields_refusal}
use Rattle.program.specs.Answer.{first_of}
use Rattle.program.specs.File.{blocks_refusal, operation_count, file_refusal}
use Rattle.program.specs.Layout.{bytes_of, operation_in as operation_in_bytes, operations_in}
use Rattle.program.specs.Placement.{is_placed}
use Rattle.program.specs.declared.layout.Layout.TheVariants.{Blocks}
use Rattle.program.proofs.Answers.{then_first, then_second, first_none}
use Rattle.program.proofs.Places.{operations_length}
use Rattle.program.proofs.Slices.{part_in}
use Rattle.operations.proofs.Operations.{taken_bytes}
use Rattle.form.specs.Words.{words_of_bytes, words_for, coded_at}
use Rattle.form.specs.Form.{form_of}
use Rattle.form.proofs.Again.{operation_again}

pub bytes_words_length : (b : List ℕ) → length (words_of_bytes b) ≡ 16
unfolding words_of_bytes
bytes_words_length b = refl

pub words_length : (o : Operation) → length (words_for o) ≡ 16
unfolding words_for
words_length o = bytes_words_length _

pub form_length : (p : List Operation) → length (form_of p) ≡ 16 * length p
form_length [] = refl
form_length (o ∷ p) = length-append (words_for o) (form_of p) ∙ omega (arith, words_length o, form_length p)

-- one operation more
pub form_more : (p : List Operation) (o : Operation) → form_of (p ++ (o ∷ [])) ≡ form_of p ++ words_for o
form_more [] o = append-nil (words_for o)
form_more (q ∷ p) o = rw (form_more p o) (sym (append_assoc (words_for q) (form_of p) (words_for o)))

-- the words of operation i of a program
pub form_nth : (p : List Operation) (i : ℕ) (d : Operation) → i < length p → take 16 (drop (16 * i) (form_of p)) ≡ words_for (get_or p i d)
form_nth [] i d l = absurd (not-suc-le-zero l)
form_nth (o ∷ p) zero d l = take_at (words_for o) (form_of p) 16 (words_length o)
form_nth (o ∷ p) (suc i) d l =
    let next : 16 * suc i ≡ length (words_for o) + 16 * i = omega (arith, words_length o) in
    rw (next, drop-append-add (words_for o) (form_of p) (16 * i)) (form_nth p i d (le_of_suc-le-suc l))

-- the first 16 words for each operation are the program's
pub record Holds (code : List ℕ) (p : List Operation) : Type 0 where
  pub words : take (16 * length p) code ≡ form_of p

module _ {code : List ℕ} {p : List Operation} (holds : Holds code p) (i : ℕ) (d : Operation) (l : i < length p) where
  pub held_words : take 16 (drop (16 * i) code) ≡ words_for (get_or p i d)
  held_words =
      sym (part_in 16 (16 * i) (16 * length p) 0 (16 * i) code (omega arith) (omega arith))
      ∙ ap (λ (s : List ℕ). take 16 (drop (16 * i) s)) holds.words
      ∙ form_nth p i d l

  pub held_operation : is_listed (get_or p i d) ≡ true → coded_at code (16 * i) ≡ get_or p i d
  held_operation e = operation_again code (16 * i) (get_or p i d) e held_words

-- what decoding leaves holds the program
pub over_holds : (p : List Operation) (code old : List ℕ) → code ≡ over (form_of p) old → Holds code p
over_holds p code old e = record { words = rw e (take_at (form_of p) (drop (length (form_of p)) old) (16 * length p) (form_length p)) }

-- ---- a file that is not refused

module _ (file : List ℕ) (accepted : file_refusal file ≡ 0) where
  -- the words of the first operations
  pub first_length : (i : ℕ) → length (form_of (operations_in Blocks file i)) ≡ 16 * i
  first_length i = form_length (operations_in Blocks file i) ∙ rw (operations_length Blocks file i)

  pub bytes_again : (i : ℕ) → i < operation_count file → words_for (operation_in_bytes Blocks file i) ≡ words_of_bytes (bytes_of Blocks file i)
  unfolding file_refusal operations_refusal words_for
  bytes_again i l =
      let n : ℕ = operation_count file in
      let fields : ℕ = first_of (fields_refusal Blocks file) n in
      let places : ℕ = cond (is_placed (operations_in Blocks file n)) 0 5 in
      let operations : operations_refusal Blocks file n ≡ 0 = then_second (blocks_refusal file) (operations_refusal Blocks file n) accepted in
      ap words_of_bytes (taken_bytes (bytes_of Blocks file i) (first_none (fields_refusal Blocks file) n i l (then_first fields places operations)))

  -- one more
  pub first_more : (i : ℕ) → i < operation_count file
      → form_of (operations_in Blocks file (i + 1)) ≡ form_of (operations_in Blocks file i) ++ words_of_bytes (bytes_of Blocks file i)
  first_more i l = rw add-one (form_more (operations_in Blocks file i) (operation_in_bytes Blocks file i) ∙ rw (bytes_again i l))
