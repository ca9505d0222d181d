-- The joined file loads, and its program is the joined program. Assumes nothing.
use Prim.Native.Nat.{ℕ, ◌*◌, ◌/◌, ◌%◌, ◌<◌}
use mathlib.Core.List.{List}
use mathlib.Core.Path.{◌≡◌, ap, ◌∙◌}
use native.Mathlib.Nat.{le_refl}
use native.Mathlib.Omega.{arith}
use borrow.Author.Tests.{eq-eqb, le-leb}
use lib.ListN.{length}
use lib.Seq.{ext_get_or}
use Rattle.operations.specs.Decode.{operation_of, decode_of, decoded_number}
use Rattle.operations.specs.declared.operation.Operation.{Operation}
use Rattle.operations.specs.declared.operation.Operation.TheVariants.{EndEarly}
use Rattle.operations.proofs.Operations.{operation_encode, decode_encode}
use Rattle.program.specs.Layout.{operations_in}
use Rattle.program.specs.Accept.{fields_refusal, operations_refusal}
use Rattle.program.specs.File.{file_refusal, operation_count, program_of, load_refusal}
use Rattle.program.specs.Write.{blocks_for, file_of, program_refusal}
use Rattle.program.specs.declared.layout.Layout.TheVariants.{Consecutive}
use Rattle.program.proofs.Answers.{then_first, first_all, room_fits}
use Rattle.program.proofs.Places.{count_range, operations_length, operation_nth}
use Rattle.program.proofs.Accepted.{accepted_blocks, program_length, program_placed, write_fits}
use Rattle.program.proofs.RoundTrip.{write_then_load}
use Rattle.machine.specs.Step.{operation_at}
use Rattle.legs.proofs.Fits.{file_listed}
use Rattle.join.specs.Join.{joined, encoded, joined_bytes, joined_file, Joinable}
use Rattle.join.proofs.Bytes.{encoded_length, encoded_at}
use Rattle.join.proofs.Whole.{Accepted, joined_accepted}

-- ---- an accepted program's file

module _ (p : List Operation) (ok : Accepted p) where
  abbrev bytes : List ℕ
  bytes = encoded p

  encoded_operations : operations_in Consecutive bytes (length p) ≡ p
  encoded_operations =
      ext_get_or EndEarly (operations_in Consecutive bytes (length p)) p (operations_length Consecutive bytes (length p))
      (λ i l.
      let k : i < length p = rw (operations_length Consecutive bytes (length p)) at l in
      operation_nth Consecutive bytes (length p) i EndEarly k ∙ ap operation_of (encoded_at p i k) ∙ operation_encode (operation_at p i) (ok.listed i k))

  encoded_count : length bytes / 8 ≡ length p
  encoded_count = omega (arith, encoded_length p)

  encoded_accepted : program_refusal bytes ≡ 0
  unfolding program_refusal operations_refusal
  encoded_accepted =
      let long = encoded_length p in
      let some = ok.some in
      let few = ok.few in
      rw (
        eq-eqb (length bytes % 8) 0 (omega arith),
        le-leb 1 (length bytes / 8) (omega arith),
        le-leb (length bytes / 8) 4032 (omega arith),
        encoded_count,
        first_all (fields_refusal Consecutive bytes) (length p)
            (λ i l. ap (λ (b : List ℕ). decoded_number (decode_of b)) (encoded_at p i l) ∙ ap decoded_number (decode_encode (operation_at p i) (ok.listed i l))),
        encoded_operations,
        ok.placed,
      )

  -- its file loads, and gives the program back
  pub accepted_loads : (file_refusal (file_of bytes) ≡ 0) × (program_of (file_of bytes) ≡ p)
  unfolding load_refusal
  accepted_loads =
      let room : ℕ = 512 * blocks_for (length bytes) in
      let (load, bodies, program) = write_then_load bytes room (length bytes) (write_fits bytes encoded_accepted room (le_refl room)) in (
        then_first (file_refusal (file_of bytes)) _ (load ∙ room_fits (length bytes) (length bytes) (le_refl (length bytes))),
        program ∙ rw encoded_count encoded_operations,
      )

-- ---- two accepted files

pub file_accepted : (file : List ℕ) → file_refusal file ≡ 0 → Accepted (program_of file)
file_accepted file ok =
    let long : length (program_of file) ≡ operation_count file = program_length file ok in
    let (some, few) = count_range file (accepted_blocks file ok) in
    record {
      some = omega arith;
      few = omega arith;
      listed = file_listed file ok;
      placed = program_placed file ok;
    }

-- the joined file must load
pub joined_loads : (first second : List ℕ) (n : ℕ) → Joinable first second n
    → (file_refusal (joined_file first second) ≡ 0) × (program_of (joined_file first second) ≡ joined (program_of first) (program_of second))
unfolding joined_file joined_bytes
joined_loads first second n h =
    let p = program_of first in
    let q = program_of second in
    accepted_loads (joined p q)
    (joined_accepted p q (file_accepted first h.first_accepted) (file_accepted second h.second_accepted)
    (omega (arith, program_length first h.first_accepted, program_length second h.second_accepted, h.count, h.few)))
