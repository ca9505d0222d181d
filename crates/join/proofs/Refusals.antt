-- The call's refusals in their order. Assumes nothing.
use Prim.Native.Nat.{ℕ, ◌+◌, ◌*◌, ◌/◌, ◌≤◌, ◌<◌}
use mathlib.Core.List.{List}
use mathlib.Core.Path.{◌≡◌, refl, sym, ◌∙◌}
use native.Mathlib.Omega.{arith}
use borrow.Author.Tests.{le-leb, lt-leb, leb-true}
use lib.Dec.{leb}
use lib.ListN.{length}
use Rattle.program.specs.Answer.{◌then◌, room_refusal}
use Rattle.program.specs.File.{file_refusal, operation_count}
use Rattle.program.proofs.Answers.{then_first, then_second, cond_zero, room_fits}
use Rattle.program.proofs.Files.{file_length}
use Rattle.join.specs.Join.{joined_bytes, joined_file, together_refusal, join_refusal, Joinable}
use Rattle.join.proofs.Bytes.{bytes_length}

pub join_refusal_lem : (first second : List ℕ) (room : ℕ) → join_refusal first second room
    ≡ file_refusal first then file_refusal second then together_refusal (operation_count first + operation_count second)
    then room_refusal (length (joined_file first second)) room
unfolding join_refusal
join_refusal_lem first second room = refl

module _ (first second : List ℕ) (room : ℕ) (ok : file_refusal first ≡ 0) where
  pub join_second : join_refusal first second room
      ≡ file_refusal second then together_refusal (operation_count first + operation_count second) then room_refusal (length (joined_file first second)) room
  join_second = join_refusal_lem first second room ∙ rw ok

  pub join_together : file_refusal second ≡ 0 → 4032 < operation_count first + operation_count second → join_refusal first second room ≡ 9
  join_together ok' l = join_second ∙ rw (ok', lt-leb (operation_count first + operation_count second) 4032 l)

module _ (first second : List ℕ) (n : ℕ) (h : Joinable first second n) where
  pub joined_size : 512 * ((n + operation_count second + 62) / 63) ≡ length (joined_file first second)
  unfolding joined_file
  joined_size = omega (arith, bytes_length first second n h, file_length (joined_bytes first second))

  join_room : (room : ℕ) → join_refusal first second room ≡ room_refusal (512 * ((n + operation_count second + 62) / 63)) room
  join_room room =
      let few : operation_count first + operation_count second ≤ 4032 = rw h.count at h.few in
      join_second first second room h.first_accepted
      ∙ rw (h.second_accepted, le-leb (operation_count first + operation_count second) 4032 few, ← joined_size)

  pub join_short : (room : ℕ) → room < 512 * ((n + operation_count second + 62) / 63) → join_refusal first second room ≡ 8
  join_short room l = join_room room ∙ rw (lt-leb (512 * ((n + operation_count second + 62) / 63)) room l)

  pub join_fits : (room : ℕ) → 512 * ((n + operation_count second + 62) / 63) ≤ room → join_refusal first second room ≡ 0
  join_fits room l = join_room room ∙ room_fits (512 * ((n + operation_count second + 62) / 63)) room l

-- where nothing is refused the files can be joined
pub join_accepted : (first second : List ℕ) (room : ℕ) → join_refusal first second room ≡ 0 → Joinable first second (operation_count first)
join_accepted first second room e =
    let n = operation_count first + operation_count second in
    let last = room_refusal (length (joined_file first second)) room in
    let rest = together_refusal n then last in
    let all = sym (join_refusal_lem first second room) ∙ e in
    let later = then_second (file_refusal first) (file_refusal second then rest) all in
    record {
      first_accepted = then_first (file_refusal first) (file_refusal second then rest) all;
      second_accepted = then_first (file_refusal second) rest later;
      count = refl;
      few = leb-true n 4032 (cond_zero (leb n 4032) 8 (then_first (together_refusal n) last (then_second (file_refusal second) rest later)));
    }
