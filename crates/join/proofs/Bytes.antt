-- The bytes of a joined program, operation by operation. Assumes nothing.
use Prim.Native.Nat.{ℕ, zero, suc, ◌+◌, ◌-◌, ◌*◌, ◌/◌, ◌%◌, ◌≤◌, ◌<◌, min}
use mathlib.Core.List.{List, [], ◌∷◌, ◌++◌}
use mathlib.Core.Path.{◌≡◌, refl, sym, ap, ◌∙◌}
use native.Mathlib.Omega.{arith}
use lib.ListN.{length, set, take, drop, length-take, length-drop, length-append}
use lib.Seq.{take_at, drop-append-add, take-add, drop-drop}
use Rattle.operations.specs.Encode.{encode_of}
use Rattle.operations.specs.declared.operation.Operation.{Operation}
use Rattle.operations.proofs.Operations.{encode_length}
use Rattle.program.specs.File.{operation_count, program_of}
use Rattle.program.specs.Layout.{bytes_of}
use Rattle.program.specs.Placement.{role_of, role_at, last_of}
use Rattle.program.specs.Write.{part_at}
use Rattle.program.specs.declared.layout.Layout.TheVariants.{Consecutive}
use Rattle.program.specs.declared.placement.Role.TheVariants.{Loops}
use Rattle.program.proofs.Accepted.{program_length, program_placed}
use Rattle.program.proofs.Placed.{LoopPlaced, role_is, loop_placed, last_below}
use Rattle.program.proofs.Slices.{take_min}
use Rattle.machine.specs.Step.{operation_at}
use Rattle.join.specs.Join.{moved_operation, joined, encoded, joined_bytes, Joinable}
use Rattle.join.proofs.Moved.{by_moved, joined_length, first_operation, second_operation}

-- ---- operations as bytes

pub encoded_length : (p : List Operation) → length (encoded p) ≡ 8 * length p
encoded_length [] = refl
encoded_length (o ∷ p) = length-append (encode_of o) (encoded p) ∙ omega (arith, encode_length o, encoded_length p)

pub encoded_at : (p : List Operation) (i : ℕ) → i < length p → bytes_of Consecutive (encoded p) i ≡ encode_of (operation_at p i)
encoded_at [] i l = absurd (omega arith)
encoded_at (o ∷ p) zero l = take_at (encode_of o) (encoded p) 8 (encode_length o)
encoded_at (o ∷ p) (suc i) l =
    let past : 8 * suc i ≡ length (encode_of o) + 8 * i = omega (arith, encode_length o) in
    rw (past, drop-append-add (encode_of o) (encoded p) (8 * i)) (encoded_at p i (omega arith))

-- ---- an operation moved

-- one that is no DO stays
moved_still : (n : ℕ) (o : Operation) → last_of (role_of o) ≡ 0 → (role_of o ≡ Loops 0 → ⊥) → moved_operation n o ≡ o
moved_still n =
    by_moved n (λ o o'. last_of (role_of o) ≡ 0 → (role_of o ≡ Loops 0 → ⊥) → o' ≡ o) (λ o e z h f. refl) (λ count last h f. absurd (f (ap Loops h)))
    (λ r last h f. absurd (f (ap Loops h)))

-- a DO's last stands in bytes 4 and 5
moved_bytes : (n : ℕ) (o : Operation) → 0 < last_of (role_of o)
    → set (set (encode_of o) 4 ((n + last_of (role_of o)) % 256)) 5 ((n + last_of (role_of o)) / 256) ≡ encode_of (moved_operation n o)
unfolding encode_of
moved_bytes n =
    by_moved n
    (λ o o'. 0 < last_of (role_of o) → set (set (encode_of o) 4 ((n + last_of (role_of o)) % 256)) 5 ((n + last_of (role_of o)) / 256) ≡ encode_of o')
    (λ o e z l. absurd (omega arith)) (λ count last l. refl) (λ r last l. refl)

-- ---- of two files

module _ (first second : List ℕ) (n : ℕ) (h : Joinable first second n) where
  abbrev p : List Operation
  p = program_of first

  abbrev q : List Operation
  q = program_of second

  long : length p ≡ n
  long = program_length first h.first_accepted ∙ sym h.count

  long' : length q ≡ operation_count second
  long' = program_length second h.second_accepted

  total : length (joined p q) ≡ n + operation_count second
  total = joined_length p q ∙ rw (long, long')

  pub bytes_length : length (joined_bytes first second) ≡ 8 * (n + operation_count second)
  unfolding joined_bytes
  bytes_length = encoded_length (joined p q) ∙ ap (λ (k : ℕ). 8 * k) total

  -- an operation of the first
  pub first_bytes : (i : ℕ) → i < n → encode_of (operation_at p i) ≡ bytes_of Consecutive (joined_bytes first second) i
  unfolding joined_bytes
  first_bytes i l =
      ap encode_of (sym (first_operation p q i (rw long l)))
      ∙ sym (encoded_at (joined p q) i (omega (arith, total)))

  -- one of the second, moved
  pub second_bytes : (i : ℕ) → n ≤ i → i < n + operation_count second
      → encode_of (moved_operation n (operation_at q (i - n))) ≡ bytes_of Consecutive (joined_bytes first second) i
  unfolding joined_bytes
  second_bytes i lo hi =
      let at : length p + (i - n) ≡ i = omega (arith, long) in
      ap (λ (k : ℕ). encode_of (moved_operation k (operation_at q (i - n)))) (sym long)
      ∙ ap encode_of (sym (second_operation p q (i - n)))
      ∙ ap (λ (k : ℕ). encode_of (operation_at (joined p q) k)) at
      ∙ sym (encoded_at (joined p q) i (omega (arith, total)))

  -- one that is no DO
  pub still_bytes : (i last : ℕ) → n ≤ i → i < n + operation_count second → last ≡ last_of (role_at q (i - n)) → last ≡ 0
      → encode_of (operation_at q (i - n)) ≡ bytes_of Consecutive (joined_bytes first second) i
  still_bytes i last lo hi is e =
      let j = i - n in
      ap encode_of
      (sym (moved_still n (operation_at q j) (ap last_of (sym (role_is q j)) ∙ sym is ∙ e)
      (λ z.
      let placed : LoopPlaced q j 0 = loop_placed q (program_placed second h.second_accepted) j 0 (omega (arith, long')) (role_is q j ∙ z) in
      let room : j + 2 ≤ 0 = placed.room in
      omega arith)))
      ∙ second_bytes i lo hi

  -- a DO
  pub loop_bytes : (i last : ℕ) → n ≤ i → i < n + operation_count second → last ≡ last_of (role_at q (i - n)) → 0 < last
      → set (set (encode_of (operation_at q (i - n))) 4 ((n + last) % 256)) 5 ((n + last) / 256) ≡ bytes_of Consecutive (joined_bytes first second) i
  loop_bytes i last lo hi is some =
      let o = operation_at q (i - n) in
      let same : last ≡ last_of (role_of o) = is ∙ ap last_of (role_is q (i - n)) in
      rw same (moved_bytes n o (rw same at some)) ∙ second_bytes i lo hi

  -- a last operation is below the count
  pub last_most : (j last : ℕ) → j < operation_count second → last ≡ last_of (role_at q j) → last < operation_count second
  last_most j last l is = omega (arith, long', last_below q (program_placed second h.second_accepted) j (rw long' l))

  -- so is that of an operation itself
  pub last_inside : (j : ℕ) → j < operation_count second → last_of (role_of (operation_at q j)) < operation_count second
  last_inside j l = omega (arith, last_most j (last_of (role_at q j)) l refl, ap last_of (role_is q j))

-- ---- operations one after the other

pub part_next : (l : List ℕ) (from j : ℕ) → take (8 * (j + 1)) (drop (8 * from) l) ≡ take (8 * j) (drop (8 * from) l) ++ bytes_of Consecutive l (from + j)
part_next l from j =
    let more : 8 * (j + 1) ≡ 8 * j + 8 = omega arith in
    let past : 8 * from + 8 * j ≡ 8 * (from + j) = omega arith in
    ap (λ (k : ℕ). take k (drop (8 * from) l)) more
    ∙ take-add (8 * j) 8 (drop (8 * from) l)
    ∙ ap (λ (r : List ℕ). take (8 * j) (drop (8 * from) l) ++ take 8 r) (drop-drop (8 * j) (8 * from) l ∙ ap (λ (k : ℕ). drop k l) past)

pub part_length : (l : List ℕ) (from j : ℕ) → 8 * (from + j) ≤ length l → 8 * j ≡ length (take (8 * j) (drop (8 * from) l))
part_length l from j h = simp (length-take, length-drop) (omega arith)

module _ (first second : List ℕ) (n : ℕ) (h : Joinable first second n) where
  -- the operations of block k
  pub joined_part : (k some : ℕ) → some ≡ min 63 (n + operation_count second - 63 * k)
      → take (8 * some) (drop (8 * (63 * k)) (joined_bytes first second)) ≡ part_at (joined_bytes first second) k
  joined_part k some is =
      let bytes = joined_bytes first second in
      let at : 8 * (63 * k) ≡ 504 * k = omega arith in
      let size : 8 * some ≡ min 504 (length (drop (504 * k) bytes)) = omega (arith, length-drop (504 * k) bytes, bytes_length first second n h) in
      rw (at, size) (take_min 504 (drop (504 * k) bytes))
