-- Combined sums and refusals, each value worked out by hand from document 02. Assumes nothing.
use Prim.Native.Nat.{ℕ, ◌+◌, ◌-◌, ◌^◌}
use mathlib.Core.Bool.{Bool, true, false}
use mathlib.Core.List.{List, [], ◌∷◌}
use mathlib.Core.Path.{◌≡◌, refl}
use lib.IntN.{ℤ, pos}
use lib.ListN.{replicate}
use Rattle.std.specs.Prelude.{Result, Ok, Err}
use Rattle.integers.specs.Floor.{remainder_of}
use Rattle.integers.specs.Bits.{low_bits, signed_of}
use Rattle.integers.specs.Range.{minus, lowest, highest, outside, nearer}
use Rattle.accumulator.specs.Mode.{mode_of, is_good_mode, saturates}
use Rattle.accumulator.specs.Limit.{limit_bits, has_left, kept_of, overflows, write_of, is_accumulator}
use Rattle.accumulator.specs.declared.limit.Accumulator.{Accumulator}
use Rattle.program.specs.declared.answer.Refusal.{Refusal}
use Rattle.combine.specs.Boards.{numbered, are_accumulators, any_set, added, added_up, combined_of, combine_refusal, combine_of}
use Rattle.combine.specs.Call.{Combines}
use Rattle.combine.specs.declared.board.Board.{Board}

-- ---- how the examples are written

-- the call's answer, with all that it comes to opened
unfoldable pub combined : List Board → ℕ → ℕ → Result Accumulator ℕ
unfolding combine_of combine_refusal are_accumulators combined_of added_up added any_set mode_of is_good_mode is_accumulator saturates limit_bits has_left kept_of overflows
    write_of remainder_of low_bits signed_of lowest highest outside nearer
combined boards count mode = combine_of boards count mode

abbrev pub board : ℤ → Bool → Board
board a sa = record { a = a; sa = sa }

-- three boards with SA clear
abbrev three : ℤ → ℤ → ℤ → List Board
three a b c = board a false ∷ board b false ∷ board c false ∷ []

-- A, OA and SA
abbrev pub sum : {E : Type 0} → ℤ → Bool → Bool → Result Accumulator E
sum a oa sa = Ok (record { value = a; overflow = oa; saturation = sa })

-- the largest number of 32 bits
abbrev top : ℕ
top = 2 ^ 31 - 1

-- ---- the sum

-- 2^31 - 1, 1, -1. Limits of 40 bits, saturation off or ACCSAT 1: OA after two boards, and not after three. SATA with ACCSAT 0: the second sum is limited to
-- 2^31 - 1, so that the third is one less. SATB is B's
in_order :
    (combined (three (pos top) (pos 1) (minus 1)) 2 0x00 ≡ sum (pos (2 ^ 31)) true false)
    × (combined (three (pos top) (pos 1) (minus 1)) 3 0x00 ≡ sum (pos top) false false)
    × (combined (three (pos top) (pos 1) (minus 1)) 3 0x90 ≡ sum (pos top) false false)
    × (combined (three (pos top) (pos 1) (minus 1)) 2 0x80 ≡ sum (pos top) false true)
    × (combined (three (pos top) (pos 1) (minus 1)) 3 0x80 ≡ sum (pos (top - 1)) false true)
    × (combined (three (pos top) (pos 1) (minus 1)) 3 0x40 ≡ sum (pos top) false false)
unfolding combined
in_order = (refl, refl, refl, refl, refl, refl)

-- the first sum is 0 + the first board's A, limited too: 2^31 becomes 2^31 - 1, and -2^31 - 1 becomes -2^31
first_limited :
    (combined (three (pos (2 ^ 31)) (minus 1) (pos 0)) 2 0x80 ≡ sum (pos (top - 1)) false true)
    × (combined (three (minus (2 ^ 31 + 1)) (pos 1) (pos 0)) 2 0x80 ≡ sum (minus top) false true)
    × (combined (three (pos (2 ^ 31)) (minus 1) (pos 0)) 2 0x00 ≡ sum (pos top) false false)
unfolding combined
first_limited = (refl, refl, refl)

-- beyond 40 bits: the low 40 bits with saturation off, the nearer limit with SATA and ACCSAT 1
beyond :
    (combined (three (pos (2 ^ 39 - 1)) (pos 1) (pos 0)) 2 0x00 ≡ sum (minus (2 ^ 39)) true true)
    × (combined (three (pos (2 ^ 39 - 1)) (pos 1) (pos 0)) 2 0x90 ≡ sum (pos (2 ^ 39 - 1)) true true)
    × (combined (three (minus (2 ^ 39)) (minus (2 ^ 39)) (pos 7)) 2 0x00 ≡ sum (pos 0) false true)
    × (combined (three (minus (2 ^ 39)) (minus 1) (pos 0)) 2 0x90 ≡ sum (minus (2 ^ 39)) true true)
unfolding combined
beyond = (refl, refl, refl, refl)

-- SA of any board, the first or the last; not of one past the count
any_board :
    (combined (board (pos 5) true ∷ board (pos 6) false ∷ []) 2 0x01 ≡ sum (pos 11) false true)
    × (combined (board (pos 5) false ∷ board (pos 6) true ∷ []) 2 0x01 ≡ sum (pos 11) false true)
    × (combined (board (pos 5) false ∷ board (pos 6) false ∷ board (pos 7) true ∷ []) 2 0x01 ≡ sum (pos 11) false false)
    × (combined (board (pos 5) false ∷ board (pos 6) false ∷ board (pos 7) true ∷ []) 3 0x01 ≡ sum (pos 18) false true)
unfolding combined
any_board = (refl, refl, refl, refl)

-- eight boards, the first of 1 and seven of 10
eight : combined (board (pos 1) false ∷ replicate 7 (board (pos 10) false)) 8 0x1001 ≡ sum (pos 71) false false
unfolding combined
eight = refl

-- ---- refusals

-- 13 for 0, 1 and 9 boards, before 14 and 7; 14 at 2^39 and -2^39 - 1, before 7; 7; a board past the count is not looked at
refusals :
    (combined (three (pos 1) (pos 2) (pos 3)) 0 0x01 ≡ Err 13)
    × (combined (three (pos (2 ^ 39)) (pos 0) (pos 0)) 1 0x04 ≡ Err 13)
    × (combined (replicate 8 (board (pos (2 ^ 39)) false)) 9 0x01 ≡ Err 13)
    × (combined (replicate 8 (board (pos 1) false)) 9 0x01 ≡ Err 13)
    × (combined (three (pos 0) (pos (2 ^ 39)) (pos 0)) 2 0x04 ≡ Err 14)
    × (combined (three (minus (2 ^ 39 + 1)) (pos 0) (pos 0)) 2 0x01 ≡ Err 14)
    × (combined (three (pos 0) (pos 0) (pos (2 ^ 39))) 2 0x04 ≡ Err 7)
    × (combined (three (pos 0) (pos 0) (pos (2 ^ 39))) 2 0x3001 ≡ Err 7)
    × (combined (three (minus (2 ^ 39)) (pos (2 ^ 39 - 1)) (pos (2 ^ 39))) 2 0x01 ≡ sum (minus 1) false false)
unfolding combined
refusals = (refl, refl, refl, refl, refl, refl, refl, refl, refl)

-- ---- what the contract says of these calls

sum_told : (r : Result Accumulator Refusal) (x : Accumulator) → numbered r ≡ Ok x → r ≡ Ok x
sum_told (Ok y) x e = cc
sum_told (Err r) x e = cc

told : (r : Result Accumulator Refusal) → Combines (board (pos 1) false ∷ board (pos 2) false ∷ []) 2 0x01 r
    → r ≡ Ok (record { value = pos 3; overflow = false; saturation = false })
unfolding combined
told r h = sum_told r _ h.answer

told_refused : (r : Result Accumulator Refusal) → Combines [] 1 0x04 r → numbered r ≡ Err 13
unfolding combined
told_refused r h = h.answer
