-- The header's fields where CASES.md has them: in a header whose byte i is i modulo 251 each field tells its place. Assumes nothing.
use Prim.Native.Nat.{ℕ, zero, suc, ◌+◌, ◌/◌, ◌%◌}
use mathlib.Core.Path.{◌≡◌, refl}
use mathlib.Core.Bool.{Bool, true, false, cond}
use mathlib.Core.List.{List, [], ◌∷◌, ◌++◌, map}
use lib.Dec.{eqb}
use lib.IntN.{pos}
use lib.ListN.{replicate}
use Rattle.integers.specs.Bits.{signed_of}
use Rattle.integers.specs.Range.{minus}
use Rattle.combine.specs.declared.board.Board.{Board}
use Rattle.stream.specs.Header.{file_size, memory_words, budget_in, second_size, lent_words, output_room, what_in, settings_in, state_in, registers_in, loops_in}
use Rattle.stream.specs.Memory.{memory_in}
use Rattle.stream.specs.Boards.{board_in, boards_in}

-- f i, f (i + 1), .. : n numbers
abbrev values_from : (ℕ → ℕ) → ℕ → ℕ → List ℕ
values_from f i zero = []
values_from f i (suc n) = f i ∷ values_from f (suc i) n

-- bytes 0, 1, .., 250, 0, .., 68
abbrev counted : List ℕ
counted = values_from (λ (i : ℕ). i % 251) 0 320

-- F at 0, M at 4, the budget at 8, G at 260, L at 264, R at 268; what is asked for at 111
sizes :
    (file_size counted ≡ 0x03020100)
    × (memory_words counted ≡ 0x07060504)
    × (budget_in counted ≡ 0x0b0a0908)
    × (second_size counted ≡ 0x0c0b0a09)
    × (lent_words counted ≡ 0x100f0e0d)
    × (output_room counted ≡ 0x14131211)
    × (what_in counted ≡ 111)
sizes = (refl, refl, refl, refl, refl, refl, refl)

-- 12 words of X, 14 trap word, 16 X's register, 18 S, 20 E, 22 Y's, 24, 26, 28 the bit-reversed register, 30 N
settings :
    settings_in counted
    ≡ record {
      xwords = 0x0d0c;
      traps = 0x0f0e;
      x = record { register = 16; buffer = record { start = record { 0 = 0x1312 }; last = record { 0 = 0x1514 } } };
      y = record { register = 22; buffer = record { start = record { 0 = 0x1918 }; last = record { 0 = 0x1b1a } } };
      reversed = record { register = 28; words = 0x1f1e };
    }
unfolding settings_in
settings = refl

-- 32 W0 .. W13, 60 A, 68 B, 76 pc, 78 active loops, 80 DO numbers, 88 passes left, 104 repeat left, 108 mode word, 110 flags: 6E hex is OB, SA, SB
state :
    state_in counted
    ≡ record {
      core =
          record {
            w = 0x2120 ∷ 0x2322 ∷ 0x2524 ∷ 0x2726 ∷ 0x2928 ∷ 0x2b2a ∷ 0x2d2c ∷ 0x2f2e ∷ 0x3130 ∷ 0x3332 ∷ 0x3534 ∷ 0x3736 ∷ 0x3938 ∷ 0x3b3a ∷ [];
            a = pos 0x434241403f3e3d3c;
            b = pos 0x4b4a494847464544;
            pc = 0x4d4c;
            loops =
                record {
                  starts = 0x5150 ∷ 0x5352 ∷ 0x5554 ∷ 0x5756 ∷ [];
                  passes = 0x5b5a5958 ∷ 0x5f5e5d5c ∷ 0x63626160 ∷ 0x67666564 ∷ [];
                  depth = 78;
                };
            repeat = 0x6b6a6968;
            mode = 0x6d6c;
            oa = false;
            ob = true;
          };
      sa = true;
      sb = true;
    }
unfolding state_in registers_in loops_in signed_of
state = refl

-- byte 110: bit 0 OA, 1 OB, 2 SA, 3 SB, each by itself; the other bits are none of them
abbrev flags_of : ℕ → List Bool
flags_of f =
    let s = state_in (replicate 110 0 ++ (f ∷ [])) in
    s.core.oa ∷ s.core.ob ∷ s.sa ∷ s.sb ∷ []

one_flag :
    map flags_of (1 ∷ 2 ∷ 4 ∷ 8 ∷ 0xf0 ∷ [])
    ≡ (true ∷ false ∷ false ∷ false ∷ [])
    ∷ (false ∷ true ∷ false ∷ false ∷ [])
    ∷ (false ∷ false ∷ true ∷ false ∷ [])
    ∷ (false ∷ false ∷ false ∷ true ∷ [])
    ∷ (false ∷ false ∷ false ∷ false ∷ [])
    ∷ []
unfolding state_in
one_flag = refl

-- two words, low byte first
two_words : memory_in (1 ∷ 2 ∷ 3 ∷ 4 ∷ []) 2 ≡ 0x0201 ∷ 0x0403 ∷ []
two_words = refl

-- two boards: A 5, SA clear; A -2, SA by a byte that is not 0
abbrev two_boards : List ℕ
two_boards = 5 ∷ 0 ∷ 0 ∷ 0 ∷ 0 ∷ 0 ∷ 0 ∷ 0 ∷ 0 ∷ 254 ∷ 255 ∷ 255 ∷ 255 ∷ 255 ∷ 255 ∷ 255 ∷ 255 ∷ 2 ∷ []

second_board : board_in two_boards 1 ≡ record { a = minus 2; sa = true }
unfolding signed_of
second_board = refl

-- the eight entries of a call with both, and of one with the first alone: past the count A 0, SA clear
abbrev none : Board
none = record { a = pos 0; sa = false }

entries :
    (boards_in two_boards 2 ≡ record { a = pos 5; sa = false } ∷ record { a = minus 2; sa = true } ∷ none ∷ none ∷ none ∷ none ∷ none ∷ none ∷ [])
    × (boards_in two_boards 1 ≡ record { a = pos 5; sa = false } ∷ none ∷ none ∷ none ∷ none ∷ none ∷ none ∷ none ∷ [])
unfolding boards_in signed_of
entries = (refl, refl)

-- eight boards in their order: A of board i is i + 1
eight_boards :
    map (λ (b : Board). b.a) (boards_in (values_from (λ (i : ℕ). cond (eqb (i % 9) 0) (i / 9 + 1) 0) 0 72) 8)
    ≡ pos 1 ∷ pos 2 ∷ pos 3 ∷ pos 4 ∷ pos 5 ∷ pos 6 ∷ pos 7 ∷ pos 8 ∷ []
unfolding boards_in signed_of
eight_boards = refl
