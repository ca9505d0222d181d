-- A case's header of 320 bytes, by the tables of the case stream: the short form's 112, filled up with zeros, or the long form's. Numbers are low byte first.
use Rattle.std.specs.Prelude.{ℕ, ◌+◌, ◌*◌, ◌^◌, Bool, List, [], ◌∷◌, ℤ, pos, ◌+ℤ◌, ◌*ℤ◌, get_or}
use Rattle.integers.specs.Bits.{bit_at, signed_of}
use Rattle.state.specs.declared.settings.Circular.{Circular}
use Rattle.state.specs.declared.settings.Settings.{Settings}
use Rattle.state.specs.declared.state.Loops.{Loops}
use Rattle.state.specs.declared.state.State.{State}

-- ---- numbers

-- 16 bits
abbrev pub two_bytes_of : ℕ → ℕ → ℕ
two_bytes_of low high = low + 256 * high

-- the 2 bytes from `at` on
abbrev pub two_bytes_at : List ℕ → ℕ → ℕ
two_bytes_at head at = two_bytes_of (get_or head at 0) (get_or head (at + 1) 0)

-- 32 bits
abbrev pub four_bytes_of : ℕ → ℕ → ℕ
four_bytes_of low high = low + 65536 * high

-- the 4 bytes from `at` on
abbrev pub four_bytes_at : List ℕ → ℕ → ℕ
four_bytes_at head at = four_bytes_of (two_bytes_at head at) (two_bytes_at head (at + 2))

-- 64 bits, two's complement: the high half is signed
abbrev pub eight_bytes_of : ℕ → ℕ → ℤ
eight_bytes_of low high = signed_of 32 high *ℤ pos (2 ^ 32) +ℤ pos low

-- the 8 bytes from `at` on
abbrev pub eight_bytes_at : List ℕ → ℕ → ℤ
eight_bytes_at head at = eight_bytes_of (four_bytes_at head at) (four_bytes_at head (at + 4))

-- ---- sizes

-- at 0, 4 bytes: F, the length of the program file
abbrev pub file_size : List ℕ → ℕ
file_size head = four_bytes_at head 0

-- at 4, 4 bytes: M, the words of memory
abbrev pub memory_words : List ℕ → ℕ
memory_words head = four_bytes_at head 4

-- at 8, 4 bytes: the budget; of a load and of a write R, the bytes of lent output
abbrev pub budget_in : List ℕ → ℕ
budget_in head = four_bytes_at head 8

-- at 260, 4 bytes: G, the length of a second file or of a recording
abbrev pub second_size : List ℕ → ℕ
second_size head = four_bytes_at head 260

-- at 264, 4 bytes: L, the words of a lent slice for decoded operations
abbrev pub lent_words : List ℕ → ℕ
lent_words head = four_bytes_at head 264

-- at 268, 4 bytes: R, the bytes of lent output
abbrev pub output_room : List ℕ → ℕ
output_room head = four_bytes_at head 268

-- at 111: what is asked for; from 16 on the case has the long form
abbrev pub what_in : List ℕ → ℕ
what_in head = get_or head 111 0

-- ---- settings

-- a register, a zero byte, S and E
abbrev pub circular_at : List ℕ → ℕ → Circular
circular_at head at =
    record { register = get_or head at 0; buffer = record { start = record { 0 = two_bytes_at head (at + 2) }; last = record { 0 = two_bytes_at head (at + 4) } } }

-- 12 words of the X part, 14 trap word, 16 X's circular register, 22 Y's, 28 the bit-reversed register, 30 its N
unfoldable pub settings_in : List ℕ → Settings
settings_in head =
    record {
      xwords = two_bytes_at head 12;
      traps = two_bytes_at head 14;
      x = circular_at head 16;
      y = circular_at head 22;
      reversed = record { register = get_or head 28 0; words = two_bytes_at head 30 };
    }

-- ---- state

-- 32, 28 bytes: W0 .. W13
unfoldable pub registers_in : List ℕ → List ℕ
registers_in head =
    two_bytes_at head 32
    ∷ two_bytes_at head 34
    ∷ two_bytes_at head 36
    ∷ two_bytes_at head 38
    ∷ two_bytes_at head 40
    ∷ two_bytes_at head 42
    ∷ two_bytes_at head 44
    ∷ two_bytes_at head 46
    ∷ two_bytes_at head 48
    ∷ two_bytes_at head 50
    ∷ two_bytes_at head 52
    ∷ two_bytes_at head 54
    ∷ two_bytes_at head 56
    ∷ two_bytes_at head 58
    ∷ []

-- 78 number of active loops, 80 the DO numbers of the four slots, 88 their passes left
unfoldable pub loops_in : List ℕ → Loops
loops_in head =
    record {
      starts = two_bytes_at head 80 ∷ two_bytes_at head 82 ∷ two_bytes_at head 84 ∷ two_bytes_at head 86 ∷ [];
      passes = four_bytes_at head 88 ∷ four_bytes_at head 92 ∷ four_bytes_at head 96 ∷ four_bytes_at head 100 ∷ [];
      depth = get_or head 78 0;
    }

-- 110, flags: bit 0 OA, 1 OB, 2 SA, 3 SB
abbrev pub flag_in : List ℕ → ℕ → Bool
flag_in head i = bit_at i (get_or head 110 0)

-- at 108, 2 bytes: the mode word
abbrev pub mode_word_in : List ℕ → ℕ
mode_word_in head = two_bytes_at head 108

-- 60 and 68 A and B, 76 pc, 104 repeat left, 108 mode word
unfoldable pub state_in : List ℕ → State
state_in head =
    record {
      core =
          record {
            w = registers_in head;
            a = eight_bytes_at head 60;
            b = eight_bytes_at head 68;
            pc = two_bytes_at head 76;
            loops = loops_in head;
            repeat = four_bytes_at head 104;
            mode = mode_word_in head;
            oa = flag_in head 0;
            ob = flag_in head 1;
          };
      sa = flag_in head 2;
      sb = flag_in head 3;
    }
