-- Refusals 6 and 7, an accumulator written, reset, restart and SR, each value worked out by hand from document 01. Assumes nothing.
use Prim.Native.Nat.{ℕ, ◌+◌, ◌-◌, ◌^◌}
use mathlib.Core.Path.{◌≡◌, refl}
use mathlib.Core.Bool.{Bool, true, false}
use mathlib.Core.List.{List, [], ◌∷◌, map}
use lib.IntN.{ℤ, pos}
use lib.ListN.{set, replicate}
use Rattle.integers.specs.Range.{minus, lowest, highest, outside}
use Rattle.accumulator.specs.Mode.{is_good_mode}
use Rattle.accumulator.specs.declared.mode.Target.TheVariants.{A, B}
use Rattle.accumulator.specs.Limit.{is_accumulator}
use Rattle.accumulator.specs.Status.{status_of}
use Rattle.address.specs.Word.{word_of}
use Rattle.address.specs.Region.{is_inside}
use Rattle.address.specs.Reversal.{width_up_to, width_of, is_power}
use Rattle.operations.specs.declared.operation.Operation.{Operation}
use Rattle.operations.specs.declared.operation.Operation.TheVariants.{Literal, Repeat, RepeatRegister, Do, DoRegister}
use Rattle.state.specs.Settings.{is_trap_word, is_parted, is_buffer_in, is_circular_in, is_reversed, are_settings, settings_refusal}
use Rattle.state.specs.State.{with_written, reset_state, restarted_state, state_status}
use Rattle.state.specs.Accept.{are_loops, is_repeat_left, is_state, state_refusal}
use Rattle.state.specs.declared.settings.Circular.{Circular}
use Rattle.state.specs.declared.settings.Settings.{Settings}
use Rattle.state.specs.declared.state.Loops.{Loops}
use Rattle.state.specs.declared.state.State.{State}
use Rattle.state.proofs.Made.{slots}

-- ---- refusal 6

-- opened: 6 of settings for a memory of so many words
unfoldable pub six : Settings → ℕ → ℕ
unfolding settings_refusal are_settings is_parted is_trap_word is_circular_in is_buffer_in is_reversed is_power width_of width_up_to is_inside word_of
six s words = settings_refusal s words

-- a circular register with S and E
abbrev pub circle : ℕ → ℕ → ℕ → Circular
circle r s e = record { register = r; buffer = record { start = record { 0 = s }; last = record { 0 = e } } }

abbrev pub none : Circular
none = circle 15 0 0

-- words of the X part, trap word, X's and Y's register, the bit-reversed register and N
abbrev pub settings_of : ℕ → ℕ → Circular → Circular → ℕ → ℕ → Settings
settings_of xwords traps x y r n = record { xwords = xwords; traps = traps; x = x; y = y; reversed = record { register = r; words = n } }

-- memory 2..30,720 words; of 1 word no X part is good
sizes :
    (map (λ (words : ℕ). six (settings_of 1 0 none none 15 0) words) (0 ∷ 1 ∷ 2 ∷ 3 ∷ 30719 ∷ 30720 ∷ 30721 ∷ 65536 ∷ []) ≡ 6 ∷ 6 ∷ 0 ∷ 0 ∷ 0 ∷ 0 ∷ 6 ∷ 6 ∷ [])
    × (six (settings_of 0 0 none none 15 0) 1 ≡ 6)
unfolding six
sizes = (refl, refl)

-- X part 1..words - 1
x_parts :
    (map (λ (x : ℕ). six (settings_of x 0 none none 15 0) 12) (0 ∷ 1 ∷ 11 ∷ 12 ∷ 13 ∷ []) ≡ 6 ∷ 0 ∷ 0 ∷ 6 ∷ 6 ∷ [])
    × (map (λ (x : ℕ). six (settings_of x 0 none none 15 0) 30720) (1 ∷ 30719 ∷ 30720 ∷ []) ≡ 0 ∷ 0 ∷ 6 ∷ [])
unfolding six
x_parts = (refl, refl)

-- trap word: each bit from 0 to 15 alone; bits 8, 9 and 10 together, and with bit 11 and bit 7
trap_words :
    (map (λ (bit : ℕ). six (settings_of 6 (2 ^ bit) none none 15 0) 12) (0 ∷ 1 ∷ 2 ∷ 3 ∷ 4 ∷ 5 ∷ 6 ∷ 7 ∷ 8 ∷ 9 ∷ 10 ∷ 11 ∷ 12 ∷ 13 ∷ 14 ∷ 15 ∷ [])
    ≡ 6 ∷ 6 ∷ 6 ∷ 6 ∷ 6 ∷ 6 ∷ 6 ∷ 6 ∷ 0 ∷ 0 ∷ 0 ∷ 6 ∷ 6 ∷ 6 ∷ 6 ∷ 6 ∷ [])
    × (map (λ (t : ℕ). six (settings_of 6 t none none 15 0) 12) (0 ∷ 0x700 ∷ 0xf00 ∷ 0x780 ∷ []) ≡ 0 ∷ 0 ∷ 6 ∷ 6 ∷ [])
unfolding six
trap_words = (refl, refl)

-- X's register of 12 words (1000 to 1017 hex), 6 of them X's
abbrev x : ℕ → ℕ → ℕ → ℕ
x r s e = six (settings_of 6 0 (circle r s e) none 15 0) 12

-- X register 0..13 with a buffer and not without; 14 never; 15 with S = E = 0 alone; 16
x_registers :
    (map (λ (r : ℕ). x r 0x1000 0x1005) (0 ∷ 8 ∷ 12 ∷ 13 ∷ 14 ∷ 15 ∷ 16 ∷ 255 ∷ []) ≡ 0 ∷ 0 ∷ 0 ∷ 0 ∷ 6 ∷ 6 ∷ 6 ∷ 6 ∷ [])
    × (map (λ (r : ℕ). x r 0 0) (0 ∷ 13 ∷ 14 ∷ 15 ∷ 16 ∷ []) ≡ 6 ∷ 6 ∷ 6 ∷ 0 ∷ 6 ∷ [])
    × (x 15 0x1000 0 ≡ 6)
    × (x 15 0 1 ≡ 6)
unfolding six
x_registers = (refl, refl, refl, refl)

-- S even, E odd, E - S at least 5: S odd before an odd and an even E; E even; E - S from 3 to 7; E below S
x_buffers :
    (x 8 0x1001 0x1007 ∷ x 8 0x1001 0x1006 ∷ x 8 0x1000 0x1006 ∷ x 8 0x1000 0x1008 ∷ [] ≡ 6 ∷ 6 ∷ 6 ∷ 6 ∷ [])
    × (map (λ (e : ℕ). x 8 0x1000 e) (0x1003 ∷ 0x1004 ∷ 0x1005 ∷ 0x1006 ∷ 0x1007 ∷ []) ≡ 6 ∷ 6 ∷ 0 ∷ 6 ∷ 0 ∷ [])
    × (x 8 0x1008 0x1001 ∷ x 8 0x1008 0x1007 ∷ x 8 0x1010 0x1005 ∷ [] ≡ 6 ∷ 6 ∷ 6 ∷ [])
unfolding six
x_buffers = (refl, refl, refl)

-- in memory: from below it, from its first byte, to its last byte and past it; spanning both parts; in the Y part alone
x_places :
    (x 8 0x0ffe 0x1005 ∷ x 8 0x0ffe 0x1003 ∷ x 8 0 5 ∷ x 8 0x1000 0x1017 ∷ [] ≡ 6 ∷ 6 ∷ 6 ∷ 0 ∷ [])
    × (x 8 0x1012 0x1017 ∷ x 8 0x1012 0x1019 ∷ x 8 0x1018 0x101d ∷ x 8 0x1008 0x100f ∷ x 8 0x100c 0x1017 ∷ [] ≡ 0 ∷ 6 ∷ 6 ∷ 0 ∷ 0 ∷ [])
unfolding six
x_places = (refl, refl)

-- the last byte of the largest memory is FFFF hex; of one word less FFFD
x_large :
    (six (settings_of 6 0 (circle 8 0xfff0 0xffff) none 15 0) 30720 ≡ 0)
    × (six (settings_of 6 0 (circle 8 0xfff0 0xffff) none 15 0) 30719 ≡ 6)
    × (six (settings_of 6 0 (circle 8 0xfff0 0xfffd) none 15 0) 30719 ≡ 0)
unfolding six
x_large = (refl, refl, refl)

-- Y's register of the same memory
abbrev y : ℕ → ℕ → ℕ → ℕ
y r s e = six (settings_of 6 0 none (circle r s e) 15 0) 12

-- Y register 10 and 11 with a buffer and not without; 14 never; 15 with S = E = 0 alone
y_registers :
    (map (λ (r : ℕ). y r 0x100c 0x1011) (0 ∷ 8 ∷ 9 ∷ 10 ∷ 11 ∷ 12 ∷ 13 ∷ 14 ∷ 15 ∷ []) ≡ 6 ∷ 6 ∷ 6 ∷ 0 ∷ 0 ∷ 6 ∷ 6 ∷ 6 ∷ 6 ∷ [])
    × (map (λ (r : ℕ). y r 0 0) (9 ∷ 10 ∷ 11 ∷ 12 ∷ 14 ∷ 15 ∷ []) ≡ 6 ∷ 6 ∷ 6 ∷ 6 ∷ 6 ∷ 0 ∷ [])
    × (y 15 2 0 ≡ 6)
    × (y 15 0 0x1011 ≡ 6)
unfolding six
y_registers = (refl, refl, refl, refl)

-- Y's buffer in the Y part: from the X part's last word, from the X part's end, to memory's last byte and past it; wholly in the X part; shape as X's
y_places :
    (y 10 0x100a 0x1011 ∷ y 10 0x100c 0x1011 ∷ y 11 0x100c 0x1017 ∷ y 11 0x1012 0x1017 ∷ y 11 0x1012 0x1019 ∷ y 10 0x1000 0x1005 ∷ []
    ≡ 6 ∷ 0 ∷ 0 ∷ 0 ∷ 6 ∷ 6 ∷ [])
    × (y 10 0x100d 0x1013 ∷ y 10 0x100c 0x1012 ∷ y 10 0x100c 0x100f ∷ [] ≡ 6 ∷ 6 ∷ 6 ∷ [])
unfolding six
y_places = (refl, refl)

-- X's and Y's registers may be equal
x_and_y : six (settings_of 6 0 (circle 10 0x1000 0x1005) (circle 10 0x100c 0x1011) 15 0) 12 ≡ 0
unfolding six
x_and_y = refl

-- the bit-reversed register and N, where X's is 8
abbrev reversed : ℕ → ℕ → ℕ
reversed r n = six (settings_of 6 0 (circle 8 0x1000 0x1005) (circle 10 0x100c 0x1011) r n) 12

-- 0..13, not X's; Y's is good; 14 never; 15 with N = 0 alone
reversed_registers :
    (map (λ (r : ℕ). reversed r 4) (0 ∷ 7 ∷ 8 ∷ 9 ∷ 10 ∷ 13 ∷ 14 ∷ 15 ∷ 16 ∷ []) ≡ 0 ∷ 0 ∷ 6 ∷ 0 ∷ 0 ∷ 0 ∷ 6 ∷ 6 ∷ 6 ∷ [])
    × (map (λ (r : ℕ). reversed r 0) (0 ∷ 8 ∷ 13 ∷ 14 ∷ 15 ∷ []) ≡ 6 ∷ 6 ∷ 6 ∷ 6 ∷ 0 ∷ [])
    × (reversed 15 1 ≡ 6)
    × (reversed 15 2 ≡ 6)
unfolding six
reversed_registers = (refl, refl, refl, refl)

-- N a power of two 2..1,024
reversed_sizes :
    map (λ (n : ℕ). reversed 13 n) (0 ∷ 1 ∷ 2 ∷ 3 ∷ 4 ∷ 6 ∷ 8 ∷ 12 ∷ 16 ∷ 32 ∷ 64 ∷ 128 ∷ 256 ∷ 512 ∷ 1000 ∷ 1023 ∷ 1024 ∷ 1025 ∷ 2048 ∷ 32768 ∷ [])
    ≡ 6 ∷ 6 ∷ 0 ∷ 6 ∷ 0 ∷ 6 ∷ 0 ∷ 6 ∷ 0 ∷ 0 ∷ 0 ∷ 0 ∷ 0 ∷ 0 ∷ 6 ∷ 6 ∷ 0 ∷ 6 ∷ 6 ∷ 6 ∷ []
unfolding six
reversed_sizes = refl

-- ---- refusal 7

-- opened: 7 of a state and its program
unfoldable pub seven : List Operation → State → ℕ
unfolding state_refusal is_state are_loops is_repeat_left is_accumulator is_good_mode outside lowest highest
seven p s = state_refusal p s

abbrev pub no_loop : Loops
no_loop = slots (replicate 4 0) (replicate 4 0) 0

-- a state of A, B, pc, loops, repeat left, mode word, OA, OB, SA, SB; registers are not judged
abbrev made : ℤ → ℤ → ℕ → Loops → ℕ → ℕ → Bool → Bool → Bool → Bool → State
made a b pc loops due mode oa ob sa sb =
    record {
      core = record { w = replicate 14 0xffff; a = a; b = b; pc = pc; loops = loops; repeat = due; mode = mode; oa = oa; ob = ob };
      sa = sa;
      sb = sb;
    }

-- a state at pc, all else as after reset
abbrev pub placed : ℕ → Loops → ℕ → State
placed pc loops due = made (pos 0) (pos 0) pc loops due 0x20 false false false false

-- an operation that is neither DO nor REPEAT
abbrev o : Operation
o = Literal 0 0

-- three of them
abbrev three : List Operation
three = o ∷ o ∷ o ∷ []

-- of A, B and mode word, all else as after reset
abbrev holding : ℤ → ℤ → ℕ → ℕ
holding a b m = seven three (made a b 0 no_loop 0 m false false false false)

-- A, B 40 bits: each side of both edges
accumulators :
    (map (λ (v : ℤ). holding v (pos 0) 0x20) (pos (2 ^ 39 - 1) ∷ pos (2 ^ 39) ∷ minus (2 ^ 39) ∷ minus (2 ^ 39 + 1) ∷ []) ≡ 0 ∷ 7 ∷ 0 ∷ 7 ∷ [])
    × (map (λ (v : ℤ). holding (pos 0) v 0x20) (pos (2 ^ 39 - 1) ∷ pos (2 ^ 39) ∷ minus (2 ^ 39) ∷ minus (2 ^ 39 + 1) ∷ []) ≡ 0 ∷ 7 ∷ 0 ∷ 7 ∷ [])
unfolding seven
accumulators = (refl, refl)

-- mode word: each bit alone; then reset's, all good bits, US 2, US 3, bit 2 alone and beside all good ones
mode_words :
    (map (λ (bit : ℕ). holding (pos 0) (pos 0) (2 ^ bit)) (0 ∷ 1 ∷ 2 ∷ 3 ∷ 4 ∷ 5 ∷ 6 ∷ 7 ∷ 8 ∷ 9 ∷ 10 ∷ 11 ∷ 12 ∷ 13 ∷ 14 ∷ 15 ∷ [])
    ≡ 0 ∷ 0 ∷ 7 ∷ 7 ∷ 0 ∷ 0 ∷ 0 ∷ 0 ∷ 7 ∷ 7 ∷ 7 ∷ 7 ∷ 0 ∷ 7 ∷ 7 ∷ 7 ∷ [])
    × (map (holding (pos 0) (pos 0)) (0 ∷ 0x20 ∷ 0x10f3 ∷ 0x2000 ∷ 0x3000 ∷ 0x0004 ∷ 0x10f7 ∷ []) ≡ 0 ∷ 0 ∷ 0 ∷ 7 ∷ 7 ∷ 7 ∷ 7 ∷ [])
unfolding seven
mode_words = (refl, refl)

-- flags that do not fit the accumulators, and A beyond 2^31 with SATA, are accepted
any_flags :
    (seven three (made (pos 0) (pos 0) 0 no_loop 0 0x20 true true true true) ≡ 0)
    × (seven three (made (pos (2 ^ 38)) (minus (2 ^ 38 + 1)) 0 no_loop 0 0xc0 false false false false) ≡ 0)
unfolding seven
any_flags = (refl, refl)

-- pc not above count
places : map (λ (pc : ℕ). seven three (placed pc no_loop 0)) (0 ∷ 2 ∷ 3 ∷ 4 ∷ 5 ∷ []) ≡ 0 ∷ 0 ∷ 0 ∷ 7 ∷ 7 ∷ []
unfolding seven
places = refl

-- ---- the loops around pc

-- DO at 1 with last 8, inside it DO at 3 with last 6
abbrev nested : List Operation
nested = o ∷ Do 4 8 ∷ o ∷ DoRegister 2 6 ∷ o ∷ o ∷ o ∷ o ∷ o ∷ o ∷ []

-- refusals with these loops at pc from 0 to 11
abbrev anywhere : Loops → List ℕ
anywhere l = map (λ (pc : ℕ). seven nested (placed pc l 0)) (0 ∷ 1 ∷ 2 ∷ 3 ∷ 4 ∷ 5 ∷ 6 ∷ 7 ∷ 8 ∷ 9 ∷ 10 ∷ 11 ∷ [])

-- one loop, and two, with 5 and 7 passes
abbrev one : ℕ → Loops
one d = slots (d ∷ 0 ∷ 0 ∷ 0 ∷ []) (5 ∷ 0 ∷ 0 ∷ 0 ∷ []) 1

abbrev two : ℕ → ℕ → Loops
two d d' = slots (d ∷ d' ∷ 0 ∷ 0 ∷ []) (5 ∷ 7 ∷ 0 ∷ 0 ∷ []) 2

-- d < pc <= e: no loop at 0, 1, 9 and 10; the outer alone at 2, 3, 7 and 8; both at 4, 5 and 6
around :
    (anywhere no_loop ≡ 0 ∷ 0 ∷ 7 ∷ 7 ∷ 7 ∷ 7 ∷ 7 ∷ 7 ∷ 7 ∷ 0 ∷ 0 ∷ 7 ∷ [])
    × (anywhere (one 1) ≡ 7 ∷ 7 ∷ 0 ∷ 0 ∷ 7 ∷ 7 ∷ 7 ∷ 0 ∷ 0 ∷ 7 ∷ 7 ∷ 7 ∷ [])
    × (anywhere (two 1 3) ≡ 7 ∷ 7 ∷ 7 ∷ 7 ∷ 0 ∷ 0 ∷ 0 ∷ 7 ∷ 7 ∷ 7 ∷ 7 ∷ 7 ∷ [])
unfolding seven
around = (refl, refl, refl)

-- swapped, the inner alone, one of them twice, a number that is no DO's or another's: nowhere
not_around :
    (anywhere (two 3 1) ≡ replicate 12 7)
    × (anywhere (one 3) ≡ replicate 12 7)
    × (anywhere (two 1 1) ≡ replicate 12 7)
    × (anywhere (two 3 3) ≡ replicate 12 7)
    × (anywhere (one 0) ≡ replicate 12 7)
    × (anywhere (one 2) ≡ replicate 12 7)
    × (anywhere (two 1 4) ≡ replicate 12 7)
    × (anywhere (slots (1 ∷ 3 ∷ 3 ∷ 0 ∷ []) (5 ∷ 7 ∷ 7 ∷ 0 ∷ []) 3) ≡ replicate 12 7)
unfolding seven
not_around = (refl, refl, refl, refl, refl, refl, refl, refl)

-- loops one after the other: DO at 0 with last 2, DO at 3 with last 5
one_after_other :
    (map (λ (pc : ℕ). seven (Do 0 2 ∷ o ∷ o ∷ Do 0 5 ∷ o ∷ o ∷ []) (placed pc (one 0) 0)) (0 ∷ 1 ∷ 2 ∷ 3 ∷ 4 ∷ 5 ∷ 6 ∷ []) ≡ 7 ∷ 0 ∷ 0 ∷ 7 ∷ 7 ∷ 7 ∷ 7 ∷ [])
    × (map (λ (pc : ℕ). seven (Do 0 2 ∷ o ∷ o ∷ Do 0 5 ∷ o ∷ o ∷ []) (placed pc (one 3) 0)) (0 ∷ 1 ∷ 2 ∷ 3 ∷ 4 ∷ 5 ∷ 6 ∷ []) ≡ 7 ∷ 7 ∷ 7 ∷ 7 ∷ 0 ∷ 0 ∷ 7 ∷ [])
    × (map (λ (pc : ℕ). seven (Do 0 2 ∷ o ∷ o ∷ Do 0 5 ∷ o ∷ o ∷ []) (placed pc no_loop 0)) (0 ∷ 1 ∷ 2 ∷ 3 ∷ 4 ∷ 5 ∷ 6 ∷ []) ≡ 0 ∷ 7 ∷ 7 ∷ 0 ∷ 7 ∷ 7 ∷ 0 ∷ [])
unfolding seven
one_after_other = (refl, refl, refl)

-- DOs of this kind at 0 to 4 with lasts 10 to 6: four loops around 4 and 7, five around 5 and 6
abbrev five_by : (ℕ → Operation) → List Operation
five_by begin = begin 10 ∷ begin 9 ∷ begin 8 ∷ begin 7 ∷ begin 6 ∷ o ∷ o ∷ o ∷ o ∷ o ∷ o ∷ []

abbrev five : List Operation
five = five_by (Do 0)

-- its four slots with these passes, and how many are in use
abbrev fours : ℕ → ℕ → ℕ → ℕ → ℕ → Loops
fours a b c d depth = slots (0 ∷ 1 ∷ 2 ∷ 3 ∷ []) (a ∷ b ∷ c ∷ d ∷ []) depth

-- refusals with 0, 1, 32,768, 32,769, 65,536 and 65,537 passes left in slot i
abbrev passes_in : (ℕ → Operation) → ℕ → List ℕ
passes_in begin i =
    map (λ (n : ℕ). seven (five_by begin) (placed 4 (slots (0 ∷ 1 ∷ 2 ∷ 3 ∷ []) (set (replicate 4 1) i n) 4) 0)) (0 ∷ 1 ∷ 32768 ∷ 32769 ∷ 65536 ∷ 65537 ∷ [])

-- passes 1..65,536, in each slot in use, whichever kind began the loop; a loop alone
passes :
    (map (passes_in (Do 0)) (0 ∷ 1 ∷ 2 ∷ 3 ∷ []) ≡ replicate 4 (7 ∷ 0 ∷ 0 ∷ 0 ∷ 0 ∷ 7 ∷ []))
    × (map (passes_in (DoRegister 0)) (0 ∷ 1 ∷ 2 ∷ 3 ∷ []) ≡ replicate 4 (7 ∷ 0 ∷ 0 ∷ 0 ∷ 0 ∷ 7 ∷ []))
    × (map (λ (n : ℕ). seven nested (placed 2 (slots (1 ∷ 0 ∷ 0 ∷ 0 ∷ []) (n ∷ 0 ∷ 0 ∷ 0 ∷ []) 1) 0)) (0 ∷ 1 ∷ 65536 ∷ 65537 ∷ []) ≡ 7 ∷ 0 ∷ 0 ∷ 7 ∷ [])
unfolding seven
passes = (refl, refl, refl)

-- at most 4: the four around 4 and 7; inside five loops no number of them; a count of 5 where there are four, and where there are none
at_most_four :
    (map (λ (pc : ℕ). seven five (placed pc (fours 1 1 1 1 4) 0)) (3 ∷ 4 ∷ 5 ∷ 6 ∷ 7 ∷ 8 ∷ []) ≡ 7 ∷ 0 ∷ 7 ∷ 7 ∷ 0 ∷ 7 ∷ [])
    × (map (λ (n : ℕ). seven five (placed 5 (fours 1 1 1 1 n) 0)) (0 ∷ 3 ∷ 4 ∷ 5 ∷ 6 ∷ []) ≡ replicate 5 7)
    × (seven five (placed 5 (slots (0 ∷ 1 ∷ 2 ∷ 3 ∷ 4 ∷ []) (1 ∷ 1 ∷ 1 ∷ 1 ∷ 1 ∷ []) 5) 0) ≡ 7)
    × (seven five (placed 4 (fours 1 1 1 1 5) 0) ≡ 7)
    × (seven three (placed 0 (slots (replicate 4 0) (replicate 4 0) 5) 0) ≡ 7)
unfolding seven
at_most_four = (refl, refl, refl, refl, refl)

-- a slot that is not in use is zero: each of slots 1 to 3 beside one loop, each of four where there is none
unused :
    (seven nested (placed 2 (slots (1 ∷ 0 ∷ 0 ∷ 0 ∷ []) (5 ∷ 0 ∷ 0 ∷ 0 ∷ []) 1) 0) ≡ 0)
    × (map (λ (i : ℕ). seven nested (placed 2 (slots (set (1 ∷ 0 ∷ 0 ∷ 0 ∷ []) i 1) (5 ∷ 0 ∷ 0 ∷ 0 ∷ []) 1) 0)) (1 ∷ 2 ∷ 3 ∷ []) ≡ replicate 3 7)
    × (map (λ (i : ℕ). seven nested (placed 2 (slots (1 ∷ 0 ∷ 0 ∷ 0 ∷ []) (set (5 ∷ 0 ∷ 0 ∷ 0 ∷ []) i 1) 1) 0)) (1 ∷ 2 ∷ 3 ∷ []) ≡ replicate 3 7)
    × (map (λ (i : ℕ). seven nested (placed 0 (slots (set (replicate 4 0) i 1) (replicate 4 0) 0) 0)) (0 ∷ 1 ∷ 2 ∷ 3 ∷ []) ≡ replicate 4 7)
    × (map (λ (i : ℕ). seven nested (placed 0 (slots (replicate 4 0) (set (replicate 4 0) i 1) 0) 0)) (0 ∷ 1 ∷ 2 ∷ 3 ∷ []) ≡ replicate 4 7)
unfolding seven
unused = (refl, refl, refl, refl, refl)

-- ---- repeat left

-- REPEAT at 0 and 3
abbrev repeating : List Operation
repeating = Repeat 0 ∷ o ∷ o ∷ RepeatRegister 0 ∷ o ∷ []

-- refusals with this repeat left at pc from 0 to 5
abbrev due : ℕ → List ℕ
due n = map (λ (pc : ℕ). seven repeating (placed pc no_loop n)) (0 ∷ 1 ∷ 2 ∷ 3 ∷ 4 ∷ 5 ∷ [])

-- 1..65,536 after REPEAT, whatever its count, and 0 elsewhere, also at 0 and at the REPEAT itself
repeats :
    (due 0 ≡ 0 ∷ 7 ∷ 0 ∷ 0 ∷ 7 ∷ 0 ∷ [])
    × (due 1 ≡ 7 ∷ 0 ∷ 7 ∷ 7 ∷ 0 ∷ 7 ∷ [])
    × (due 65536 ≡ 7 ∷ 0 ∷ 7 ∷ 7 ∷ 0 ∷ 7 ∷ [])
    × (due 65537 ≡ 7 ∷ 7 ∷ 7 ∷ 7 ∷ 7 ∷ 7 ∷ [])
unfolding seven
repeats = (refl, refl, refl, refl)

-- in a loop's last place, after REPEAT; a DO before pc is no REPEAT
repeat_in_loop :
    (map (λ (n : ℕ). seven (Do 4 3 ∷ o ∷ Repeat 1 ∷ o ∷ []) (placed 3 (one 0) n)) (0 ∷ 1 ∷ 2 ∷ 3 ∷ []) ≡ 7 ∷ 0 ∷ 0 ∷ 0 ∷ [])
    × (map (λ (n : ℕ). seven (Do 4 3 ∷ o ∷ Repeat 1 ∷ o ∷ []) (placed 1 (one 0) n)) (0 ∷ 1 ∷ []) ≡ 0 ∷ 7 ∷ [])
unfolding seven
repeat_in_loop = (refl, refl)

-- ---- an accumulator written

-- A 5 and B -6, both with O: A or B becomes 1 without O and with S, and the other stays as it was
one_written :
    (with_written (made (pos 5) (minus 6) 0 no_loop 0 0x20 true true false false) A (record { value = pos 1; overflow = false; saturation = true })
    ≡ made (pos 1) (minus 6) 0 no_loop 0 0x20 false true true false)
    × (with_written (made (pos 5) (minus 6) 0 no_loop 0 0x20 true true false false) B (record { value = pos 1; overflow = false; saturation = true })
    ≡ made (pos 5) (pos 1) 0 no_loop 0 0x20 true false false true)
one_written = (refl, refl)

-- ---- reset, restart and SR

-- after reset all is zero except that the mode word is 0020 hex; it is accepted, and its SR is 0
reset :
    (reset_state
    ≡ record {
      core = record { w = replicate 14 0; a = pos 0; b = pos 0; pc = 0; loops = no_loop; repeat = 0; mode = 0x20; oa = false; ob = false };
      sa = false;
      sb = false;
    })
    × (seven nested reset_state ≡ 0)
    × (state_status reset_state ≡ 0)
unfolding seven reset_state state_status status_of
reset = (refl, refl, refl)

-- a restart of a state in a loop, with repeat left 2: pc 0, no loop, repeat left 0; A, B, the mode word and the flags stay
restart :
    restarted_state (made (pos 5) (minus 6) 3 (one 1) 2 0x10f3 true false true false)
    ≡ made (pos 5) (minus 6) 0 no_loop 0 0x10f3 true false true false
unfolding restarted_state
restart = refl

-- SR by the flags OA, OB, SA, SB
abbrev status : Bool → Bool → Bool → Bool → ℕ
status oa ob sa sb = state_status (made (pos 0) (pos 0) 0 no_loop 0 0x20 oa ob sa sb)

-- bit 15 OA, 14 OB, 13 SA, 12 SB, 11 OA or OB, 10 SA or SB
flags :
    status true false false false
    ∷ status false true false false
    ∷ status false false true false
    ∷ status false false false true
    ∷ status true true false false
    ∷ status false false true true
    ∷ status true true true true
    ∷ []
    ≡ 0x8800 ∷ 0x4800 ∷ 0x2400 ∷ 0x1400 ∷ 0xc800 ∷ 0x3400 ∷ 0xfc00 ∷ []
unfolding state_status status_of
flags = refl

-- bit 9 a loop is active, 4 repeat left is not 0, also with 1 run and with 65,536 left; mode, pc and accumulators are not in it
statuses :
    (state_status (placed 2 (one 1) 0) ≡ 0x0200)
    × (state_status (placed 4 (fours 1 1 1 1 4) 0) ≡ 0x0200)
    × (state_status (placed 1 no_loop 1) ≡ 0x0010)
    × (state_status (placed 1 no_loop 65536) ≡ 0x0010)
    × (state_status (made (pos (2 ^ 38)) (pos 0) 3 (one 1) 2 0x10f3 false true true false) ≡ 0x6e10)
unfolding state_status status_of
statuses = (refl, refl, refl, refl, refl)
