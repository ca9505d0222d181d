-- The 16 words of operations and the operations that words are, worked out by hand from document 02, wish 10, by computation of the definitions that
-- the contracts cite. Assumes nothing.
use Prim.Native.Nat.{ℕ}
use mathlib.Core.Path.{◌≡◌, refl}
use mathlib.Core.List.{List, [], ◌∷◌}
use Rattle.accumulator.specs.declared.mode.Target.TheVariants.{B}
use Rattle.operations.specs.declared.operation.Action.TheVariants.{Mac}
use Rattle.operations.specs.declared.operation.Prefetch.TheVariants.{Pointer}
use Rattle.operations.specs.declared.operation.WriteBack.TheVariants.{Memory as ToMemory}
use Rattle.operations.specs.declared.operation.PostModification.TheVariants.{Increment}
use Rattle.operations.specs.declared.operation.Operand.TheVariants.{Memory}
use Rattle.operations.specs.declared.operation.Operation.{Operation}
use Rattle.operations.specs.declared.operation.Operation.TheVariants.{MacClass as MacOperation, Sac, Literal, Do}
use Rattle.operations.specs.Encode.{encode_of}
use Rattle.form.specs.Words.{words_of_bytes, words_for, coded_at}
use Rattle.form.specs.Form.{form_of}

-- ---- the words of 8 bytes

-- b0 to b7 all different, and eight different nibbles in b2 to b5; b7 has no word
eight_bytes :
    words_of_bytes (0xa1 ∷ 0xb2 ∷ 0x34 ∷ 0x12 ∷ 0x78 ∷ 0x56 ∷ 0xc3 ∷ 0xd4 ∷ [])
    ≡ 0xa1 ∷ 0xb2 ∷ 4 ∷ 3 ∷ 2 ∷ 1 ∷ 8 ∷ 7 ∷ 6 ∷ 5 ∷ 0xc3 ∷ 0x1234 ∷ 0x5678 ∷ 0 ∷ 0 ∷ 0 ∷ []
unfolding words_of_bytes
eight_bytes = refl

-- ---- worked operations

-- bytes (hex) 15 0 34 12 78 56 0 0: DO, count 1234 hex, last 5678 hex
abbrev loop : Operation
loop = Do 0x1234 0x5678

abbrev loop_words : List ℕ
loop_words = 21 ∷ 0 ∷ 4 ∷ 3 ∷ 2 ∷ 1 ∷ 8 ∷ 7 ∷ 6 ∷ 5 ∷ 0 ∷ 0x1234 ∷ 0x5678 ∷ 0 ∷ 0 ∷ 0 ∷ []

-- bytes (hex) 3 1 65 39 5b 74 2 0: MAC of W5 and W6 to B, X at W9 with c 3 to W4, Y at W11 with c 5 to W7, write-back to memory at W13
abbrev mac : Operation
mac = MacOperation (record { action = Mac; target = B; m = 5; n = 6; x = Pointer 9 3; xto = 4; y = Pointer 11 5; yto = 7; back = ToMemory })

abbrev mac_words : List ℕ
mac_words = 3 ∷ 1 ∷ 5 ∷ 6 ∷ 9 ∷ 3 ∷ 11 ∷ 5 ∷ 4 ∷ 7 ∷ 2 ∷ 0x3965 ∷ 0x745b ∷ 0 ∷ 0 ∷ 0 ∷ []

-- bytes (hex) 10 d 9a fe 0 0 0 0: literal FE9A hex to W13
abbrev literal : Operation
literal = Literal 13 0xfe9a

abbrev literal_words : List ℕ
literal_words = 16 ∷ 13 ∷ 10 ∷ 9 ∷ 14 ∷ 15 ∷ 0 ∷ 0 ∷ 0 ∷ 0 ∷ 0 ∷ 0xfe9a ∷ 0 ∷ 0 ∷ 0 ∷ 0 ∷ []

-- bytes (hex) e 1 f a 2 0 0 0: SAC of B, shift 7, to memory at W10, then + 2
abbrev store : Operation
store = Sac B 15 (Memory 10 Increment)

abbrev store_words : List ℕ
store_words = 14 ∷ 1 ∷ 15 ∷ 0 ∷ 10 ∷ 0 ∷ 2 ∷ 0 ∷ 0 ∷ 0 ∷ 0 ∷ 0x0a0f ∷ 2 ∷ 0 ∷ 0 ∷ 0 ∷ []

-- the words of each
words : (words_for loop ≡ loop_words) × (words_for mac ≡ mac_words) × (words_for literal ≡ literal_words) × (words_for store ≡ store_words)
unfolding words_for words_of_bytes encode_of
words = (refl, refl, refl, refl)

-- each from its words
operations : (coded_at loop_words 0 ≡ loop) × (coded_at mac_words 0 ≡ mac) × (coded_at literal_words 0 ≡ literal) × (coded_at store_words 0 ≡ store)
unfolding coded_at
operations = (refl, refl, refl, refl)

-- ---- a program of two operations

-- literal FE9A hex to W13, then that MAC
abbrev program_words : List ℕ
program_words =
    16 ∷ 13 ∷ 10 ∷ 9 ∷ 14 ∷ 15 ∷ 0 ∷ 0 ∷ 0 ∷ 0 ∷ 0 ∷ 0xfe9a ∷ 0 ∷ 0 ∷ 0 ∷ 0
    ∷ 3 ∷ 1 ∷ 5 ∷ 6 ∷ 9 ∷ 3 ∷ 11 ∷ 5 ∷ 4 ∷ 7 ∷ 2 ∷ 0x3965 ∷ 0x745b ∷ 0 ∷ 0 ∷ 0 ∷ []

-- its words, operation after operation
program : form_of (literal ∷ mac ∷ []) ≡ program_words
unfolding words_for words_of_bytes encode_of
program = refl

-- its operations, the second from word 16 on
program_operations : (coded_at program_words 0 ≡ literal) × (coded_at program_words 16 ≡ mac)
unfolding coded_at
program_operations = (refl, refl)
