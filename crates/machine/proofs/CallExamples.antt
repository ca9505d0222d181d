-- The order of refusals in a call, each value worked out by hand from document 01. Assumes nothing.
use Prim.Native.Nat.{ℕ}
use mathlib.Core.Path.{◌≡◌, refl}
use mathlib.Core.List.{List, ◌∷◌}
use lib.ListN.{drop, set, replicate}
use Rattle.operations.specs.Decode.{operation_of, decode_of}
use Rattle.operations.specs.Encode.{encode_of}
use Rattle.operations.specs.Listed.{is_listed_mac, is_listed}
use Rattle.program.specs.Accept.{operations_refusal}
use Rattle.program.specs.Block.{block_refusal}
use Rattle.program.specs.File.{blocks_refusal, operation_count, file_refusal, program_of}
use Rattle.program.specs.Placement.{is_placed}
use Rattle.state.specs.declared.settings.Settings.{Settings}
use Rattle.state.specs.declared.state.State.{State}
use Rattle.state.proofs.AcceptExamples.{none, settings_of, six, no_loop, placed, seven}
use Rattle.machine.specs.Single.{call_refusal}

-- opened: 1 to 7 of a call
unfoldable pub refused : List ℕ → Settings → State → ℕ → ℕ
unfolding call_refusal six seven file_refusal program_of blocks_refusal block_refusal operation_count operations_refusal decode_of operation_of encode_of
    is_listed is_listed_mac is_placed
refused file settings s words = call_refusal file settings s words

-- one block: number 0, 3 operations, sum 642 (282 hex): literal 3 to W4, literal FFFE hex to W5, MPY of both to A
abbrev pub file : List ℕ
file =
    0 ∷ 0 ∷ 3 ∷ 0 ∷ 0x82 ∷ 2 ∷ 0 ∷ 0
    ∷ 16 ∷ 4 ∷ 3 ∷ 0 ∷ 0 ∷ 0 ∷ 0 ∷ 0
    ∷ 16 ∷ 5 ∷ 0xfe ∷ 0xff ∷ 0 ∷ 0 ∷ 0 ∷ 0
    ∷ 2 ∷ 0 ∷ 0x54 ∷ 0 ∷ 0 ∷ 0 ∷ 0 ∷ 0
    ∷ replicate 480 0

-- the same with byte 3 not zero, with a kind 26, with REPEAT 84 in place of MPY: sums 643, 652 and 659
abbrev header : List ℕ
header = set (set file 3 1) 4 0x83

abbrev kind : List ℕ
kind = set (set file 8 26) 4 0x8c

abbrev repeat_last : List ℕ
repeat_last = set (set file 24 19) 4 0x93

abbrev plain : Settings
plain = settings_of 6 0 none none 15 0

-- refused for trap word bit 11
abbrev bad : Settings
bad = settings_of 6 0x800 none none 15 0

-- nothing; 7 alone, at count + 1 and not at count; 6 alone; 6 before 7, also for the number of words; 1 to 5 before both, and alone
calls :
    (refused file plain (placed 0 no_loop 0) 12 ≡ 0)
    × (refused file plain (placed 3 no_loop 0) 12 ≡ 0)
    × (refused file plain (placed 4 no_loop 0) 12 ≡ 7)
    × (refused file bad (placed 0 no_loop 0) 12 ≡ 6)
    × (refused file bad (placed 4 no_loop 0) 12 ≡ 6)
    × (refused file plain (placed 4 no_loop 0) 6 ≡ 6)
    × (refused (drop 1 file) bad (placed 4 no_loop 0) 12 ≡ 1)
    × (refused (set file 4 0x83) bad (placed 4 no_loop 0) 12 ≡ 2)
    × (refused header bad (placed 4 no_loop 0) 12 ≡ 3)
    × (refused kind bad (placed 4 no_loop 0) 12 ≡ 4)
    × (refused repeat_last bad (placed 4 no_loop 0) 12 ≡ 5)
    × (refused repeat_last plain (placed 0 no_loop 0) 12 ≡ 5)
unfolding refused
calls = (refl, refl, refl, refl, refl, refl, refl, refl, refl, refl, refl, refl)
