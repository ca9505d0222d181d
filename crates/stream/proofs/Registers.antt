-- The words of a header's 28 bytes from 32 on. Assumes nothing.
use Prim.Native.Nat.{ℕ, zero, suc, ◌+◌, ◌*◌, ◌≤◌, ◌<◌}
use mathlib.Core.Path.{◌≡◌, refl}
use mathlib.Core.List.{List, [], ◌∷◌, ◌++◌}
use native.Mathlib.Omega.{arith}
use lib.ListN.{get_or, drop}
use borrow.Rule.Slice.PartMut.{mid_of}
use Rattle.std.proofs.lemmas.List.{get_or-take, get_or-drop}
use Rattle.stream.specs.Header.{two_bytes_at}
use Rattle.stream.specs.Memory.{memory_in}

part_byte : (bytes : List ℕ) (i : ℕ) → i < 28 → get_or (mid_of 32 28 bytes) i 0 ≡ get_or bytes (32 + i) 0
part_byte bytes i h = rw (get_or-take 28 (drop 32 bytes) i 0 h) (get_or-drop 32 bytes i 0)

part_word : (bytes : List ℕ) (i : ℕ) → i + 1 < 28 → two_bytes_at (mid_of 32 28 bytes) i ≡ two_bytes_at bytes (32 + i)
part_word bytes i h =
    let next : 32 + (i + 1) ≡ 32 + i + 1 = omega arith in
    rw (part_byte bytes i (omega arith), part_byte bytes (i + 1) h, next)

-- n words from 32 on
abbrev words_from : List ℕ → ℕ → List ℕ
words_from bytes zero = []
words_from bytes (suc n) = words_from bytes n ++ (two_bytes_at bytes (32 + 2 * n) ∷ [])

pub part_words : (bytes : List ℕ) (n : ℕ) → n ≤ 14 → memory_in (mid_of 32 28 bytes) n ≡ words_from bytes n
part_words bytes zero h = refl
part_words bytes (suc n) h =
    let small : 2 * n + 1 < 28 = omega arith in
    rw (part_words bytes n (omega arith), part_word bytes (2 * n) small)
