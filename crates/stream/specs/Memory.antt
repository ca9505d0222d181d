-- Words of memory, 2 bytes each.
use Rattle.std.specs.Prelude.{ℕ, zero, suc, ◌*◌, List, [], ◌∷◌, ◌++◌}
use Rattle.stream.specs.Header.{two_bytes_at}

-- the first n words
abbrev pub memory_in : List ℕ → ℕ → List ℕ
memory_in bytes zero = []
memory_in bytes (suc n) = memory_in bytes n ++ (two_bytes_at bytes (2 * n) ∷ [])
