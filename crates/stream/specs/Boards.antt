-- The boards of a case that combines stretches, 9 bytes each.
use Rattle.std.specs.Prelude.{ℕ, ◌+◌, ◌*◌, cond, not, List, [], ◌∷◌, map, eqb, ltb, get_or}
use Rattle.combine.specs.Boards.{no_board}
use Rattle.combine.specs.declared.board.Board.{Board}
use Rattle.stream.specs.Header.{eight_bytes_at}

-- board i: A (8 bytes, two's complement) and SA (1 byte, 0 or not 0)
abbrev pub board_in : List ℕ → ℕ → Board
board_in bytes i = record { a = eight_bytes_at bytes (9 * i); sa = not (eqb (get_or bytes (9 * i + 8) 0) 0) }

-- entry i of the call: board i, or of no run from the count on
abbrev pub entry_in : List ℕ → ℕ → ℕ → Board
entry_in bytes count i = cond (ltb i count) (board_in bytes i) no_board

-- the eight entries
unfoldable pub boards_in : List ℕ → ℕ → List Board
boards_in bytes count = map (entry_in bytes count) (0 ∷ 1 ∷ 2 ∷ 3 ∷ 4 ∷ 5 ∷ 6 ∷ 7 ∷ [])
