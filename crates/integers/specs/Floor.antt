-- Division of whole numbers: the floor, and what it leaves.
use Rattle.std.specs.Prelude.{ℕ, ℤ, pos, ◌-ℤ◌, ◌*ℤ◌}
use Rattle.std.specs.Int.Signed.{shr_z}

-- the floor of v / m
abbrev pub floor_of : ℤ → ℕ → ℤ
floor_of v m = shr_z v m

-- the remainder of v / m, one of 0 .. m - 1
unfoldable pub remainder_of : ℤ → ℕ → ℤ
remainder_of v m = v -ℤ floor_of v m *ℤ pos m
