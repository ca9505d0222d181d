-- The status word SR.
use Rattle.std.specs.Prelude.{ℕ, ◌+◌, ◌*◌, ◌^◌, Bool, ◌||◌}
use mir.Val.{bool_byte}
use Rattle.accumulator.specs.declared.status.Status.{Status}

-- bit i where b is true (`bool_byte` is 1 of true and 0 of false)
abbrev pub bit : ℕ → Bool → ℕ
bit i b = bool_byte b * 2 ^ i

-- bit 15 OA, 14 OB, 13 SA, 12 SB, 11 OA or OB, 10 SA or SB, 9 a loop is active, 4 repeat left is not 0; the rest 0
unfoldable pub status_of : Status → ℕ
status_of s =
    bit 15 s.oa
    + (bit 14 s.ob
    + (bit 13 s.sa
    + (bit 12 s.sb
    + (bit 11 (s.oa || s.ob)
    + (bit 10 (s.sa || s.sb)
    + (bit 9 s.looping
    + bit 4 s.repeating))))))
