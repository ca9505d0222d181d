-- The mode word (CORCON).
use Rattle.std.specs.Prelude.{ℕ, Bool, ◌&&◌, ◌==◌, nat_lt}
use Rattle.integers.specs.Bits.{bits_at, bit_at}
use Rattle.accumulator.specs.declared.mode.Mode.{Mode}
use Rattle.accumulator.specs.declared.mode.Target.{Target}
use Rattle.accumulator.specs.declared.mode.Target.TheVariants.{A, B}

-- US bits 13-12 (0 signed, 1 unsigned), SATA 7, SATB 6, SATDW 5, ACCSAT 4, RND 1, IF 0
unfoldable pub mode_of : ℕ → Mode
mode_of m =
    record {
      unsigned = (bits_at 12 2 m == 1);
      sata = bit_at 7 m;
      satb = bit_at 6 m;
      satdw = bit_at 5 m;
      accsat = bit_at 4 m;
      rnd = bit_at 1 m;
      integer = bit_at 0 m;
    }

-- other bits (15-14, 11-8, 3-2) and US 2, 3 are bad
unfoldable pub is_good_mode : ℕ → Bool
is_good_mode m = bits_at 14 2 m == 0 && (nat_lt (bits_at 12 2 m) 2 && (bits_at 8 4 m == 0 && bits_at 2 2 m == 0))

-- after reset the mode word is 0020 hex
abbrev pub reset_mode : ℕ
reset_mode = 0x0020

-- an accumulator's saturation is on
unfoldable pub saturates : Mode → Target → Bool
saturates m A = m.sata
saturates m B = m.satb
