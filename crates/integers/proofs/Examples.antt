-- The definitions at numbers on both sides of zero and at the ends of their ranges, by computation. Assumes nothing.
use mathlib.Core.Path.{◌≡◌, refl}
use mathlib.Core.Bool.{true, false}
use lib.IntN.{pos}
use Rattle.integers.specs.Floor.{floor_of, remainder_of}
use Rattle.integers.specs.Bits.{low_bits, signed_of, bits_at, bit_at}
use Rattle.integers.specs.Range.{minus, lowest, highest, outside, nearer, limited_to}

-- 7 / 4 is 1 and leaves 3; -7 / 4 is -2 and leaves 1; -8 / 4 is -2 and leaves 0
floors : (floor_of (pos 7) 4 ≡ pos 1) × (floor_of (minus 7) 4 ≡ minus 2) × (floor_of (minus 8) 4 ≡ minus 2)
floors = (refl, refl, refl)

remainders : (remainder_of (pos 7) 4 ≡ pos 3) × (remainder_of (minus 7) 4 ≡ pos 1) × (remainder_of (minus 8) 4 ≡ pos 0)
unfolding remainder_of
remainders = (refl, refl, refl)

-- the low 16 bits of 65,537, -1 and -65,536
lows : (low_bits 16 (pos 65537) ≡ 1) × (low_bits 16 (minus 1) ≡ 0xffff) × (low_bits 16 (minus 65536) ≡ 0)
unfolding low_bits remainder_of
lows = (refl, refl, refl)

-- 7FFF hex is the greatest number of 16 bits, 8000 hex the least, FFFF hex is -1
signs : (signed_of 16 0x7fff ≡ pos 32767) × (signed_of 16 0x8000 ≡ minus 32768) × (signed_of 16 0xffff ≡ minus 1)
unfolding signed_of
signs = (refl, refl, refl)

-- of 2C hex, 101100 in bits: two bits from bit 2 on, bit 3 and bit 4
bits : (bits_at 2 2 0x2c ≡ 3) × (bit_at 3 0x2c ≡ true) × (bit_at 4 0x2c ≡ false)
bits = (refl, refl, refl)

-- -32,768 .. 32,767: both ends, and one beyond each
ranges :
    (outside 15 (minus 32768) ≡ false)
    × (outside 15 (pos 32767) ≡ false)
    × (outside 15 (minus 32769) ≡ true)
    × (outside 15 (pos 32768) ≡ true)
unfolding outside lowest highest
ranges = (refl, refl, refl, refl)

limits : (limited_to 15 (minus 40001) ≡ minus 32768) × (limited_to 15 (pos 40000) ≡ pos 32767) × (limited_to 15 (minus 8) ≡ minus 8)
unfolding limited_to outside nearer lowest highest
limits = (refl, refl, refl)
