-- Address sums end at 16 bits: registers that are added, plain steps, and steps in a circular buffer.
use Rattle.std.specs.Prelude.{ℕ, ◌+◌, ◌%◌, ◌^◌, Bool, cond, ◌&&◌, ℤ, pos, ◌+ℤ◌, ◌-ℤ◌, int_lt, nat_le}
use Rattle.integers.specs.Bits.{low_bits}
use Rattle.address.specs.declared.step.Buffer.{Buffer}

-- W9 + W12 and W11 + W13, ended at 16 bits and never corrected
unfoldable pub address_sum : ℕ → ℕ → ℕ
address_sum a w = (a + w) % 2 ^ 16

-- an address stepped where no correction applies, ended at 16 bits
unfoldable pub stepped_of : ℕ → ℤ → ℕ
stepped_of a step = low_bits 16 (pos a +ℤ step)

-- the address is within S..E
abbrev pub is_within : ℕ → ℕ → ℕ → Bool
is_within s e a = nat_le s a && nat_le a e

-- E − S + 1
abbrev pub size_of : ℕ → ℕ → ℤ
size_of s e = pos e -ℤ pos s +ℤ pos 1

-- a stepped address above E loses E − S + 1, below S gains it
unfoldable pub corrected_of : ℕ → ℕ → ℤ → ℤ
corrected_of s e to =
    cond (int_lt (pos e) to) (to -ℤ size_of s e)
    (cond (int_lt to (pos s)) (to +ℤ size_of s e)
    to)

-- circular buffer S..E (E its last byte): if the old address is within, the stepped address is corrected, before reduction to 16 bits
unfoldable pub circular_of : Buffer → ℕ → ℤ → ℕ
circular_of buffer old step =
    let s = buffer.start.0 in
    let e = buffer.last.0 in
    let to = pos old +ℤ step in
    low_bits 16 (cond (is_within s e old) (corrected_of s e to) to)
