-- The two halves make 64 bits.
use Rattle.std.proofs.Common.{rules, ◌≡◌, ◌+◌, ◌*◌, ◌<◌, ◌^◌, ◌%◌, w64, to_z, of_z, arith}
use Rattle.stream.proofs.Halves.{halves}
use Rattle.stream.proofs.bytes.eight_bytes_at.Goals as goal

pub returns : goal.returns
returns c =
    let back : to_z w64 (of_z w64 c.cast_signed.result) ≡ c.cast_signed.result = search rules in
    let low = c.four_bytes_at-low.result in
    let high = c.four_bytes_at-high.result in
    let l : low < 2 ^ 32 = search rules in
    let h : high < 2 ^ 32 = search rules in
    let bits : c.from.result + c.from-2.result * 4294967296 % 18446744073709551616 ≡ low + high * 2 ^ 32 = omega arith in
    rw (back, c.cast_signed.ensures, bits, halves low high l h, c.four_bytes_at-low.ensures, c.four_bytes_at-high.ensures)
