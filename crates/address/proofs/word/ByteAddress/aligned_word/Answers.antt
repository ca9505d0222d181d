-- `ByteAddress::aligned_word` meets its contract: half the distance from word 0, with its lowest bit for its highest. Assumes nothing.
use Rattle.std.proofs.Common.{◌≡◌, ℕ, ◌+◌, ◌%◌, ◌<◌, ◌^◌, mod-lt, arith, lit<, w16, Fits, rules}
use Rattle.address.proofs.Words.{number_address, address_number}
use Rattle.address.proofs.word.ByteAddress.aligned_word.Goals as goal

pub returns : goal.returns
returns c =
    let a = c.args.self.0 in
    let small : Fits w16 a = search rules in
    let far : ℕ = (a + 61440) % 65536 in
    let near : far < 2 ^ 16 = mod-lt (a + 61440) (lit< tt) in
    let back : (far + 0x1000) % 2 ^ 16 ≡ a = omega (arith, small.fits) in
    record { self_value = number_address a far near back; by_index = address_number a far near back }
