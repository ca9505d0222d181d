-- `reversal::next` meets its contract: its parts are the definition's, 2j is at most the address, and the result has 16 bits. Assumes nothing.
use Rattle.std.proofs.Common.{◌^◌, ◌<◌, ◌≤◌, arith, pow_mono, rules}
use Rattle.address.specs.Reversal.{next_of}
use Rattle.address.proofs.Widths.{width_le}
use Rattle.address.proofs.Reversals.{index_within, next_index_below, place_fits}
use Rattle.address.proofs.reversal.next.Goals as goal

pub overflow_mul-to : goal.overflow_mul-to
overflow_mul-to c = omega (arith, c.index-j.ensures, index_within (2 ^ c.of-width.result.b) c.args.a.0)

pub overflow_sub-to : goal.overflow_sub-to
overflow_sub-to c = omega (arith, c.index-j.ensures, index_within (2 ^ c.of-width.result.b) c.args.a.0)

pub overflow_mul-to-2 : goal.overflow_mul-to-2
overflow_mul-to-2 c =
    let b = c.of-width.result.b in
    let width : b ≤ 10 = rw c.of-width.ensures (width_le c.args.n) in
    omega (arith, c.next_index-k.ensures, next_index_below b c.index-j.result, pow_mono width)

pub overflow_add-to : goal.overflow_add-to
overflow_add-to c =
    let a = c.args in
    let b = c.of-width.result.b in
    let k = c.next_index-k.result in
    let width : b ≤ 10 = rw c.of-width.ensures (width_le a.n) in
    let below : k < 2 ^ b = rw c.next_index-k.ensures (next_index_below b c.index-j.result) in
    rw c.index-j.ensures (record { fits = place_fits b a.a.0 k width (search rules) below })

pub returns : goal.returns
unfolding next_of
returns c = rw (c.next_index-k.ensures, c.index-j.ensures, c.of-width.ensures)
