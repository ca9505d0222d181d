-- `bytes::total` meets its contract: std's sum is the sum that the definition has.
use Rattle.std.proofs.Common.{rules, ◌≡◌, arith}
use Rattle.std.specs.List.{sum}
use Rattle.program.proofs.Slices.{total_sum, total_most}
use Rattle.loader.proofs.bytes.total.Goals as goal

pub returns : goal.returns
returns c =
    let s = c.args.s.now in
    let value : c.sum.result ≡ sum s = search rules in
    record { value = rw (total_sum s) value; upper_bound = omega (arith, total_most s (λ i. search rules), total_sum s, value) }
