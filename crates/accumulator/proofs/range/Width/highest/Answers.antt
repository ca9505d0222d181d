-- `Width::highest` meets its contract: 1 << k is 2^k, and the difference fits. Assumes nothing.
use Rattle.std.proofs.Common.{◌≡◌, ℕ, ◌^◌, ◌≤◌, pos, ◌-ℤ◌, le_trans, lit≤, pow_pos, pow_mono, to_z-of_z, w64, SFits}
use Rattle.integers.specs.Range.{highest}
use Rattle.integers.proofs.Whole.{whole, size, neg, less}
use Rattle.integers.proofs.Fitting.{power_plain}
use Rattle.accumulator.proofs.range.Width.highest.Goals as goal

limit : (k : ℕ) → pos (2 ^ k) -ℤ pos 1 ≡ highest k
unfolding highest
limit k = omega (whole, less (pos (2 ^ k)) (pos 1), neg (pos (2 ^ k)), pow_pos k)

limit_fits : (k : ℕ) → k ≤ 39 → SFits w64 (pos (2 ^ k) -ℤ pos 1)
limit_fits k h = omega (whole, size (pos (2 ^ k) -ℤ pos 1), less (pos (2 ^ k)) (pos 1), pow_mono h)

pub overflow_sub-result : goal.overflow_sub-result
overflow_sub-result c = rw (power_plain (le_trans c.args.self.bound (lit≤ tt))) (limit_fits c.args.self.k c.args.self.bound)

pub returns : goal.returns
returns c = rw (to_z-of_z (overflow_sub-result c), power_plain (le_trans c.args.self.bound (lit≤ tt))) (limit c.args.self.k)
