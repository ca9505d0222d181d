-- The exact result by the kind: 6 adds the square, 2 and 5 replace. Assumes nothing.
use Rattle.std.proofs.Common.{◌≡◌, ℕ, zero, suc, ◌≤◌, ℤ, ◌+ℤ◌, refl, arith}
use Rattle.accumulator.specs.declared.mode.Target.{Target}
use Rattle.operations.specs.Decode.{action_of}
use Rattle.effects.specs.Mac.{exact_by}
use Rattle.effects.specs.declared.effect.Exact.TheVariants.{Replace}
use Rattle.products.specs.Fetched.{SquareIs}

module _ (t : Target) (v p square : ℤ) where
  -- 6
  pub sum_exact : (kind : ℕ) → SquareIs kind square p → kind ≡ 6 → Replace t (v +ℤ p) ≡ exact_by (action_of kind) t v p square
  unfolding exact_by
  sum_exact kind same e = rw (same (rw e), e)

  -- 2 and 5
  pub product_exact : (kind : ℕ) → SquareIs kind square p → 2 ≤ kind → kind ≤ 5 → (kind ≡ 3 → ⊥) → (kind ≡ 4 → ⊥) → Replace t p ≡ exact_by (action_of kind) t v p square
  unfolding exact_by
  product_exact zero same some most three four = absurd (omega arith)
  product_exact (suc zero) same some most three four = absurd (omega arith)
  product_exact (suc (suc zero)) same some most three four = refl
  product_exact (suc (suc (suc zero))) same some most three four = absurd (three refl)
  product_exact (suc (suc (suc (suc zero)))) same some most three four = absurd (four refl)
  product_exact (suc (suc (suc (suc (suc zero))))) same some most three four = rw (same refl)
  product_exact (suc (suc (suc (suc (suc (suc n)))))) same some most three four = absurd (omega arith)
