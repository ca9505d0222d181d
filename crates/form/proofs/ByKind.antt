-- The operation of kinds 8 to 18 by its words. Assumes nothing.
use Prim.Native.Nat.{ℕ, ◌≤◌, ◌<◌}
use mathlib.Core.Path.{◌≡◌}
use mathlib.Core.Bool.{cond}
use mathlib.Core.List.{List}
use native.Mathlib.Omega.{arith}
use borrow.Author.Tests.{le-leb, lt-leb, ne_eqb}
use lib.Dec.{eqb}
use Rattle.operations.specs.Decode.{target_of, post_of, operand_of}
use Rattle.operations.specs.declared.operation.Operation.TheVariants.{AddAccumulators, Subtract, Negate, Shift, Lac, Add, Sac, SacR, Literal, Load, Store}
use Rattle.form.specs.Words.{field, kind_in, transfer_in, coded_at}

module _ (code : List ℕ) (at : ℕ) where
  -- kinds 8 to 11

  pub sum_operation : kind_in code at ≡ 8 → coded_at code at ≡ AddAccumulators (target_of (field code at 1))
  unfolding coded_at
  sum_operation e = rw e

  pub difference_operation : kind_in code at ≡ 9 → coded_at code at ≡ Subtract (target_of (field code at 1))
  unfolding coded_at
  difference_operation e = rw e

  pub opposite_operation : kind_in code at ≡ 10 → coded_at code at ≡ Negate (target_of (field code at 1))
  unfolding coded_at
  opposite_operation e = rw e

  pub shift_operation : kind_in code at ≡ 11 → coded_at code at ≡ Shift (target_of (field code at 1)) (field code at 4)
  unfolding coded_at
  shift_operation e = rw e

  -- kinds 12 to 15

  pub transfer_operation : 11 < kind_in code at → kind_in code at ≤ 15 → coded_at code at ≡ transfer_in code at
  unfolding coded_at
  transfer_operation low high = rw (lt-leb (kind_in code at) 7 (omega arith), lt-leb (kind_in code at) 11 low, le-leb (kind_in code at) 15 high)

  pub lac_operation : kind_in code at ≡ 12
      → coded_at code at ≡ Lac (target_of (field code at 1)) (field code at 2) (operand_of (field code at 4) (field code at 6))
  unfolding coded_at
  lac_operation e = rw e

  pub add_operation : kind_in code at ≡ 13
      → coded_at code at ≡ Add (target_of (field code at 1)) (field code at 2) (operand_of (field code at 4) (field code at 6))
  unfolding coded_at
  add_operation e = rw e

  pub sac_operation : kind_in code at ≡ 14
      → coded_at code at ≡ Sac (target_of (field code at 1)) (field code at 2) (operand_of (field code at 4) (field code at 6))
  unfolding coded_at
  sac_operation e = rw e

  pub sac_r_operation : kind_in code at ≡ 15
      → coded_at code at ≡ SacR (target_of (field code at 1)) (field code at 2) (operand_of (field code at 4) (field code at 6))
  unfolding coded_at
  sac_r_operation e = rw e

  -- kinds 16 to 18

  pub literal_operation : kind_in code at ≡ 16 → coded_at code at ≡ Literal (field code at 1) (field code at 11)
  unfolding coded_at
  literal_operation e = rw e

  pub load_operation : kind_in code at ≡ 17 → coded_at code at ≡ Load (field code at 1) (field code at 4) (post_of (field code at 6))
  unfolding coded_at
  load_operation e = rw e

  pub store_operation : kind_in code at ≡ 18 → coded_at code at ≡ Store (field code at 1) (field code at 4) (post_of (field code at 6))
  unfolding coded_at
  store_operation e = rw e

  -- kinds 17 and 18 together
  pub pointer_operation : 16 < kind_in code at → kind_in code at ≤ 18
      → coded_at code at
      ≡ cond (eqb (kind_in code at) 17) (Load (field code at 1) (field code at 4) (post_of (field code at 6)))
      (Store (field code at 1) (field code at 4) (post_of (field code at 6)))
  unfolding coded_at
  pointer_operation low high =
      rw (
        lt-leb (kind_in code at) 7 (omega arith),
        lt-leb (kind_in code at) 11 (omega arith),
        lt-leb (kind_in code at) 15 (omega arith),
        le-leb (kind_in code at) 18 high,
        ne_eqb (kind_in code at) 16 (λ e. omega arith),
      )
