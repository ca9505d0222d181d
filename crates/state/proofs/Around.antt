-- The loops around pc, one operation more: whether it opens such a loop, and whether that stands in its slot. Assumes nothing.
use Prim.Native.Nat.{ℕ, ◌+◌}
use mathlib.Core.Path.{◌≡◌}
use mathlib.Core.Bool.{Bool, true, false, ◌&&◌, and-true}
use mathlib.Core.List.{List}
use native.Mathlib.Numerals.{add-one}
use lib.Dec.{eqb}
use lib.ListN.{get_or}
use Rattle.operations.specs.declared.operation.Operation.{Operation}
use Rattle.state.specs.Accept.{is_around, around_in, stand_in}

module _ (p : List Operation) (pc n count : ℕ) (counted : count ≡ around_in p pc n) where
  pub around_more : is_around p pc n ≡ true → count + 1 ≡ around_in p pc (n + 1)
  around_more h = rw (add-one count, add-one n, h, counted)

  pub around_same : is_around p pc n ≡ false → count ≡ around_in p pc (n + 1)
  around_same h = rw (add-one n, h, counted)

  module _ (starts : List ℕ) (good : Bool) (stood : good ≡ stand_in p pc starts n) where
    pub stand_more : is_around p pc n ≡ true → good && eqb (get_or starts count 0) n ≡ stand_in p pc starts (n + 1)
    stand_more h = rw (add-one n, h, counted, stood)

    pub stand_same : is_around p pc n ≡ false → good ≡ stand_in p pc starts (n + 1)
    stand_same h = rw (add-one n, h, and-true, stood)
