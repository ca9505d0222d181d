-- A program holds no such operation exactly where the operation at pc is never such, wherever pc stands. Assumes nothing.
use Prim.Native.Nat.{ℕ, zero, suc}
use mathlib.Core.Bool.{Bool, false, ◌||◌, or_assoc}
use mathlib.Core.List.{List, [], ◌∷◌, ◌++◌, map}
use mathlib.Core.Path.{◌≡◌, refl, sym, ap, ◌∙◌}
use Rattle.integers.proofs.Whole.{neither}
use Rattle.operations.specs.declared.operation.Operation.{Operation}
use Rattle.operations.specs.declared.operation.Operation.TheVariants.{EndEarly}
use Rattle.machine.specs.Step.{operation_at}
use Rattle.runs.specs.Holds.{holds}

-- where none is held, none is at pc; past a program's end stands end early
pub holds_none : (is_such : Operation → Bool) → is_such EndEarly ≡ false → (p : List Operation) (i : ℕ) → holds is_such p ≡ false
    → is_such (operation_at p i) ≡ false
unfolding holds
holds_none is_such past [] i h = past
holds_none is_such past (o ∷ p) zero h = (neither (is_such o) (holds is_such p) h).0
holds_none is_such past (o ∷ p) (suc i) h = holds_none is_such past p i (neither (is_such o) (holds is_such p) h).1

-- and back: where none is at any pc, none is held
pub none_holds : (is_such : Operation → Bool) (p : List Operation) → ((i : ℕ) → is_such (operation_at p i) ≡ false) → holds is_such p ≡ false
unfolding holds
none_holds is_such [] h = refl
none_holds is_such (o ∷ p) h = rw (h zero) (none_holds is_such p (λ i. h (suc i)))

-- two programs one after the other hold what one of them holds
pub holds_append : (is_such : Operation → Bool) (p q : List Operation) → holds is_such (p ++ q) ≡ (holds is_such p || holds is_such q)
unfolding holds
holds_append is_such [] q = refl
holds_append is_such (o ∷ p) q =
    ap (λ (t : Bool). is_such o || t) (holds_append is_such p q) ∙ sym (or_assoc (is_such o) (holds is_such p) (holds is_such q))

-- a program whose operations are changed to ones that are such exactly where they were
pub holds_map : (is_such : Operation → Bool) (f : Operation → Operation) → ((o : Operation) → is_such (f o) ≡ is_such o)
    → (p : List Operation) → holds is_such (map f p) ≡ holds is_such p
unfolding holds
holds_map is_such f same [] = refl
holds_map is_such f same (o ∷ p) = rw (same o, holds_map is_such f same p)
