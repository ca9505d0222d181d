-- What a program holds anywhere in it, reached or not.
use Rattle.std.specs.Prelude.{Bool, false, ◌||◌, List, [], ◌∷◌}
use Rattle.operations.specs.declared.operation.Operation.{Operation}

-- some operation of a program is such
unfoldable pub holds : (Operation → Bool) → List Operation → Bool
holds is_such [] = false
holds is_such (o ∷ p) = is_such o || holds is_such p
