-- A program's words.
use Rattle.std.specs.Prelude.{ℕ, List, [], ◌∷◌, ◌++◌, true, ◌≡◌, take, drop}
use Rattle.operations.specs.declared.operation.Operation.{Operation}
use Rattle.operations.specs.Listed.{is_listed}
use Rattle.form.specs.Words.{words_for, coded_at}

-- the words of each operation, in order
abbrev pub form_of : List Operation → List ℕ
form_of [] = []
form_of (o ∷ p) = words_for o ++ form_of p

-- the 16 words from `at` on are those of the operation that they are, and it is listed
pub record Encoded (code : List ℕ) (at : ℕ) : Type 0 where
  pub listed : is_listed (coded_at code at) ≡ true
  pub words : take 16 (drop at code) ≡ words_for (coded_at code at)
