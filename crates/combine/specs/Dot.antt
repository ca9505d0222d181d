-- A dot product of signed words, and a board's run of a stretch of it: the pairs of words that the steps of the run multiplied for A.
use Rattle.std.specs.Prelude.{ℕ, ◌+◌, ◌*◌, ◌%◌, ◌/◌, Bool, true, false, cond, not, ◌&&◌, ◌||◌, ◌≡◌, eqb, leb, ℤ, pos, ◌+ℤ◌, get_or}
use mathlib.Core.List.{List, [], ◌∷◌, Memᴰ}
use Rattle.accumulator.specs.Mode.{mode_of}
use Rattle.accumulator.specs.Product.{product_of}
use Rattle.accumulator.specs.declared.product.Factor.{Factor}
use Rattle.operations.specs.Encode.{encode_of}
use Rattle.operations.specs.declared.operation.Operation.{Operation}
use Rattle.program.specs.File.{program_of}
use Rattle.state.specs.State.{register}
use Rattle.state.specs.declared.settings.Settings.{Settings}
use Rattle.state.specs.declared.state.State.{State}
use Rattle.machine.specs.Control.{control_of, clears}
use Rattle.machine.specs.Step.{operation_at}
use Rattle.runs.specs.Run.{Result}
use Rattle.runs.specs.Engine.{Engine}
use Rattle.runs.specs.Holds.{holds}
use Rattle.runs.specs.Steps.{Transition}
use Rattle.engine.specs.Call.{run_of}
use Rattle.engine.specs.Steps.{call_steps}

-- ---- the dot product

-- two words to be multiplied
pub record Pair : Type 0 where
  pub m : ℕ
  pub n : ℕ

-- a word read as signed
abbrev pub signed_factor : ℕ → Factor
signed_factor x = record { word = x; unsigned = false }

-- p = m × n; fractional mode (IF 0) doubles it, integer mode does not
abbrev pub pair_product : Bool → Pair → ℤ
pair_product integer q = product_of integer (signed_factor q.m) (signed_factor q.n)

-- the exact sum of all products
unfoldable pub dot_of : Bool → List Pair → ℤ
dot_of integer [] = pos 0
dot_of integer (q ∷ l) = pair_product integer q +ℤ dot_of integer l

-- ---- operations that write A

-- byte i of an operation
abbrev pub byte_of : Operation → ℕ → ℕ
byte_of o i = get_or (encode_of o) i 0

-- kinds 1 to 6 and 8 to 13 write an accumulator
abbrev pub is_writing_kind : ℕ → Bool
is_writing_kind b0 = leb 1 b0 && leb b0 6 || leb 8 b0 && leb b0 13

-- it is A: target 0 in b1
unfoldable pub writes_a : Operation → Bool
writes_a o = is_writing_kind (byte_of o 0) && eqb (byte_of o 1) 0

-- kind 3 with target A
unfoldable pub adds_to_a : Operation → Bool
adds_to_a o = eqb (byte_of o 0) 3 && eqb (byte_of o 1) 0

-- what kind 3 multiplies, of registers w: b2 low nibble m, high nibble n
unfoldable pub pair_of : Operation → List ℕ → Pair
pair_of o w = record { m = register w (byte_of o 2 % 16); n = register w (byte_of o 2 / 16) }

-- ---- the pairs of a run's steps

-- the operation that a step executed
abbrev pub executed : List Operation → Transition Engine → Operation
executed p t = operation_at p t.from.state.core.pc

-- what the steps multiplied for A, in order, by the registers before each
unfoldable pub pairs_in : List Operation → List (Transition Engine) → List Pair
pairs_in p [] = []
pairs_in p (t ∷ l) = cond (adds_to_a (executed p t)) (pair_of (executed p t) t.from.state.core.w ∷ pairs_in p l) (pairs_in p l)

-- ---- a board's call

-- what a board runs: a call for a run
pub record BoardCall : Type 0 where
  pub file : List ℕ
  pub settings : Settings
  pub state : State
  pub memory : List ℕ
  pub budget : ℕ

-- what the call comes to
abbrev pub ran_on : BoardCall → Result Engine
ran_on x = run_of x.file x.settings x.state x.memory x.budget

-- its steps
abbrev pub steps_on : BoardCall → List (Transition Engine)
steps_on x = call_steps x.file x.settings x.state x.memory x.budget

-- what it multiplied for A
abbrev pub pairs_on : BoardCall → List Pair
pairs_on x = pairs_in (program_of x.file) (steps_on x)

-- a step that fits a dot product by a mode word
pub record StepFits (mode : ℕ) (p : List Operation) (t : Transition Engine) : Type 0 where
  -- if it writes A, it is kind 3
  pub kind : writes_a (executed p t) ≡ true → adds_to_a (executed p t) ≡ true
  -- the one mode word is kept
  pub word : t.to.state.core.mode ≡ mode
  -- SA, if it was set, is not cleared
  pub flag : t.from.state.sa ≡ true → t.to.state.sa ≡ true

-- a call that fits a dot product of signed words: US 0 (with US 2 or 3 it is refused); from A = 0, with SA clear and this mode word; each step fits. How it
-- ends is not asked
pub record CallFits (mode : ℕ) (x : BoardCall) : Type 0 where
  pub signed : (mode_of mode).unsigned ≡ false
  pub word : x.state.core.mode ≡ mode
  pub start : x.state.core.a ≡ pos 0
  pub clear : x.state.sa ≡ false
  pub steps : (t : Transition Engine) → Memᴰ t (steps_on x) → StepFits mode (program_of x.file) t

-- ---- a check of the program alone, each operation reached or not

-- kind 24 with another mode word in b2-3
abbrev pub sets_other : ℕ → Operation → Bool
sets_other mode o = eqb (byte_of o 0) 24 && not (eqb (byte_of o 2 + 256 * byte_of o 3) mode)

-- it writes A and is not kind 3, sets another mode word, or clears a saturation flag
unfoldable pub is_stray : ℕ → Operation → Bool
is_stray mode o = writes_a o && not (adds_to_a o) || sets_other mode o || clears (control_of o)

-- some operation of a program does
abbrev pub holds_stray : ℕ → List Operation → Bool
holds_stray mode p = holds (is_stray mode) p
