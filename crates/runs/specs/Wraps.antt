-- Wish 12, exact even after overflow: one statement about the whole run, against the ledger that goes on.
use Rattle.std.specs.Prelude.{ℕ, Bool, not, ◌||◌, List, ◌≡◌, eqb, get_or}
use Rattle.integers.specs.Bits.{low_bits, SameModulo, signed_of}
use Rattle.accumulator.specs.Mode.{mode_of, saturates}
use Rattle.accumulator.specs.declared.mode.Target.TheVariants.{A, B}
use Rattle.operations.specs.Encode.{encode_of}
use Rattle.operations.specs.declared.operation.Operation.{Operation}
use Rattle.runs.specs.Run.{Result}
use Rattle.runs.specs.Engine.{Engine}
use Rattle.runs.specs.Ledger.{Ledger}
use Rattle.runs.specs.Holds.{holds}

-- ---- the programs and modes it is about

-- kinds 11, 14, 15, 24 and 25
abbrev pub is_barred_kind : ℕ → Bool
is_barred_kind b0 = eqb b0 11 || (eqb b0 14 || (eqb b0 15 || (eqb b0 24 || eqb b0 25)))

-- an operation whose b0 is one of these kinds, or whose b6 is a write-back
unfoldable pub is_barred : Operation → Bool
is_barred o = is_barred_kind (get_or (encode_of o) 0 0) || not (eqb (get_or (encode_of o) 6 0) 0)

-- some operation of a program is one of these, reached or not
abbrev pub holds_barred : List Operation → Bool
holds_barred p = holds is_barred p

-- one of the two saturations is on in a mode word
unfoldable pub is_saturating : ℕ → Bool
is_saturating word = saturates (mode_of word) A || saturates (mode_of word) B

-- ---- the statement

-- the engine x and the ledger y: A and B are the ledger's numbers modulo 2^40; registers, pc, loops, repeat left, mode word and memory are equal. O flags
-- are not compared: the ledger's are those of its own numbers. It has no S flags
pub record Matches (x : Engine) (y : Ledger) : Type 0 where
  pub a : SameModulo 40 x.state.core.a y.core.a
  pub b : SameModulo 40 x.state.core.b y.core.b
  pub w : x.state.core.w ≡ y.core.w
  pub pc : x.state.core.pc ≡ y.core.pc
  pub loops : x.state.core.loops ≡ y.core.loops
  pub repeat : x.state.core.repeat ≡ y.core.repeat
  pub mode : x.state.core.mode ≡ y.core.mode
  pub memory : x.memory ≡ y.memory

-- the engine's run x and the run y of the ledger that goes on, under the same budget
pub record Wraps (x : Result Engine) (y : Result Ledger) : Type 0 where
  pub matches : Matches x.machine y.machine
  -- A and B are 40 bits wide: they are the low 40 bits of the ledger's numbers, read as signed
  pub a : x.machine.state.core.a ≡ signed_of 40 (low_bits 40 y.machine.core.a)
  pub b : x.machine.state.core.b ≡ signed_of 40 (low_bits 40 y.machine.core.b)
  pub steps : x.steps ≡ y.steps
  pub stop : x.stop ≡ y.stop
