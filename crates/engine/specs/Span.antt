-- The operations whose decoded words are at hand in a run from the file.
use Rattle.std.specs.Prelude.{ℕ, ◌+◌, ◌≤◌, ◌<◌, List, ◌≡◌}
use Rattle.program.specs.File.{operation_count, program_of}
use Rattle.stepping.specs.Turned.{Held}
use Rattle.runs.specs.Run.{Result}
use Rattle.runs.specs.Run.Stop.{ended}
use Rattle.runs.specs.Engine.{Engine}
use Rattle.legs.specs.Leg.{ShowsWords, engine_in, ending_of}
use Rattle.legs.specs.declared.leg.Leg.{Leg}
use Rattle.engine.specs.declared.run.Span.{Span}

-- the words are those of the file's operations in a span
abbrev pub Covers : List ℕ → List ℕ → Span → Type 0
Covers file words at = ShowsWords (program_of file) words at.first at.count

-- all operations of the file
abbrev pub whole_of : List ℕ → Span
whole_of file = record { first = 0; count = operation_count file }

-- a span that has operation pc: the one given, with its words, or another
pub record Has (file : List ℕ) (pc : ℕ) (at : Span) (words : List ℕ) (at' : Span) (words' : List ℕ) : Type 0 where
  pub covers : Covers file words' at'
  pub low : at'.first ≤ pc
  pub high : pc < at'.first + at'.count
  pub stays : at.first ≤ pc → pc < at.first + at.count → (at' ≡ at) × (words' ≡ words)

-- a run that ends with a leg
abbrev pub end_in : Held → Leg → Result Engine
end_in h r = record { machine = engine_in h r.flow; steps = r.steps; stop = ended (ending_of r.pause) }
