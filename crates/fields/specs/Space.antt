-- What a prefetch has by its data space.
use Rattle.std.specs.Prelude.{ℕ}
use Rattle.effects.specs.declared.access.Space.{Space}
use Rattle.effects.specs.declared.access.Space.TheVariants.{X, Y}

-- the number that stands for a sum of two registers: 12 for W9 + W12, 13 for W11 + W13
abbrev pub sum_word : Space → ℕ
sum_word X = 12
sum_word Y = 13
