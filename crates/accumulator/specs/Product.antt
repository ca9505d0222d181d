-- Products of words.
use Rattle.std.specs.Prelude.{Bool, cond, ℤ, pos, ◌*ℤ◌}
use Rattle.integers.specs.Bits.{signed_of}
use Rattle.accumulator.specs.declared.product.Factor.{Factor}

-- a factor, read as unsigned or as signed
unfoldable pub read_of : Factor → ℤ
read_of f = cond f.unsigned (pos f.word) (signed_of 16 f.word)

-- p = m × n; IF = 0 doubles it, IF = 1 does not
unfoldable pub product_of : Bool → Factor → Factor → ℤ
product_of integer m n = cond integer (read_of m *ℤ read_of n) (read_of m *ℤ read_of n *ℤ pos 2)

-- a square is a product of a word with itself: squares follow US and IF
abbrev pub square_of : Bool → Factor → ℤ
square_of integer m = product_of integer m m
