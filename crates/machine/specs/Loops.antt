-- Active loops, outermost first: DO's number and passes left, the current one counted. A slot that is not in use is zero.
use Rattle.std.specs.Prelude.{ℕ, ◌+◌, ◌-◌, get_or, set}
use Rattle.state.specs.declared.state.Loops.{Loops}

-- DO's number of the innermost loop
abbrev pub inner_start : Loops → ℕ
inner_start l = get_or l.starts (l.depth - 1) 0

-- its passes left
abbrev pub inner_passes : Loops → ℕ
inner_passes l = get_or l.passes (l.depth - 1) 0

-- a loop begins: DO's number and its passes
unfoldable pub pushed : Loops → ℕ → ℕ → Loops
pushed l start passes = record { starts = set l.starts l.depth start; passes = set l.passes l.depth passes; depth = l.depth + 1 }

-- the innermost loop's passes left become n
unfoldable pub with_passes : Loops → ℕ → Loops
with_passes l n = record { starts = l.starts; passes = set l.passes (l.depth - 1) n; depth = l.depth }

-- the innermost loop ends
unfoldable pub popped : Loops → Loops
popped l = record { starts = set l.starts (l.depth - 1) 0; passes = set l.passes (l.depth - 1) 0; depth = l.depth - 1 }
