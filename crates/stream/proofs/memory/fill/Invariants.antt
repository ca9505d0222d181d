-- The first words are those of the bytes, and then memory's own.
use Rattle.std.proofs.Common.{◌≡◌, ◌++◌, drop}
use Rattle.stream.specs.Memory.{memory_in}
use Rattle.stream.proofs.memory.fill.Given as goal

abbrev pub invariant-loop-i : goal.invariant-loop-i
invariant-loop-i l = l.memory ≡ memory_in l.bytes l.i ++ drop l.i l.initial.memory
