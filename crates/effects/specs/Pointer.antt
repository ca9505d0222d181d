-- Pointers: what they become after an access.
use Rattle.std.specs.Prelude.{ℕ, cond, eqb, ℤ, pos, neg_ℤ, ◌-ℤ◌, ◌*ℤ◌}
use Rattle.address.specs.Step.{stepped_of, circular_of}
use Rattle.address.specs.Reversal.{next_of}
use Rattle.operations.specs.declared.operation.PostModification.{PostModification}
use Rattle.operations.specs.declared.operation.PostModification.TheVariants.{None as Stays, Increment, Decrement}
use Rattle.state.specs.declared.settings.Circular.{Circular}
use Rattle.state.specs.declared.settings.Settings.{Settings}
use Rattle.effects.specs.declared.pointer.Purpose.{Purpose}
use Rattle.effects.specs.declared.pointer.Purpose.TheVariants.{Read, Store}
use Rattle.effects.specs.declared.pointer.Change.{Change}
use Rattle.effects.specs.declared.pointer.Change.TheVariants.{None as NoChange, To}

-- register r with address a, stepped: the circular register is corrected, any other is not
unfoldable pub moved_of : Circular → ℕ → ℕ → ℤ → ℕ
moved_of circle r a step = cond (eqb r circle.register) (circular_of circle.buffer a step) (stepped_of a step)

-- step 2(c − 3)
unfoldable pub step_of : ℕ → ℤ
step_of c = pos 2 *ℤ (pos c -ℤ pos 3)

-- memory then + 2: the bit-reversed register in kinds 14, 15, 18, and X's correction
unfoldable pub raised_of : Settings → Purpose → ℕ → ℕ → ℕ
raised_of s Read r a = moved_of s.x r a (pos 2)
raised_of s Store r a = cond (eqb r s.reversed.register) (next_of s.reversed.words a) (moved_of s.x r a (pos 2))

-- forms 1 memory, 2 memory then + 2, 3 memory then − 2
unfoldable pub change_of : Settings → Purpose → PostModification → ℕ → ℕ → Change
change_of s purpose Stays r a = NoChange
change_of s purpose Increment r a = To r (record { 0 = raised_of s purpose r a })
change_of s purpose Decrement r a = To r (record { 0 = moved_of s.x r a (neg_ℤ (pos 2)) })
