-- What single operations come to, each value worked out by hand from document 01: a store through its own pointer, an X read, write-back, a trap
-- without effect. Assumes nothing.
use Prim.Native.Nat.{ℕ}
use mathlib.Core.Path.{◌≡◌, refl}
use mathlib.Core.Bool.{true, false}
use mathlib.Core.List.{List, [], ◌∷◌}
use lib.IntN.{pos}
use lib.ListN.{replicate, set}
use Rattle.integers.specs.Floor.{remainder_of}
use Rattle.integers.specs.Bits.{low_bits}
use Rattle.accumulator.specs.Mode.{mode_of}
use Rattle.accumulator.specs.declared.mode.Target.{Target}
use Rattle.accumulator.specs.declared.mode.Target.TheVariants.{A, B}
use Rattle.address.specs.Word.{word_of}
use Rattle.address.specs.Region.{is_inside, access_trap}
use Rattle.address.specs.Step.{stepped_of}
use Rattle.operations.specs.declared.operation.Action.TheVariants.{Movsac}
use Rattle.operations.specs.declared.operation.Prefetch.TheVariants.{None as NoRead, Pointer}
use Rattle.operations.specs.declared.operation.WriteBack.TheVariants.{None as NoWriteBack, Register as ToRegister}
use Rattle.operations.specs.declared.operation.PostModification.TheVariants.{Increment}
use Rattle.operations.specs.declared.operation.Operation.{Operation}
use Rattle.operations.specs.declared.operation.Operation.TheVariants.{MacClass as MacOperation, Load, Store}
use Rattle.state.specs.Settings.{plain_settings}
use Rattle.state.specs.State.{no_loops}
use Rattle.state.specs.declared.state.Core.{Core}
use Rattle.effects.specs.Pointer.{moved_of, step_of, raised_of, change_of}
use Rattle.effects.specs.Access.{operand_access, prefetch_access, back_access, word_at, changed}
use Rattle.effects.specs.Effect.{Work}
use Rattle.effects.specs.Mac.{exact_by, mac_exact, mac_accesses, arrived, mac_registers, mac_work}
use Rattle.effects.specs.Operations.{store_work, move_work, work_of}
use Rattle.effects.specs.declared.access.Place.TheVariants.{Memory}
use Rattle.effects.specs.declared.effect.Value.TheVariants.{Word, Scaled}

-- W8 holds a, all other registers 0
abbrev pointing : ℕ → List ℕ
pointing a = set (replicate 14 0) 8 a

-- A 3 and B 5, reset mode
abbrev core_on : List ℕ → Core
core_on w = record { w = w; a = pos 3; b = pos 5; pc = 0; loops = no_loops; repeat = 0; mode = 0x20; oa = false; ob = false }

-- opened: what an operation comes to with these registers and 4 words of memory, 2 of them X's
unfoldable work_from : Operation → List ℕ → Work
unfolding work_of mac_work mac_accesses mac_exact mac_registers exact_by arrived store_work move_work operand_access prefetch_access back_access word_at changed
    moved_of step_of raised_of change_of word_of is_inside access_trap stepped_of low_bits remainder_of mode_of plain_settings
work_from o w = work_of (plain_settings 2) (mode_of 0x20) o (core_on w) (100 ∷ 101 ∷ 102 ∷ 103 ∷ [])

-- MOVSAC without reads, with write-back to W13
abbrev back_from : Target → Operation
back_from t = MacOperation (record { action = Movsac; target = t; m = 0; n = 0; x = NoRead; xto = 0; y = NoRead; yto = 0; back = ToRegister })

-- MOVSAC with an X read at W8, then W8 + 2, to W4
abbrev x_read_from : Operation
x_read_from =
    MacOperation (record { action = Movsac; target = A; m = 0; n = 0; x = Pointer 8 4; xto = 4; y = NoRead; yto = 0; back = NoWriteBack })

-- X reads fall in the first 2 words: word 1 is read, and word 2 is trap 2
x_read :
    ((work_from x_read_from (pointing 0x1002)).w ≡ set (pointing 0x1004) 4 101)
    × ((work_from x_read_from (pointing 0x1002)).effect.trap ≡ 0)
    × ((work_from x_read_from (pointing 0x1004)).effect.trap ≡ 2)
unfolding work_from
x_read = (refl, refl, refl)

-- 18 stores the old W8 through W8, to word 1; W8 then is 2 more
store_of_pointer :
    ((work_from (Store 8 8 Increment) (pointing 0x1002)).effect.value ≡ Word 0x1002)
    × ((work_from (Store 8 8 Increment) (pointing 0x1002)).effect.place ≡ Memory (record { 0 = 1 }))
    × ((work_from (Store 8 8 Increment) (pointing 0x1002)).w ≡ pointing 0x1004)
unfolding work_from
store_of_pointer = (refl, refl, refl)

-- write-back is the other accumulator's: of target A it is B, 5, and of target B it is A, 3
write_back :
    ((work_from (back_from A) (replicate 14 0)).effect.value ≡ Scaled true (pos 5))
    × ((work_from (back_from B) (replicate 14 0)).effect.value ≡ Scaled true (pos 3))
unfolding work_from
write_back = (refl, refl)

-- 17 through an odd address: trap 1, and the pointer stays
no_effect : ((work_from (Load 0 8 Increment) (pointing 0x1001)).effect.trap ≡ 1) × ((work_from (Load 0 8 Increment) (pointing 0x1001)).w ≡ pointing 0x1001)
unfolding work_from
no_effect = (refl, refl)
