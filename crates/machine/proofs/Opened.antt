-- The definition of a step for computation: all that it comes to opened, in one list. Assumes nothing.
use Prim.Native.Nat.{ℕ}
use mathlib.Core.List.{List}
use Rattle.integers.specs.Floor.{remainder_of}
use Rattle.integers.specs.Bits.{low_bits, signed_of}
use Rattle.integers.specs.Range.{lowest, highest, outside, nearer, limited_to}
use Rattle.accumulator.specs.Mode.{mode_of, saturates}
use Rattle.accumulator.specs.Product.{read_of, product_of}
use Rattle.accumulator.specs.Limit.{limit_bits, has_left, kept_of, overflows, write_of}
use Rattle.accumulator.specs.Shift.{shift_of, shift_allowed}
use Rattle.accumulator.specs.Store.{is_odd, rounds_up, rounded_of, needs_limiting, stored_word, store_of}
use Rattle.address.specs.Word.{word_of}
use Rattle.address.specs.Region.{is_inside, access_trap}
use Rattle.address.specs.Step.{address_sum, stepped_of, corrected_of, circular_of}
use Rattle.address.specs.Reversal.{rev, width_up_to, width_of, index_of, next_index, next_of}
use Rattle.operations.specs.declared.operation.Operation.{Operation}
use Rattle.state.specs.Settings.{traps_overflow, traps_left}
use Rattle.state.specs.declared.settings.Settings.{Settings}
use Rattle.state.specs.declared.state.State.{State}
use Rattle.effects.specs.Pointer.{moved_of, step_of, raised_of, change_of}
use Rattle.effects.specs.Access.{operand_access, prefetch_access, back_access, word_at, changed}
use Rattle.effects.specs.Mac.{exact_by, mac_exact, mac_accesses, difference_of, arrived, mac_registers, mac_work}
use Rattle.effects.specs.Operations.{shift_work, byte_shift, loaded_value, load_work, store_work, move_work, loop_work, work_of}
use Rattle.machine.specs.Write.{trap_after, settle_of, value_word, put_register, put_memory}
use Rattle.machine.specs.Loops.{pushed, with_passes, popped}
use Rattle.machine.specs.Control.{fallen, advanced, repeated, entered, ended_early, control_of, controlled, state_controlled}
use Rattle.machine.specs.Step.{Step, completed, stepped}

-- a step, with every definition that it comes to opened
unfoldable pub after : List Operation → Settings → State → List ℕ → Step
unfolding stepped completed work_of mac_work mac_accesses mac_exact mac_registers exact_by arrived difference_of
    shift_work byte_shift loaded_value load_work store_work move_work loop_work
    operand_access prefetch_access back_access word_at changed moved_of step_of raised_of change_of
    settle_of trap_after traps_overflow traps_left value_word put_register put_memory
    state_controlled controlled control_of ended_early entered repeated advanced fallen pushed with_passes popped
    word_of is_inside access_trap address_sum stepped_of corrected_of circular_of rev width_up_to width_of index_of next_index next_of
    mode_of saturates read_of product_of limit_bits has_left kept_of overflows write_of shift_of shift_allowed
    is_odd rounds_up rounded_of needs_limiting stored_word store_of
    remainder_of low_bits signed_of lowest highest outside nearer limited_to
after p settings s memory = stepped p settings s memory
