-- What kinds 8 to 11 leave, by their words. Assumes nothing.
use Prim.Native.Nat.{ℕ, ◌-◌, ◌≤◌, ◌<◌}
use mathlib.Core.Path.{◌≡◌, refl}
use mathlib.Core.Bool.{Bool, true, false, cond}
use mathlib.Core.List.{List}
use native.Mathlib.Omega.{arith}
use lib.IntN.{ℤ, pos, neg_ℤ, ◌+ℤ◌, ◌-ℤ◌}
use lib.ListN.{get_or}
use Rattle.integers.specs.Bits.{signed_of}
use Rattle.accumulator.specs.Mode.{mode_of}
use Rattle.accumulator.specs.Shift.{shift_of, shift_allowed}
use Rattle.std.specs.Prelude.{Some, Result, Ok, Err}
use Rattle.address.specs.declared.trap.Trap.{Trap}
use Rattle.address.specs.declared.trap.Trap.TheVariants.{ShiftAmount}
use Rattle.operations.specs.Decode.{target_of}
use Rattle.state.specs.State.{register}
use Rattle.state.specs.declared.settings.Settings.{Settings}
use Rattle.effects.specs.Effect.{results, blocked}
use Rattle.effects.specs.Operations.{shift_work, work_of}
use Rattle.machine.specs.Write.{put_register, put_memory}
use Rattle.form.specs.Words.{field, kind_in}
use Rattle.form.proofs.ByKind.{sum_operation, difference_operation, opposite_operation, shift_operation}
use Rattle.fields.specs.Carried.{carried_of, carried_in, Carries, always}
use Rattle.fields.proofs.Accumulators.{target_value, other_value}

-- of kinds 8 to 11, the last
pub last_kind : (k : ℕ) → 7 < k → k ≤ 11 → (k ≡ 8 → ⊥) → (k ≡ 9 → ⊥) → (k ≡ 10 → ⊥) → k ≡ 11
last_kind k low high sum difference opposite = omega arith

module _ (settings : Settings) (mode : ℕ) (code : List ℕ) (at : ℕ) (acc : List ℤ) (w memory : List ℕ) (small : field code at 1 < 2) where
  abbrev t : ℕ
  t = field code at 1

  abbrev by : ℤ
  by = signed_of 16 (register w (field code at 4))

  -- 8
  pub sums : kind_in code at ≡ 8 → Carries settings mode code at acc w memory w memory (Ok (Some (get_or acc 0 (pos 0) +ℤ get_or acc 1 (pos 0))))
  unfolding work_of carried_of put_register put_memory
  sums k c = rw (sum_operation code at k)

  -- 9
  pub subtracts : kind_in code at ≡ 9 → Carries settings mode code at acc w memory w memory (Ok (Some (get_or acc t (pos 0) -ℤ get_or acc (1 - t) (pos 0))))
  unfolding work_of carried_of put_register put_memory
  subtracts k c = rw (difference_operation code at k, target_value c acc w t small, other_value c acc w t small)

  -- 10
  pub negates : kind_in code at ≡ 10 → Carries settings mode code at acc w memory w memory (Ok (Some (neg_ℤ (get_or acc t (pos 0)))))
  unfolding work_of carried_of put_register put_memory
  negates k c = rw (opposite_operation code at k, target_value c acc w t small)

  -- 11
  pub shifts : kind_in code at ≡ 11 → (r : Result ℤ Trap) → r ≡ cond (shift_allowed by) (Ok (shift_of (get_or acc t (pos 0)) by)) (Err ShiftAmount)
      → Carries settings mode code at acc w memory w memory (always r)
  unfolding work_of shift_work carried_of put_register put_memory
  shifts k r e c = rw (shift_operation code at k, e, target_value c acc w t small) (go (shift_allowed by))
    where
      v : ℤ
      v = shift_of (get_or acc t (pos 0)) by

      go : (b : Bool) → carried_in w memory (target_of t) (always (cond b (Ok v) (Err ShiftAmount)))
          ≡ carried_of (mode_of mode) (cond b (results w (target_of t) v) (blocked w 3)) memory
      go true = refl
      go false = refl
