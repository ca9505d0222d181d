-- Ranges: kind and pointer steps of kinds 1 to 7, from the operation's being encoded; accumulators and products. Assumes nothing.
use Rattle.std.proofs.Common.{◌≡◌, ℕ, ◌*◌, ◌/◌, ◌^◌, ◌<◌, ◌≤◌, true, List, ℤ, nat_abs, sym, ◌∙◌, add-zero, arith, to_z-of_z, w64, SFits, to_z, of_z}
use lib.Signed.{mag}
use Rattle.integers.proofs.Whole.{whole, size, abs_is}
use Rattle.accumulator.specs.Limit.{is_accumulator}
use Rattle.accumulator.proofs.Sizes.{accumulator_within}
use Rattle.operations.specs.Encode.{action_byte, prefetch_byte, encode_of}
use Rattle.operations.specs.declared.operation.Action.{Action}
use Rattle.operations.specs.declared.operation.Action.TheVariants.{Clr, Mpy, Mac, Msc, Ed, Edac, Movsac}
use Rattle.operations.specs.declared.operation.Prefetch.{Prefetch}
use Rattle.operations.specs.declared.operation.Prefetch.TheVariants.{None as NoPrefetch, Pointer, Sum}
use Rattle.form.specs.Words.{words_of_bytes, words_for, field, kind_in, mac_in}
use Rattle.form.specs.Form.{Encoded}
use Rattle.form.proofs.Fields.{mac_operation, encoded_field}

-- the kind is an action's number
action_some : (k : Action) → 1 ≤ action_byte k
action_some Clr = omega arith
action_some Mpy = omega arith
action_some Mac = omega arith
action_some Msc = omega arith
action_some Ed = omega arith
action_some Edac = omega arith
action_some Movsac = omega arith

-- the high nibble of a prefetch's byte
prefetch_step : (p : Prefetch) (sum : ℕ) → sum < 16 → prefetch_byte p sum / 16 < 16
prefetch_step NoPrefetch sum l = omega arith
prefetch_step (Pointer r c) sum l = omega arith
prefetch_step Sum sum l = omega arith

module _ {code : List ℕ} {at : ℕ} (e : Encoded code at) (l : kind_in code at ≤ 7) where
  pub mac_kind : 1 ≤ kind_in code at
  unfolding words_for encode_of words_of_bytes
  mac_kind =
      let kind : kind_in code at ≡ action_byte (mac_in code at).action = sym (rw add-zero) ∙ encoded_field e 0 (omega arith) ∙ rw (mac_operation code at l) in
      omega (arith, kind, action_some (mac_in code at).action)

  pub x_step : field code at 5 < 16
  unfolding words_for encode_of words_of_bytes
  x_step =
      let step : field code at 5 ≡ prefetch_byte (mac_in code at).x 12 / 16 = encoded_field e 5 (omega arith) ∙ rw (mac_operation code at l) in
      omega (arith, step, prefetch_step (mac_in code at).x 12 (omega arith))

  pub y_step : field code at 7 < 16
  unfolding words_for encode_of words_of_bytes
  y_step =
      let step : field code at 7 ≡ prefetch_byte (mac_in code at).y 13 / 16 = encoded_field e 7 (omega arith) ∙ rw (mac_operation code at l) in
      omega (arith, step, prefetch_step (mac_in code at).y 13 (omega arith))

-- accumulators and products have 64 bits
pub accumulator_kept : (v : ℤ) → is_accumulator v ≡ true → to_z w64 (of_z w64 v) ≡ v
accumulator_kept v e =
    let small : mag v < 2 ^ 39 = accumulator_within v e in
    let fits : SFits w64 v = omega (whole, small, size v) in
    to_z-of_z fits

pub product_kept : (p : ℤ) → nat_abs p ≤ 65535 * 65535 * 2 → to_z w64 (of_z w64 p) ≡ p
product_kept p l =
    let fits : SFits w64 p = omega (whole, l, size p, abs_is p) in
    to_z-of_z fits
