-- The ranges of the words of an operation, from its being listed. Assumes nothing.
use Prim.Native.Nat.{ℕ, ◌+◌, ◌*◌, ◌≤◌, ◌<◌}
use mathlib.Core.Path.{◌≡◌, refl, sym, ap, ◌∙◌}
use mathlib.Core.Bool.{Bool, true, false, ◌&&◌, ◌||◌}
use mathlib.Core.List.{List}
use native.Mathlib.Omega.{arith}
use borrow.Author.Tests.{le-leb, eqb-true}
use lib.Dec.{eqb}
use lib.ListN.{length, get_or, drop, length-take, length-drop}
use lib.Seq.{get_or-take, get_or-drop}
use Rattle.integers.proofs.Whole.{both}
use Rattle.accumulator.specs.declared.mode.Target.{Target}
use Rattle.accumulator.specs.declared.mode.Target.TheVariants.{A, B}
use Rattle.operations.specs.declared.operation.Operation.{Operation}
use Rattle.operations.specs.declared.operation.Operation.TheVariants.{MacClass as MacOperation}
use Rattle.operations.specs.Encode.{target_byte, action_byte, encode_of}
use Rattle.operations.specs.Decode.{action_of}
use Rattle.operations.specs.Listed.{is_factor, are_factors, is_listed}
use Rattle.form.specs.Words.{words_of_bytes, words_for, field, kind_in, mac_in, coded_at}
use Rattle.form.specs.Form.{Encoded}
use Rattle.form.proofs.Again.{factors_range, destinations_range, prefetch_range, listed_mac}
use Rattle.form.proofs.Programs.{Holds, words_length, held_words, held_operation}

-- an operation of a program that is held
pub held_encoded : {code : List ℕ} {p : List Operation} → Holds code p → (i : ℕ) (d : Operation) → i < length p → is_listed (get_or p i d) ≡ true
    → Encoded code (16 * i)
held_encoded holds i d l e =
    let same = held_operation holds i d l e in
    record { listed = rw same e; words = rw same (held_words holds i d l) }

module _ {code : List ℕ} {at : ℕ} (e : Encoded code at) where
  pub encoded_room : at + 16 ≤ length code
  encoded_room = omega (arith, simp (length-take, length-drop) at (ap length e.words ∙ words_length (coded_at code at)))

  pub encoded_field : (k : ℕ) → k < 16 → field code at k ≡ get_or (words_for (coded_at code at)) k 0
  encoded_field k l = sym (get_or-take 16 (drop at code) k 0 l ∙ get_or-drop at code k 0) ∙ rw e.words

-- ---- kinds 1 to 7

pub mac_operation : (code : List ℕ) (at : ℕ) → kind_in code at ≤ 7 → coded_at code at ≡ MacOperation (mac_in code at)
unfolding coded_at
mac_operation code at l = rw (le-leb (kind_in code at) 7 l)

pub target_small : (t : Target) → target_byte t < 2
target_small A = omega arith
target_small B = omega arith

-- what indices and factors rely on
pub record MacFields (code : List ℕ) (at : ℕ) : Type 0 where
  pub room : at + 16 ≤ length code
  pub target : field code at 1 < 2
  pub m : field code at 2 < 14
  pub n : field code at 3 < 14
  pub x : field code at 4 < 14
  pub y : field code at 6 < 14
  pub xto : field code at 8 < 14
  pub yto : field code at 9 < 14
  pub factors : are_factors (action_byte (action_of (kind_in code at))) (field code at 2) (field code at 3) ≡ true

pub mac_fields : {code : List ℕ} {at : ℕ} → Encoded code at → kind_in code at ≤ 7 → MacFields code at
unfolding is_listed words_for encode_of words_of_bytes
mac_fields {code} {at} e l =
    let o = mac_operation code at l in
    let k = mac_in code at in
    let kind : ℕ = action_byte k.action in
    let parts = listed_mac k (rw o at e.listed) in
    let two = factors_range kind k.m k.n parts.factors in
    let to = destinations_range kind k.x k.y k.xto k.yto parts.destinations in
    let t : field code at 1 ≡ target_byte k.target = encoded_field e 1 (omega arith) ∙ rw o in
    record {
      room = encoded_room e;
      target = omega (arith, t, target_small k.target);
      m = omega arith;
      n = omega arith;
      x = omega (arith, prefetch_range 8 (field code at 4) (field code at 5) 12 (omega arith) parts.x);
      y = omega (arith, prefetch_range 10 (field code at 6) (field code at 7) 13 (omega arith) parts.y);
      xto = omega arith;
      yto = omega arith;
      factors = parts.factors;
    }

-- kinds 5 and 6 have equal factors
pub square_factors : (kind m n : ℕ) → (eqb kind 5 || eqb kind 6) ≡ true → are_factors kind m n ≡ true → m ≡ n
square_factors kind m n s e = go (eqb kind 5) refl s e
  where
    last : (t : Bool) → is_factor m && is_factor n && t ≡ true → t ≡ true
    last t h = (both (is_factor m && is_factor n) t h).1

    five : are_factors 5 m n ≡ true → m ≡ n
    five h = eqb-true m n (last (eqb m n) h)

    six : are_factors 6 m n ≡ true → m ≡ n
    six h = eqb-true m n (last (eqb m n) h)

    go : (t : Bool) → eqb kind 5 ≡ t → (t || eqb kind 6) ≡ true → are_factors kind m n ≡ true → m ≡ n
    go true d s h = five (rw (eqb-true kind 5 d) at h)
    go false d s h = six (rw (eqb-true kind 6 s) at h)
