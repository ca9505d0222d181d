-- The operand of kinds 12 to 15, 17 and 18 by its two words. Assumes nothing.
use Prim.Native.Nat.{ℕ, zero, suc, ◌*◌, ◌<◌, ◌≤◌}
use mathlib.Core.Path.{◌≡◌, refl}
use mathlib.Core.List.{List}
use native.Mathlib.Omega.{arith}
use borrow.Author.Tests.{eq-eqb, ne_eqb}
use lib.IntN.{pos, neg_ℤ}
use lib.ListN.{set}
use mir.Syntax.{w64}
use mir.Val.{Fits}
use Rattle.address.specs.Region.{all_words, access_trap}
use Rattle.address.specs.Word.{word_of}
use Rattle.operations.specs.Decode.{operand_of, post_of}
use Rattle.state.specs.State.{register}
use Rattle.state.specs.declared.settings.Settings.{Settings}
use Rattle.effects.specs.Access.{direct, access_at, operand_access, changed}
use Rattle.effects.specs.Pointer.{moved_of, raised_of, change_of}
use Rattle.effects.specs.declared.pointer.Purpose.{Purpose}

module _ (settings : Settings) (purpose : Purpose) (r form words a : ℕ) (w : List ℕ) where
  -- form 0: the register
  pub register_operand : form ≡ 0 → operand_access settings purpose (operand_of r form) w words ≡ direct r
  unfolding operand_access
  register_operand e = rw (eq-eqb form 0 e)

  -- forms 1 to 3: memory at the pointer
  pub memory_operand : (form ≡ 0 → ⊥) → register w r ≡ a
      → operand_access settings purpose (operand_of r form) w words ≡ access_at (all_words words) a (change_of settings purpose (post_of form) r a)
  unfolding operand_access
  memory_operand e held = rw (ne_eqb form 0 e, held)

  -- without a trap memory has a word there
  pub operand_free : register w r ≡ a → (operand_access settings purpose (operand_of r form) w words).trap ≡ 0 → 0 < form → access_trap (all_words words) a ≡ 0
  operand_free held e some = rw (memory_operand (λ z. omega arith) held) at e

  -- its pointer after form 2, form 3 and the others
  module _ (to : List ℕ) (held : register w r ≡ a) where
    abbrev after : List ℕ
    after = changed (operand_access settings purpose (operand_of r form) w words).change to

    pub operand_raised : form ≡ 2 → set to r (raised_of settings purpose r a) ≡ after
    unfolding operand_access changed change_of
    operand_raised e = rw (e, held)

    pub operand_lowered : form ≡ 3 → set to r (moved_of settings.x r a (neg_ℤ (pos 2))) ≡ after
    unfolding operand_access changed change_of
    operand_lowered e = rw (e, held)

    pub operand_stays : form ≤ 3 → (form ≡ 2 → ⊥) → (form ≡ 3 → ⊥) → to ≡ after
    unfolding operand_access changed change_of
    operand_stays l two three = go form l two three
      where
        go : (f : ℕ) → f ≤ 3 → (f ≡ 2 → ⊥) → (f ≡ 3 → ⊥) → to ≡ changed (operand_access settings purpose (operand_of r f) w words).change to
        go zero l two three = refl
        go (suc zero) l two three = refl
        go (suc (suc zero)) l two three = absurd (two refl)
        go (suc (suc (suc zero))) l two three = absurd (three refl)
        go (suc (suc (suc (suc n)))) l two three = absurd (omega arith)

-- a word's place fits
pub word_fits : (a : ℕ) → a < 65536 → Fits w64 (word_of a * 2)
unfolding word_of
word_fits a l = omega arith
