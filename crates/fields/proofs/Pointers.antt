-- Pointers stepped by an operation's words. Assumes nothing.
use Prim.Native.Nat.{ℕ, ◌≤◌, ◌<◌}
use mathlib.Core.Path.{◌≡◌, refl, sym}
use mathlib.Core.Bool.{Bool, true, false, cond, ◌&&◌, not}
use mathlib.Core.List.{List}
use native.Mathlib.Omega.{arith}
use borrow.Author.Tests.{eq-eqb, ne_eqb, eqb-false, not-true}
use lib.Dec.{eqb}
use lib.IntN.{pos}
use lib.ListN.{set}
use Rattle.integers.proofs.Whole.{both, never}
use Rattle.operations.specs.declared.operation.Prefetch.TheVariants.{None as NoPrefetch, Pointer, Sum}
use Rattle.operations.specs.declared.operation.WriteBack.TheVariants.{None as NoWriteBack, Register as ToRegister, Memory as ToMemory}
use Rattle.operations.specs.Decode.{write_back_of}
use Rattle.state.specs.State.{register}
use Rattle.state.specs.declared.settings.Settings.{Settings}
use Rattle.effects.specs.Access.{circular_for, prefetch_access, back_access, changed}
use Rattle.effects.specs.Pointer.{moved_of, step_of}
use Rattle.effects.specs.declared.access.Space.{Space}
use Rattle.form.specs.Words.{prefetch_in}

module _ (settings : Settings) (space : Space) (r c sum a words : ℕ) (old w : List ℕ) (held : register old r ≡ a) where
  pub pointer_moves : (not (eqb r 0) && not (eqb r sum)) ≡ true
      → set w r (moved_of (circular_for settings space) r a (step_of c)) ≡ changed (prefetch_access settings space (prefetch_in r c sum) old words).change w
  unfolding prefetch_access changed
  pointer_moves t =
      let parts = both (not (eqb r 0)) (not (eqb r sum)) t in
      rw (not-true (eqb r 0) parts.0, not-true (eqb r sum) parts.1, held)

  pub pointer_stays : (not (eqb r 0) && not (eqb r sum)) ≡ false → w ≡ changed (prefetch_access settings space (prefetch_in r c sum) old words).change w
  unfolding prefetch_access changed
  pointer_stays t = go (eqb r 0) (eqb r sum) t
    where
      go : (b d : Bool) → (not b && not d) ≡ false → w ≡ changed (prefetch_access settings space (cond b NoPrefetch (cond d Sum (Pointer r c))) old words).change w
      go true d h = refl
      go false true h = refl
      go false false h = never (sym h)

module _ (settings : Settings) (back a words : ℕ) (old w : List ℕ) (held : register old 13 ≡ a) where
  pub back_moves : 1 < back → set w 13 (moved_of settings.x 13 a (pos 2)) ≡ changed (back_access settings (write_back_of back) old words).change w
  unfolding back_access changed
  back_moves l = rw (ne_eqb back 0 (λ z. omega arith), ne_eqb back 1 (λ z. omega arith), held)

  pub back_stays : back ≤ 1 → w ≡ changed (back_access settings (write_back_of back) old words).change w
  unfolding back_access changed
  back_stays l = go (eqb back 0) refl
    where
      go : (b : Bool) → eqb back 0 ≡ b → w ≡ changed (back_access settings (cond b NoWriteBack (cond (eqb back 1) ToRegister ToMemory)) old words).change w
      go true h = refl
      go false h = rw (eq-eqb back 1 (omega (arith, eqb-false back 0 h)))
