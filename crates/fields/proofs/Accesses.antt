-- Traps and words of the reads beside an operation, by its words. Assumes nothing.
use Prim.Native.Nat.{ℕ, ◌<◌}
use mathlib.Core.Path.{◌≡◌, refl}
use mathlib.Core.Bool.{Bool, true, false, cond}
use mathlib.Core.List.{List}
use native.Mathlib.Omega.{arith}
use borrow.Author.Tests.{eq-eqb, ne_eqb, eqb-false}
use lib.Dec.{eqb}
use Rattle.std.specs.Prelude.{Result}
use Rattle.address.specs.declared.trap.Trap.{Trap}
use Rattle.operations.specs.Decode.{write_back_of}
use Rattle.operations.specs.declared.operation.WriteBack.TheVariants.{None as NoWriteBack, Register as ToRegister, Memory as ToMemory}
use Rattle.operations.specs.declared.operation.Prefetch.TheVariants.{Pointer, Sum}
use Rattle.state.specs.State.{register}
use Rattle.state.specs.declared.settings.Settings.{Settings}
use Rattle.effects.specs.Access.{access_at, sum_address, region_of, circular_for, prefetch_access, back_access}
use Rattle.effects.specs.Pointer.{moved_of, step_of}
use Rattle.effects.specs.declared.access.Space.{Space}
use Rattle.effects.specs.declared.pointer.Change.{Change}
use Rattle.effects.specs.declared.pointer.Change.TheVariants.{None as NoChange, To}
use Rattle.form.specs.Words.{prefetch_in}
use Rattle.fields.specs.Carried.{Reads}

-- ---- a prefetch by its two words

-- there is one
module _ (s : Settings) (space : Space) (r c sum words : ℕ) (w : List ℕ) (some : r ≡ 0 → ⊥) where
  pub prefetch_reads : (memory : List ℕ) (x : Result ℕ Trap) (a : ℕ) → a ≡ register w r
      → ((w' : List ℕ) (change : Change) → Reads x (access_at (region_of s words space) (cond (eqb r sum) (sum_address space w) a) change) w' memory)
      → Reads x (prefetch_access s space (prefetch_in r c sum) w words) w memory
  unfolding prefetch_access
  prefetch_reads memory x a e h = rw (ne_eqb r 0 some) (go (eqb r sum) (h w))
    where
      go : (t : Bool) → ((change : Change) → Reads x (access_at (region_of s words space) (cond t (sum_address space w) a) change) w memory)
          → Reads x (prefetch_access s space (cond t Sum (Pointer r c)) w words) w memory
      go true k = k NoChange
      go false k = rw (← e) (k (To r (record { 0 = moved_of (circular_for s space) r a (step_of c) })))

-- ---- a write-back that is not to memory

pub back_free : (s : Settings) (back words : ℕ) (w : List ℕ) → back < 2 → 0 ≡ (back_access s (write_back_of back) w words).trap
unfolding back_access
back_free s back words w l = go (eqb back 0) refl
  where
    go : (b : Bool) → eqb back 0 ≡ b → 0 ≡ (back_access s (cond b NoWriteBack (cond (eqb back 1) ToRegister ToMemory)) w words).trap
    go true h = refl
    go false h = rw (eq-eqb back 1 (omega (arith, eqb-false back 0 h)))
