-- The write-back by word 10: its place, and that it is free where the operation has no trap. Assumes nothing.
use Rattle.std.proofs.Common.{◌≡◌, ℕ, ◌<◌, List, arith, eq-eqb, ne_eqb}
use Rattle.address.specs.Region.{all_words, access_trap}
use Rattle.address.specs.Word.{word_of}
use Rattle.operations.specs.Decode.{write_back_of}
use Rattle.operations.specs.declared.operation.MacClass.{MacClass}
use Rattle.program.specs.Answer.{◌then◌}
use Rattle.program.proofs.Answers.{then_second}
use Rattle.state.specs.State.{register}
use Rattle.state.specs.declared.settings.Settings.{Settings}
use Rattle.effects.specs.Access.{back_access}
use Rattle.effects.specs.Mac.{mac_accesses, mac_trap}
use Rattle.effects.specs.declared.access.Place.TheVariants.{Nowhere, Register, Memory}
use Rattle.effects.specs.declared.mac.Accesses.{Accesses}

-- none, W13, memory
module _ (back words : ℕ) where
  pub back_none : back ≡ 0 → (settings : Settings) (old : List ℕ) → (back_access settings (write_back_of back) old words).place ≡ Nowhere
  unfolding back_access
  back_none e settings old = rw (eq-eqb back 0 e)

  pub back_register : back ≡ 1 → (settings : Settings) (old : List ℕ) → (back_access settings (write_back_of back) old words).place ≡ Register 13
  unfolding back_access
  back_register e settings old = rw e

  pub back_memory : (a : ℕ) → (back ≡ 0 → ⊥) → (back ≡ 1 → ⊥) → (settings : Settings) (old : List ℕ) → register old 13 ≡ a
      → (back_access settings (write_back_of back) old words).place ≡ Memory (record { 0 = word_of a })
  unfolding back_access
  back_memory a n m settings old e = rw (ne_eqb back 0 n, ne_eqb back 1 m, e)

-- to memory without a trap
pub free_back : (settings : Settings) (k : MacClass) (back a words : ℕ) (w : List ℕ) → k.back ≡ write_back_of back → register w 13 ≡ a → 1 < back
    → mac_trap (mac_accesses settings k w words) ≡ 0 → access_trap (all_words words) a ≡ 0
unfolding mac_accesses back_access
free_back settings k back a words w e h l t =
    let all : Accesses = mac_accesses settings k w words in
    let write = then_second all.y.trap all.back.trap (then_second all.x.trap (all.y.trap then all.back.trap) t) in
    rw (e, ne_eqb back 0 (λ z. omega arith), ne_eqb back 1 (λ z. omega arith), h) at write
