-- What an operation comes to, of those that are not barred, depends on A and B modulo 2^40 alone and on no O flag, and it leaves the mode word. Assumes
-- nothing.
use Prim.Native.Nat.{ℕ}
use mathlib.Core.Bool.{Bool, false, not, false≢true, ◌||◌}
use mathlib.Core.List.{List}
use mathlib.Core.Logic.{◌⊎◌, inl, inr}
use mathlib.Core.Path.{◌≡◌, refl, sym, ◌∙◌}
use lib.Dec.{eqb}
use lib.IntN.{ℤ}
use lib.ListN.{get_or}
use Rattle.integers.specs.Bits.{SameModulo}
use Rattle.integers.proofs.Whole.{neither}
use Rattle.integers.proofs.Modulo.{same_self, same_sum, same_neg, same_less}
use Rattle.accumulator.specs.declared.mode.Mode.{Mode}
use Rattle.operations.specs.Encode.{encode_of}
use Rattle.operations.specs.declared.operation.Operation.{Operation}
use Rattle.state.specs.declared.settings.Settings.{Settings}
use Rattle.state.specs.declared.state.Core.{Core}
use Rattle.effects.specs.Effect.{Work}
use Rattle.effects.specs.Operations.{work_of}
use Rattle.effects.specs.declared.access.Place.TheVariants.{Nowhere}
use Rattle.effects.proofs.Alike.{Congruence, ExactsAlike, WorksAlike, reads_whole, work_alike}
use Rattle.machine.specs.Write.{value_word, put_register, put_memory}
use Rattle.machine.specs.Control.{control_of}
use Rattle.machine.proofs.Order.{with_sums, mode_after}
use Rattle.machine.proofs.ControlKinds.{by_kind}
use Rattle.runs.specs.Wraps.{is_barred_kind, is_barred}

-- equal modulo 2^40
modulo : Congruence (SameModulo 40)
modulo = record { self = same_self; sum = same_sum; less = same_less; opposite = same_neg }

-- two works with the same trap, exact results equal modulo 2^40, and the same registers and memory after the store
pub record SameWork (m : Mode) (u v : Work) : Type 0 where
  pub trap : u.effect.trap ≡ v.effect.trap
  pub exact : ExactsAlike (SameModulo 40) u.effect.exact v.effect.exact
  pub registers :
      put_register u.effect.place (value_word m u.effect.value) u.w
      ≡ put_register v.effect.place (value_word m v.effect.value) v.w
  pub memory :
      (memory : List ℕ) → put_memory u.effect.place (value_word m u.effect.value) memory
      ≡ put_memory v.effect.place (value_word m v.effect.value) memory

-- works alike store alike: nothing is stored nowhere, whatever its value
stored_alike : (m : Mode) (u v : Work) → WorksAlike (SameModulo 40) u v → SameWork m u v
unfolding put_register put_memory
stored_alike m u v h = go h.stored
  where
    go : (u.effect.place ≡ Nowhere) ⊎ (u.effect.value ≡ v.effect.value) → SameWork m u v
    go (inl none) =
        record {
          trap = h.trap;
          exact = h.exact;
          registers = rw (sym h.place, none) h.registers;
          memory = λ memory. rw (sym h.place, none);
        }
    go (inr same) =
        record { trap = h.trap; exact = h.exact; registers = rw (h.place, same, h.registers); memory = λ memory. rw (h.place, same) }

-- what is not barred is none of kinds 11, 14, 15, 24 and 25 and has no write-back
unbarred_kinds : (b : ℕ) → is_barred_kind b ≡ false → ((eqb b 11 || (eqb b 14 || eqb b 15)) ≡ false) × (eqb b 24 ≡ false)
unbarred_kinds b h =
    let (shift, four) = neither (eqb b 11) (eqb b 14 || (eqb b 15 || (eqb b 24 || eqb b 25))) h in
    let (sac, three) = neither (eqb b 14) (eqb b 15 || (eqb b 24 || eqb b 25)) four in
    let (rounded, two) = neither (eqb b 15) (eqb b 24 || eqb b 25) three in
    (rw (shift, sac, rounded), (neither (eqb b 24) (eqb b 25) two).0)

module _ (s : Settings) (m : Mode) (c : Core) (memory : List ℕ) (a b : ℤ) (oa ob : Bool)
    (ha : SameModulo 40 c.a a) (hb : SameModulo 40 c.b b) where
  -- the works of an operation on the core and on one with other accumulators, equal modulo 2^40, and other O flags; its mode word afterwards
  pub record Unbarred (o : Operation) : Type 0 where
    pub work : SameWork m (work_of s m o c memory) (work_of s m o (with_sums c a b oa ob) memory)
    pub mode : (word : ℕ) → mode_after (control_of o) word ≡ word

  pub unbarred : (o : Operation) → is_barred o ≡ false → Unbarred o
  unfolding is_barred reads_whole
  unbarred o h =
      let b0 = get_or (encode_of o) 0 0 in
      let (kind, back) = neither (is_barred_kind b0) (not (eqb (get_or (encode_of o) 6 0) 0)) h in
      let (sums, sets) = unbarred_kinds b0 kind in
      let (shift, stores) = neither (eqb b0 11) (eqb b0 14 || eqb b0 15) sums in
      let (sac, rounded) = neither (eqb b0 14) (eqb b0 15) stores in
      let none : reads_whole o ≡ false = rw (shift, sac, rounded, back) in
      record {
        work =
            stored_alike m _ _
            (work_alike (SameModulo 40) modulo s m memory c a b c.pc c.loops c.repeat c.mode oa ob refl ha hb o (λ e. absurd (false≢true (sym none ∙ e))));
        mode = λ word. (by_kind o).mode word ∙ rw sets;
      }
