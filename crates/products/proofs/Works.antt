-- The whole work of kinds 1 to 7: a trap without effect, or registers, write-back and result put together. Assumes nothing.
use Rattle.std.proofs.Common.{◌≡◌, ℕ, ◌-◌, ◌≤◌, Bool, true, false, ◌||◌, eqb, List, length, get_or, ℤ, pos, Option, Ok, Err, sym, refl, eq-eqb, ne_eqb, eqb-true}
use Rattle.address.specs.Trap.{trap_number}
use Rattle.address.specs.declared.trap.Trap.{Trap}
use Rattle.address.proofs.Traps.{trap_some}
use Rattle.accumulator.specs.Mode.{mode_of}
use Rattle.accumulator.specs.declared.mode.Mode.{Mode}
use Rattle.accumulator.specs.declared.mode.Target.{Target}
use Rattle.operations.specs.Encode.{action_byte}
use Rattle.operations.specs.Decode.{target_of, action_of}
use Rattle.operations.specs.Listed.{are_factors}
use Rattle.state.specs.declared.settings.Settings.{Settings}
use Rattle.effects.specs.Mac.{mac_product, mac_square, exact_by, mac_exact, mac_accesses, mac_trap, mac_registers, mac_work}
use Rattle.effects.specs.Operations.{work_of}
use Rattle.effects.specs.declared.effect.Value.TheVariants.{Scaled}
use Rattle.effects.specs.declared.mac.Accesses.{Accesses}
use Rattle.machine.specs.Write.{value_word, put_register, put_memory}
use Rattle.form.specs.Words.{field, kind_in, mac_in}
use Rattle.form.specs.Form.{Encoded}
use Rattle.form.proofs.Fields.{mac_operation, mac_fields, square_factors}
use Rattle.fields.specs.Carried.{exact_of, carried_of, Carries}
use Rattle.fields.proofs.Accumulators.{target_value, other_value}
use Rattle.products.specs.Fetched.{SquareIs}
use Rattle.products.proofs.Ranges.{mac_kind}

-- the product of equal factors is the square
square_kind : (kind : ℕ) → (eqb kind 5 || eqb kind 6) ≡ true → action_byte (action_of kind) ≡ kind
square_kind kind t = go (eqb kind 5) refl t
  where
    go : (b : Bool) → eqb kind 5 ≡ b → (b || eqb kind 6) ≡ true → action_byte (action_of kind) ≡ kind
    go true h t = rw (eqb-true kind 5 h)
    go false h t = rw (eqb-true kind 6 t)

square_is : (mode : Mode) (code : List ℕ) (at : ℕ) (w : List ℕ)
    → are_factors (action_byte (action_of (kind_in code at))) (field code at 2) (field code at 3) ≡ true
    → SquareIs (kind_in code at) (mac_square mode (mac_in code at) w) (mac_product mode (mac_in code at) w)
square_is mode code at w e t =
    let kind : ℕ = kind_in code at in
    rw (square_factors kind (field code at 2) (field code at 3) t (rw (square_kind kind t) at e))

-- what the exact result says of a kind, an accumulator and a product
abbrev pub Exactly : Option ℤ → ℕ → ℤ → ℤ → Type 0
Exactly r kind v p =
    (t : Target) (square : ℤ) → 1 ≤ kind → kind ≤ 7 → SquareIs kind square p → exact_of t r ≡ exact_by (action_of kind) t v p square

module _ (settings : Settings) (mode : ℕ) {code : List ℕ} {at : ℕ} (acc : List ℤ) (w memory : List ℕ) (e : Encoded code at) (l : kind_in code at ≤ 7) where
  abbrev accesses : Accesses
  accesses = mac_accesses settings (mac_in code at) w (length memory)

  abbrev stored : ℕ
  stored = value_word (mode_of mode) (Scaled true (get_or acc (1 - field code at 1) (pos 0)))

  -- with a trap nothing changes
  pub mac_trapped : (trap : Trap) → trap_number trap ≡ mac_trap accesses → Carries settings mode code at acc w memory w memory (Err trap)
  unfolding work_of mac_work carried_of put_register put_memory
  mac_trapped trap is c = rw (mac_operation code at l, ← is, ne_eqb (trap_number trap) 0 (trap_some trap))

  -- without one
  pub mac_carries : {w1 w2 memory2 : List ℕ} → 0 ≡ mac_trap accesses → (r : Option ℤ) (p : ℤ)
      → p ≡ mac_product (mode_of mode) (mac_in code at) w
      → w1 ≡ mac_registers (mac_in code at) accesses w memory
      → w2 ≡ put_register accesses.back.place stored w1
      → memory2 ≡ put_memory accesses.back.place stored memory
      → Exactly r (kind_in code at) (get_or acc (field code at 1) (pos 0)) p
      → Carries settings mode code at acc w memory w2 memory2 (Ok r)
  unfolding work_of mac_work carried_of mac_exact
  mac_carries {w1} {w2} {memory2} free r p product e1 e2 e3 exact c =
      let t : ℕ = field code at 1 in
      let fields = mac_fields e l in
      let square : ℤ = mac_square (mode_of mode) (mac_in code at) w in
      let exactly = rw product at (exact (target_of t) square (mac_kind e l) l (rw product (square_is (mode_of mode) code at w fields.factors))) in
      rw (
        mac_operation code at l,
        eq-eqb (mac_trap accesses) 0 (sym free),
        target_value c acc w t fields.target,
        other_value c acc w t fields.target,
        e2,
        e1,
        e3,
        exactly,
      )
