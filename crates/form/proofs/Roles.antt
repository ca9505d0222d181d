-- The role of the operation that words are: by word 0, the kind, and word 12, a loop's last. Assumes nothing.
use Prim.Native.Nat.{ℕ, ◌≤◌}
use mathlib.Core.Path.{◌≡◌, refl, sym, ◌∙◌}
use mathlib.Core.List.{List}
use mathlib.Core.Bool.{true}
use native.Mathlib.Omega.{arith}
use borrow.Author.Tests.{leb-true}
use lib.Dec.{eqb, leb}
use Rattle.operations.specs.declared.operation.Operation.{Operation}
use Rattle.operations.specs.declared.operation.Operation.TheVariants.{MacClass as MacOperation}
use Rattle.program.specs.Placement.{role_of, role_by_kind}
use Rattle.program.specs.declared.placement.Role.{Role}
use Rattle.program.specs.declared.placement.Role.TheVariants.{Plain}
use Rattle.program.proofs.Roles.{plain_kind, split, either}
use Rattle.form.specs.Words.{field, kind_in, mac_in, arithmetic_in, transfer_in, move_in, control_in, coded_at}

module _ (code : List ℕ) (at : ℕ) where
  abbrev kind : ℕ
  kind = kind_in code at

  abbrev role : Role
  role = role_by_kind kind (field code at 12)

  control_role : role_of (control_in code at) ≡ role
  control_role =
      split (eqb kind 19) _ _ role (λ e. rw e) (λ n19.
      split (eqb kind 20) _ _ role (λ e. rw (n19, e)) (λ n20.
      split (eqb kind 21) _ _ role (λ e. rw (n19, n20, e)) (λ n21.
      split (eqb kind 22) _ _ role (λ e. rw (n19, n20, n21, e)) (λ n22.
      rw (n19, n20, n21, n22) (either (eqb kind 23) _ _ Plain refl (either (eqb kind 24) _ _ Plain refl refl))))))

  up_to : (n : ℕ) → n ≤ 18 → (x : Operation) → role_of x ≡ Plain → leb kind n ≡ true → role_of x ≡ role
  up_to n most x plain e =
      let low = leb-true kind n e in
      plain ∙ sym (plain_kind kind (field code at 12) (omega arith))

  pub role_in : role_of (coded_at code at) ≡ role
  unfolding coded_at
  role_in =
      split (leb kind 7) _ _ role (up_to 7 (omega arith) (MacOperation (mac_in code at)) refl) (λ e.
      split (leb kind 11) _ _ role
      (up_to 11 (omega arith) (arithmetic_in code at) (either (eqb kind 8) _ _ Plain refl (either (eqb kind 9) _ _ Plain refl (either (eqb kind 10) _ _ Plain refl refl)))) (λ e.
      split (leb kind 15) _ _ role
      (up_to 15 (omega arith) (transfer_in code at) (either (eqb kind 12) _ _ Plain refl (either (eqb kind 13) _ _ Plain refl (either (eqb kind 14) _ _ Plain refl refl)))) (λ e.
      split (leb kind 18) _ _ role
      (up_to 18 (omega arith) (move_in code at) (either (eqb kind 16) _ _ Plain refl (either (eqb kind 17) _ _ Plain refl refl))) (λ e.
      control_role))))
