-- The last operation of each active loop, loop by loop; each slot names an operation. Assumes nothing.
use Prim.Native.Nat.{ℕ, ◌+◌, ◌-◌, ◌≤◌, ◌<◌}
use mathlib.Core.List.{List}
use mathlib.Core.Logic.{⊎_elim}
use mathlib.Core.Path.{◌≡◌, sym, ◌∙◌}
use native.Mathlib.Decide.{dec_le}
use native.Mathlib.Nat.{eq-or-lt_of_le, lt_of_not-le}
use native.Mathlib.Omega.{arith}
use borrow.Author.Tests.{lt-ltb}
use lib.ListN.{length, get_or, set}
use lib.Seq.{get_or-set_same, get_or-set_other}
use Rattle.operations.specs.declared.operation.Operation.{Operation}
use Rattle.program.specs.Placement.{role_at, last_of}
use Rattle.sequencer.specs.Standing.{last_in}

-- those of the first i loops
abbrev pub LastsOf : List Operation → List ℕ → List ℕ → ℕ → Type 0
LastsOf p starts lasts i = (j : ℕ) → j ≤ i → get_or lasts j 0 ≡ last_in p starts j

-- of none
pub lasts_none : (p : List Operation) (starts lasts : List ℕ) → get_or lasts 0 0 ≡ 65536 → LastsOf p starts lasts 0
lasts_none p starts lasts e j l = let none : j ≡ 0 = omega arith in rw none e

-- of one more
pub lasts_more : (p : List Operation) (starts lasts : List ℕ) (i last : ℕ) → i + 1 < length lasts → LastsOf p starts lasts i
    → last ≡ last_of (role_at p (get_or starts i 0)) → LastsOf p starts (set lasts (i + 1) last) (i + 1)
lasts_more p starts lasts i last end kept named j l =
    ⊎_elim (λ e. rw e (get_or-set_same lasts (i + 1) last 0 end ∙ named ∙ sym next))
    (λ k. get_or-set_other lasts (i + 1) j last 0 (λ e. omega arith) ∙ kept j (omega arith)) (eq-or-lt_of_le l)
  where
    next : last_in p starts (i + 1) ≡ last_of (role_at p (get_or starts i 0))
    next =
        let some : 0 < i + 1 = omega arith in
        let back : i + 1 - 1 ≡ i = omega arith in
        rw (lt-ltb 0 (i + 1) some, back)

-- each slot names an operation, or is zero
pub slots_small : (starts : List ℕ) (depth count : ℕ) → count ≤ 4032 → ((j : ℕ) → j < depth → get_or starts j 0 < count)
    → ((j : ℕ) → depth ≤ j → j < 4 → get_or starts j 0 ≡ 0) → (j : ℕ) → j < 4 → get_or starts j 0 < 4032
slots_small starts depth count most begun unused j l =
    elim (dec_le depth j) [
      | yes k ↦ let zero : get_or starts j 0 ≡ 0 = unused j k l in omega arith
      | no k ↦ let small : get_or starts j 0 < count = begun j (lt_of_not-le k) in omega arith
    ]
