-- A listed operation is what its 16 words are, wherever they stand. Assumes nothing.
use Prim.Native.Nat.{ℕ, ◌+◌, ◌/◌, ◌%◌, ◌≤◌, ◌<◌}
use mathlib.Core.Path.{◌≡◌, refl, ◌∙◌}
use mathlib.Core.Bool.{Bool, true, ◌&&◌, ◌||◌, not}
use mathlib.Core.List.{List}
use native.Mathlib.Omega.{arith}
use native.Mathlib.Nat.{add-zero}
use borrow.Author.Tests.{eqb-true, leb-true, ltb-true, eq-eqb, ne_eqb}
use lib.Dec.{eqb, leb, ltb}
use lib.ListN.{get_or, take, drop}
use lib.Seq.{get_or-take, get_or-drop}
use Rattle.integers.proofs.Whole.{both, by_test}
use Rattle.operations.specs.declared.operation.Prefetch.{Prefetch}
use Rattle.operations.specs.declared.operation.Prefetch.TheVariants.{None as NoPrefetch, Pointer, Sum}
use Rattle.operations.specs.declared.operation.PostModification.{PostModification}
use Rattle.operations.specs.declared.operation.PostModification.TheVariants.{None as Stays, Increment, Decrement}
use Rattle.operations.specs.declared.operation.Operand.{Operand}
use Rattle.operations.specs.declared.operation.Operand.TheVariants.{Register, Memory}
use Rattle.operations.specs.declared.operation.MacClass.{MacClass}
use Rattle.operations.specs.declared.operation.Operation.{Operation}
use Rattle.operations.specs.declared.operation.Operation.TheVariants.{MacClass as MacOperation, AddAccumulators, Subtract, Negate, Shift}
use Rattle.operations.specs.declared.operation.Operation.TheVariants.{Lac, Add, Sac, SacR, Literal, Load, Store, Repeat, RepeatRegister, Do}
use Rattle.operations.specs.declared.operation.Operation.TheVariants.{DoRegister, EndEarly, SetMode, ClearSaturation}
use Rattle.operations.specs.Encode.{action_byte, prefetch_byte, mac_bytes, post_byte, pointer_byte, form_byte, encode_of}
use Rattle.operations.specs.Listed.{is_register, is_factor, are_factors, is_prefetch, reads, is_destination, are_destinations, is_write_back, is_listed_mac, is_listed_operand, is_listed}
use Rattle.operations.specs.Decode.{post_of, operand_of}
use Rattle.operations.proofs.Operations.{target_again, action_again, action_kind, write_back_again, word_again, near, low_nibble, high_nibble}
use Rattle.form.specs.Words.{words_of_bytes, words_for, prefetch_in, coded_at}

-- ---- each field from its words

post_again : (p : PostModification) → post_of (post_byte p % 16) ≡ p
post_again Stays = refl
post_again Increment = refl
post_again Decrement = refl

low_same : (r : ℕ) → r < 16 → r % 16 ≡ r
low_same r h = omega arith

prefetch_again : (first sum : ℕ) → 0 < first → first + 1 < sum → sum < 16 → (p : Prefetch) → is_prefetch first p ≡ true
    → prefetch_in (prefetch_byte p sum % 16) (prefetch_byte p sum / 16) sum ≡ p
prefetch_again first sum some above most NoPrefetch e = refl
prefetch_again first sum some above most (Pointer r c) e =
    let t = both (eqb r first || eqb r (first + 1)) (leb c 6) e in
    let pointer = near r first t.0 in
    let step = leb-true c 6 t.1 in
    rw (
      low_nibble r c (omega arith),
      high_nibble r c (omega arith),
      ne_eqb r 0 (λ z. omega arith),
      ne_eqb r sum (λ z. omega arith),
    )
prefetch_again first sum some above most Sum e = rw (low_same sum most, ne_eqb sum 0 (λ z. omega arith), eq-eqb sum sum refl)

-- ---- the ranges of the fields

pub factor_range : (r : ℕ) → is_factor r ≡ true → (4 ≤ r) × (r ≤ 7)
factor_range r e = let t = both (leb 4 r) (leb r 7) e in (leb-true 4 r t.0, leb-true r 7 t.1)

pub factors_range : (kind m n : ℕ) → are_factors kind m n ≡ true → (m ≤ 7) × (n ≤ 7)
factors_range kind m n =
    by_test (λ t. t ≡ true → (m ≤ 7) × (n ≤ 7)) (eqb kind 1 || eqb kind 7)
    (λ d e. let t = both (eqb m 0) (eqb n 0) e in omega (arith, eqb-true m 0 t.0, eqb-true n 0 t.1))
    (λ d e.
    let t = both (is_factor m) (is_factor n) (both (is_factor m && is_factor n) (not (eqb kind 5 || eqb kind 6) || eqb m n) e).0 in
    ((factor_range m t.0).1, (factor_range n t.1).1))

destination_range : (p : Prefetch) (to : ℕ) → is_destination p to ≡ true → to ≤ 7
destination_range p to =
    by_test (λ t. t ≡ true → to ≤ 7) (reads p) (λ d e. (factor_range to e).1) (λ d e. omega (arith, eqb-true to 0 e))

pub destinations_range : (kind : ℕ) (x y : Prefetch) (xto yto : ℕ) → are_destinations kind x y xto yto ≡ true → (xto ≤ 7) × (yto ≤ 7)
destinations_range kind x y xto yto =
    by_test (λ t. t ≡ true → (xto ≤ 7) × (yto ≤ 7)) (eqb kind 5 || eqb kind 6)
    (λ d e.
    let t = both (reads x && reads y && is_factor xto) (eqb yto 0) e in
    ((factor_range xto (both (reads x && reads y) (is_factor xto) t.0).1).1, omega (arith, eqb-true yto 0 t.1)))
    (λ d e.
    let t = both (is_destination x xto) (is_destination y yto) (both (is_destination x xto && is_destination y yto) (not (reads x && reads y && eqb xto yto)) e).0 in
    (destination_range x xto t.0, destination_range y yto t.1))

-- a pointer word is 0, the pointer or the sum's number
pub prefetch_range : (first r c sum : ℕ) → first + 1 < sum → is_prefetch first (prefetch_in r c sum) ≡ true → r ≤ sum
prefetch_range first r c sum l =
    by_test (λ p. is_prefetch first p ≡ true → r ≤ sum) (eqb r 0)
    (λ d e. omega (arith, eqb-true r 0 d))
    (λ d.
    by_test (λ p. is_prefetch first p ≡ true → r ≤ sum) (eqb r sum)
    (λ d e. omega (arith, eqb-true r sum d))
    (λ d e. omega (arith, near r first (both (eqb r first || eqb r (first + 1)) (leb c 6) e).0)))

-- the parts of a listed operation of kinds 1 to 7
pub record ListedMac (k : MacClass) : Type 0 where
  pub factors : are_factors (action_byte k.action) k.m k.n ≡ true
  pub x : is_prefetch 8 k.x ≡ true
  pub y : is_prefetch 10 k.y ≡ true
  pub destinations : are_destinations (action_byte k.action) k.x k.y k.xto k.yto ≡ true
  pub back : is_write_back (action_byte k.action) k.back ≡ true

pub listed_mac : (k : MacClass) → is_listed_mac k ≡ true → ListedMac k
unfolding is_listed_mac
listed_mac k e =
    let kind : ℕ = action_byte k.action in
    let factors : Bool = are_factors kind k.m k.n in
    let x : Bool = is_prefetch 8 k.x in
    let y : Bool = is_prefetch 10 k.y in
    let destinations : Bool = are_destinations kind k.x k.y k.xto k.yto in
    let s = both (factors && x && y && destinations) (is_write_back kind k.back) e in
    let t = both (factors && x && y) destinations s.0 in
    let u = both (factors && x) y t.0 in
    let v = both factors x u.0 in
    record { factors = v.0; x = v.1; y = u.1; destinations = t.1; back = s.1 }

-- ---- the operation again

mac_again : (k : MacClass) → is_listed_mac k ≡ true → coded_at (words_of_bytes (mac_bytes k)) 0 ≡ MacOperation k
unfolding coded_at words_of_bytes
mac_again k e =
    let l = listed_mac k e in
    let kind : ℕ = action_byte k.action in
    let nibble = factors_range kind k.m k.n l.factors in
    let to = destinations_range kind k.x k.y k.xto k.yto l.destinations in
    rw (
      action_kind k.action,
      action_again k.action,
      target_again k.target,
      low_nibble k.m k.n (omega arith),
      high_nibble k.m k.n (omega arith),
      prefetch_again 8 12 (omega arith) (omega arith) (omega arith) k.x l.x,
      prefetch_again 10 13 (omega arith) (omega arith) (omega arith) k.y l.y,
      low_nibble k.xto k.yto (omega arith),
      high_nibble k.xto k.yto (omega arith),
      write_back_again k.back,
    )

register_again : (r : ℕ) → is_register r ≡ true → r % 16 ≡ r
register_again r e = omega (arith, ltb-true r 14 e)

form_again : (o : Operand) → operand_of (pointer_byte o) (form_byte o % 16) ≡ o
form_again (Register r) = refl
form_again (Memory p Stays) = refl
form_again (Memory p Increment) = refl
form_again (Memory p Decrement) = refl

-- shift and register of kinds 12 to 15
operand_fields : (s : ℕ) (o : Operand) → is_listed_operand s o ≡ true → (s % 16 ≡ s) × (pointer_byte o % 16 ≡ pointer_byte o)
operand_fields s (Register r) e =
    let t = both (ltb s 16) (is_register r) e in (omega (arith, ltb-true s 16 t.0), register_again r t.1)
operand_fields s (Memory p post) e =
    let t = both (ltb s 16) (is_register p) e in (omega (arith, ltb-true s 16 t.0), register_again p t.1)

pub words_again : (o : Operation) → is_listed o ≡ true → coded_at (words_for o) 0 ≡ o
unfolding coded_at words_of_bytes words_for encode_of is_listed
words_again (MacOperation k) e = mac_again k e
words_again (AddAccumulators t) e = rw (target_again t)
words_again (Subtract t) e = rw (target_again t)
words_again (Negate t) e = rw (target_again t)
words_again (Shift t r) e = rw (target_again t, register_again r e)
words_again (Lac t s o) e = let f = operand_fields s o e in rw (target_again t, f.0, f.1, form_again o)
words_again (Add t s o) e = let f = operand_fields s o e in rw (target_again t, f.0, f.1, form_again o)
words_again (Sac t s o) e = let f = operand_fields s o e in rw (target_again t, f.0, f.1, form_again o)
words_again (SacR t s o) e = let f = operand_fields s o e in rw (target_again t, f.0, f.1, form_again o)
words_again (Literal r v) e = rw (word_again v)
words_again (Load r p post) e = rw (register_again p (both (is_register r) (is_register p) e).1, post_again post)
words_again (Store r p post) e = rw (register_again p (both (is_register r) (is_register p) e).1, post_again post)
words_again (Repeat n) e = rw (word_again n)
words_again (RepeatRegister r) e = refl
words_again (Do n last) e = rw (word_again n, word_again last)
words_again (DoRegister r last) e = rw (word_again last)
words_again EndEarly e = refl
words_again (SetMode w) e = rw (word_again w)
words_again ClearSaturation e = refl

-- ---- wherever the words stand

-- 16 words from `at` on are those of a list by itself
pub placed : (code : List ℕ) (at : ℕ) → coded_at code at ≡ coded_at (take 16 (drop at code)) 0
unfolding coded_at
placed code at =
    let f : (k : ℕ) → k < 16 → get_or (take 16 (drop at code)) k 0 ≡ get_or code (at + k) 0 =
    λ k l. get_or-take 16 (drop at code) k 0 l ∙ get_or-drop at code k 0 in
    let kind : get_or (take 16 (drop at code)) 0 0 ≡ get_or code at 0 = f 0 (omega arith) ∙ rw add-zero in
    rw (
      kind,
      f 1 (omega arith),
      f 2 (omega arith),
      f 3 (omega arith),
      f 4 (omega arith),
      f 5 (omega arith),
      f 6 (omega arith),
      f 7 (omega arith),
      f 8 (omega arith),
      f 9 (omega arith),
      f 10 (omega arith),
      f 11 (omega arith),
      f 12 (omega arith),
    )

-- every listed operation is the one read from 16 words that are those of its 8 bytes
pub operation_again : (code : List ℕ) (at : ℕ) (o : Operation) → is_listed o ≡ true → take 16 (drop at code) ≡ words_for o → coded_at code at ≡ o
operation_again code at o e w = placed code at ∙ rw w (words_again o e)
