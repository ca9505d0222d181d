-- An access has no trap exactly where its address is that of a word of the region: both directions, by the tests of the definition; its trap is at most 2.
-- Assumes nothing.
use Rattle.std.proofs.Common.{◌≡◌, ℕ, ◌%◌, ◌<◌, ◌≤◌, Bool, true, false, cond, ◌&&◌, eqb, ltb, leb, sym, refl, ap, ◌∙◌, arith, lit≤, ltb-false, ltb-true, lt-ltb, ne_eqb, le-leb, leb-true}
use borrow.Author.Tests.{eqb-false}
use Rattle.integers.proofs.Whole.{both, by_test}
use Rattle.address.specs.declared.region.Region.{Region}
use Rattle.address.specs.Word.{address_of, word_of}
use Rattle.address.specs.Region.{is_inside, access_trap}
use Rattle.address.proofs.Words.{word_address, address_word}

pub word_free : (region : Region) (i : ℕ) → region.first.0 ≤ i → i < region.end.0 → access_trap region (address_of i) ≡ 0
unfolding access_trap is_inside
word_free region i h l =
    let even : eqb (address_of i % 2) 1 ≡ false = ne_eqb (address_of i % 2) 1 (λ (e : address_of i % 2 ≡ 1). omega arith) in
    rw (even, le-leb (address_of 0) (address_of i) (omega arith), word_address i, le-leb region.first.0 i h, lt-ltb i region.end.0 l)

-- a choice of numbers that is 0 tells its test
zero_second : (t : Bool) (n : ℕ) → cond t 1 n ≡ 0 → (t ≡ false) × (n ≡ 0)
zero_second true n e = absurd (omega arith)
zero_second false n e = (refl, e)

zero_first : (t : Bool) → ◌≡◌ {A = ℕ} (cond t 0 2) 0 → t ≡ true
zero_first true e = refl
zero_first false e = absurd (omega arith)

pub free_word :
    (region : Region) (a : ℕ) → access_trap region a ≡ 0
    → (a ≡ address_of (word_of a)) × (region.first.0 ≤ word_of a) × (word_of a < region.end.0)
unfolding access_trap is_inside
free_word region a e =
    let t = zero_second (eqb (a % 2) 1) (cond (is_inside region a) 0 2) e in
    let even : a % 2 ≡ 0 = omega (arith, eqb-false (a % 2) 1 t.0) in
    let i = word_of a in
    let inside = both (leb (address_of 0) a) (leb region.first.0 i && ltb i region.end.0) (zero_first (is_inside region a) t.1) in
    let part = both (leb region.first.0 i) (ltb i region.end.0) inside.1 in
    (sym (address_word a (leb-true (address_of 0) a inside.0) even), leb-true region.first.0 i part.0, ltb-true i region.end.0 part.1)

-- ---- by the number of the word at an address

-- below the lesser of two numbers
both_below : (i end : ℕ) → ltb i (cond (ltb end 30720) end 30720) ≡ true → (i < end) × (i < 30720)
both_below i end =
    by_test (λ (n : ℕ). ltb i n ≡ true → (i < end) × (i < 30720)) (ltb end 30720)
    (λ less e. (ltb-true i end e, omega (arith, ltb-true i end e, ltb-true end 30720 less)))
    (λ more e. (omega (arith, ltb-true i 30720 e, ltb-false end 30720 more), ltb-true i 30720 e))

below_both : (i end : ℕ) → i < end → i < 30720 → ltb i (cond (ltb end 30720) end 30720) ≡ true
below_both i end h l = by_test (λ (n : ℕ). ltb i n ≡ true) (ltb end 30720) (λ less. lt-ltb i end h) (λ more. lt-ltb i 30720 l)

module _ (region : Region) (a i : ℕ) where
  -- what `Region::has` tells
  abbrev pub is_word_in : Bool
  is_word_in = leb region.first.0 i && ltb i (cond (ltb region.end.0 30720) region.end.0 30720)

  -- the number of one of its words is that of the word at the address, and the access has no trap
  pub has_word : (i < 30720 → a ≡ address_of i) → is_word_in ≡ true → (a ≡ address_of i) × (i < region.end.0) × (access_trap region a ≡ 0)
  has_word number e =
      let first : ℕ = region.first.0 in
      let end : ℕ = region.end.0 in
      let t = both (leb first i) (ltb i (cond (ltb end 30720) end 30720)) e in
      let below = both_below i end t.1 in
      let same = number below.1 in
      (same, below.0, ap (access_trap region) same ∙ word_free region i (leb-true first i t.0) below.0)

  -- without a trap it is the number of one of its words
  pub free_has : a < 65536 → ((j : ℕ) → a ≡ address_of j → i ≡ j) → access_trap region a ≡ 0 → is_word_in ≡ true
  free_has small number e =
      let free = free_word region a e in
      let same = number (word_of a) free.0 in
      rw (
        le-leb region.first.0 i (omega (arith, same, free.1)),
        below_both i region.end.0 (omega (arith, same, free.2)) (omega (arith, same, free.0, small)),
      )

-- an even access with a trap is outside its region
last_trap : (odd inside : Bool) → odd ≡ false → (◌≡◌ {A = ℕ} (cond odd 1 (cond inside 0 2)) 0 → ⊥) → ◌≡◌ {A = ℕ} 2 (cond odd 1 (cond inside 0 2))
last_trap odd true e some = absurd (some (rw e))
last_trap odd false e some = rw e

pub outside_trap_lem : (region : Region) (a : ℕ) → eqb (a % 2) 1 ≡ false → (access_trap region a ≡ 0 → ⊥) → 2 ≡ access_trap region a
unfolding access_trap
outside_trap_lem region a e some = last_trap (eqb (a % 2) 1) (is_inside region a) e some

-- 1, 2 or none
pub access_most : (region : Region) (a : ℕ) → access_trap region a ≤ 2
unfolding access_trap
access_most region a =
    by_test (λ (n : ℕ). n ≤ 2) (eqb (a % 2) 1) (λ e. lit≤ tt) (λ e. by_test (λ (n : ℕ). n ≤ 2) (is_inside region a) (λ f. lit≤ tt) (λ f. lit≤ tt))
