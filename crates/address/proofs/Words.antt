-- Words and addresses: each conversion is the other's inverse, by arithmetic. Assumes nothing.
use Rattle.std.proofs.Common.{◌≡◌, ℕ, ◌+◌, ◌-◌, ◌*◌, ◌/◌, ◌%◌, ◌^◌, ◌<◌, ◌≤◌, Bool, true, false, ltb, refl, mod-eq_of_lt, arith, ltb-false, ltb-true}
use Rattle.address.specs.Word.{address_of, word_of}

-- of every word
pub word_address : (i : ℕ) → word_of (address_of i) ≡ i
unfolding word_of
word_address i = omega arith

-- of every even address from that of word 0 on
pub address_word : (a : ℕ) → address_of 0 ≤ a → a % 2 ≡ 0 → address_of (word_of a) ≡ a
unfolding word_of
address_word a h e = omega arith

-- the word that an address lies in begins at the even address
pub even_address : (a : ℕ) → address_of 0 ≤ a → a - a % 2 ≡ address_of (word_of a)
unfolding word_of
even_address a h = omega (arith, h)

-- by the distance from word 0, modulo 2^16: halved, with its lowest bit for the highest
module _ (a far : ℕ) (small : far < 2 ^ 16) (far-is : (far + 0x1000) % 2 ^ 16 ≡ a) where
  -- below 30,720 it is the number of the word at the address
  pub number_address : far / 2 + far % 2 * 32768 < 30720 → a ≡ address_of (far / 2 + far % 2 * 32768)
  number_address l =
      let even : far % 2 ≡ 0 = omega (arith, l) in
      let low : far + 0x1000 < 2 ^ 16 = omega (arith, l, even) in
      omega (arith, even, far-is, mod-eq_of_lt low)

  -- of a word's address it is that word's number
  pub address_number : (i : ℕ) → a ≡ address_of i → far / 2 + far % 2 * 32768 ≡ i
  address_number i e = go (ltb (far + 0x1000) (2 ^ 16)) refl
    where
      go : (b : Bool) → ltb (far + 0x1000) (2 ^ 16) ≡ b → far / 2 + far % 2 * 32768 ≡ i
      go true t =
          let double : far ≡ 2 * i = omega (arith, far-is, e, mod-eq_of_lt (ltb-true (far + 0x1000) (2 ^ 16) t)) in
          omega (arith, double)
      go false t =
          absurd (omega (arith, far-is, e, small, ltb-false (far + 0x1000) (2 ^ 16) t))
