-- Rows G and H of the paper's table, and edge cases, by computation of the definitions that the contracts cite. Assumes nothing.
use Rattle.std.proofs.Common.{◌≡◌, ℕ, ◌+◌, ◌*◌, ◌<◌, pos, refl}
use Rattle.integers.specs.Floor.{remainder_of}
use Rattle.integers.specs.Bits.{low_bits}
use Rattle.integers.specs.Range.{minus}
use Rattle.address.specs.declared.step.Buffer.{Buffer}
use Rattle.address.specs.Word.{address_of, word_of}
use Rattle.address.specs.Region.{x_part, y_part, all_words, is_inside, access_trap}
use Rattle.address.specs.Step.{address_sum, stepped_of, corrected_of, circular_of}
use Rattle.address.specs.Reversal.{rev, width_up_to, width_of, index_of, next_index, next_of}
use Rattle.address.specs.Round.{address_after, address_at_index, Round}

-- the buffer S..E
abbrev bytes : ℕ → ℕ → Buffer
bytes s e = record { start = record { 0 = s }; last = record { 0 = e } }

-- ---- rows of the table

-- G: S 1100, E 1107, 1106 + 4 gives 1102 (hex)
pub row_g : circular_of (bytes 0x1100 0x1107) 0x1106 (pos 4) ≡ 0x1102
unfolding circular_of corrected_of low_bits remainder_of
row_g = refl

-- H: N 8, 1200 then 1208 then 1204 (hex)
pub row_h : (next_of 8 0x1200 ≡ 0x1208) × (next_of 8 0x1208 ≡ 0x1204)
unfolding next_of index_of next_index width_of width_up_to rev
row_h = (refl, refl)

-- ---- words, regions and traps

-- the words of both bytes, and of an address below all words
words : (address_of 3 ≡ 0x1006) × (word_of 0x1006 ≡ 3) × (word_of 0x1007 ≡ 3) × (word_of 0x0ffe ≡ 0)
unfolding word_of
words = (refl, refl, refl, refl)

-- of 8 words, 4 of them X's: an odd address first; the last word of X's part, and the first after it; below memory
traps_x :
    (access_trap (x_part 4) 0x0fff ≡ 1)
    × (access_trap (x_part 4) 0x1006 ≡ 0)
    × (access_trap (x_part 4) 0x1008 ≡ 2)
    × (access_trap (x_part 4) 0x0ffe ≡ 2)
unfolding access_trap is_inside word_of
traps_x = (refl, refl, refl, refl)

-- the last word before Y's part, its first and its last, and the first after it
traps_y :
    (access_trap (y_part 4 8) 0x1006 ≡ 2)
    × (access_trap (y_part 4 8) 0x1008 ≡ 0)
    × (access_trap (y_part 4 8) 0x100e ≡ 0)
    × (access_trap (y_part 4 8) 0x1010 ≡ 2)
unfolding access_trap is_inside word_of
traps_y = (refl, refl, refl, refl)

-- anywhere in memory
traps_all : (access_trap (all_words 8) 0x1000 ≡ 0) × (access_trap (all_words 8) 0x100e ≡ 0) × (access_trap (all_words 8) 0x1010 ≡ 2)
unfolding access_trap is_inside word_of
traps_all = (refl, refl, refl)

-- ---- steps

-- sums end at 16 bits
sums : (address_sum 0xfffe 4 ≡ 2) × (stepped_of 0xfffe (pos 4) ≡ 2) × (stepped_of 0 (minus 2) ≡ 0xfffe)
unfolding address_sum stepped_of low_bits remainder_of
sums = (refl, refl, refl)

-- below S; a sum that is E itself; corrected once, and still above E; from E and from S themselves
corrected :
    (circular_of (bytes 0x1100 0x1107) 0x1102 (minus 4) ≡ 0x1106)
    × (circular_of (bytes 0x1100 0x1107) 0x1105 (pos 2) ≡ 0x1107)
    × (circular_of (bytes 0x1100 0x1105) 0x1104 (pos 14) ≡ 0x110c)
    × (circular_of (bytes 0x1100 0x1107) 0x1107 (pos 2) ≡ 0x1101)
    × (circular_of (bytes 0x1100 0x1107) 0x1100 (minus 2) ≡ 0x1106)
unfolding circular_of corrected_of low_bits remainder_of
corrected = (refl, refl, refl, refl, refl)

-- an old address outside, above and below, is never corrected
outside :
    (circular_of (bytes 0x1100 0x1107) 0x1108 (pos 4) ≡ 0x110c)
    × (circular_of (bytes 0x1100 0x1107) 0x10fe (minus 4) ≡ 0x10fa)
unfolding circular_of corrected_of low_bits remainder_of
outside = (refl, refl)

-- a sum above FFFF hex, and one below 0: reduced first, neither would be corrected so
before_reduction :
    (circular_of (bytes 0xfff0 0xffff) 0xfffe (pos 4) ≡ 0xfff2)
    × (circular_of (bytes 0x0000 0x0007) 0x0002 (minus 4) ≡ 0x0006)
unfolding circular_of corrected_of low_bits remainder_of
before_reduction = (refl, refl)

-- the last index goes back to the first; an address that is not aligned; N of 2 and of 1,024; an N that is no power of two
bit_reversed :
    (next_of 8 0x120e ≡ 0x1200)
    × (next_of 8 0x1201 ≡ 0x1209)
    × (next_of 2 0x1202 ≡ 0x1200)
    × (next_of 1024 0x1800 ≡ 0x1c00)
    × (next_of 12 0x1200 ≡ 0x1200)
unfolding next_of index_of next_index width_of width_up_to rev
bit_reversed = (refl, refl, refl, refl, refl)

-- ten bits, and fewer: the bits of 1, of 6 and of 0x155
reversals : (rev 10 1 ≡ 0x200) × (rev 3 6 ≡ 3) × (rev 10 6 ≡ 0x180) × (rev 10 0x155 ≡ 0x2aa)
unfolding rev
reversals = (refl, refl, refl, refl)

-- the round of N 4 from its second word on: indices 1, 3, 0, 2 and 1 again
round_of_four :
    (address_after 4 0 0x1002 ≡ 0x1002)
    × (address_after 4 1 0x1002 ≡ 0x1006)
    × (address_after 4 2 0x1002 ≡ 0x1000)
    × (address_after 4 3 0x1002 ≡ 0x1004)
    × (address_after 4 4 0x1002 ≡ 0x1002)
unfolding address_after next_of index_of next_index width_of width_up_to rev
round_of_four = (refl, refl, refl, refl, refl)

-- the first and the last of 4 words, from one between them, and from its second byte
indices : (address_at_index 4 0x1002 0 ≡ 0x1000) × (address_at_index 4 0x1002 3 ≡ 0x1006) × (address_at_index 4 0x100b 0 ≡ 0x1009)
unfolding address_at_index index_of
indices = (refl, refl, refl)

-- what the round of N 4 from its second word on says: each of the words at 1000 to 1006 hex, no two steps at one word, and back after 4
round_says :
    Round 4 0x1002
    → ((i : ℕ) → i < 4 → (m : ℕ) × (m < 4) × (address_after 4 m 0x1002 ≡ 0x1000 + 2 * i))
    × ((m k : ℕ) → m < 4 → k < 4 → address_after 4 m 0x1002 ≡ address_after 4 k 0x1002 → m ≡ k)
    × (address_after 4 4 0x1002 ≡ 0x1002)
unfolding address_after address_at_index next_of index_of next_index width_of width_up_to rev
round_says r = (r.visits, r.once, r.back)
