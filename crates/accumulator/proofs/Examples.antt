-- Rows A to F and L of document 01's table, and edge cases, by computation of the definitions that the contracts cite. Assumes nothing.
use Rattle.std.proofs.Common.{◌≡◌, ℕ, ◌+◌, ◌-◌, ◌^◌, ◌≤◌, Bool, true, false, List, [], ◌∷◌, map, ℤ, pos, refl, arith}
use Rattle.integers.specs.Floor.{remainder_of}
use Rattle.integers.specs.Bits.{low_bits, signed_of}
use Rattle.integers.specs.Range.{minus, lowest, highest, outside, nearer, limited_to}
use Rattle.accumulator.specs.declared.mode.Target.{Target}
use Rattle.accumulator.specs.declared.mode.Target.TheVariants.{A, B}
use Rattle.accumulator.specs.declared.limit.Accumulator.{Accumulator}
use Rattle.accumulator.specs.declared.product.Factor.{Factor}
use Rattle.accumulator.specs.declared.store.Stored.{Stored}
use Rattle.accumulator.specs.Mode.{mode_of, is_good_mode, reset_mode, saturates}
use Rattle.accumulator.specs.Status.{status_of}
use Rattle.accumulator.specs.Product.{read_of, product_of, square_of}
use Rattle.accumulator.specs.Limit.{limit_bits, has_left, kept_of, overflows, write_of}
use Rattle.accumulator.specs.Shift.{shift_of, shift_allowed}
use Rattle.accumulator.specs.Store.{is_odd, rounds_up, rounded_of, needs_limiting, stored_word, store_of, HalfUnit}

-- a word as a factor, read by a mode word's US
abbrev factor : ℕ → ℕ → Factor
factor m w = record { word = w; unsigned = (mode_of m).unsigned }

abbrev multiplied : ℕ → ℕ → ℕ → ℤ
multiplied m v w = product_of (mode_of m).integer (factor m v) (factor m w)

abbrev squared : ℕ → ℕ → ℤ
squared m w = square_of (mode_of m).integer (factor m w)

-- an accumulator: its value, O and S
abbrev holds : ℤ → Bool → Bool → Accumulator
holds v o s = record { value = v; overflow = o; saturation = s }

-- an accumulator with both flags clear, after r is written by a mode word
abbrev written : ℕ → Target → ℤ → Accumulator
written m t r = write_of (holds (pos 0) false false) (mode_of m) t r

-- the rounded store by a mode word
abbrev rounds : ℕ → ℤ → Stored
rounds m v = store_of (mode_of m) true v

abbrev gives : ℕ → Bool → Stored
gives w l = record { word = w; limiting = l }

-- ---- the mode word and the status word

-- the mode word after reset is good, and SATDW alone is on in it
reset : (is_good_mode reset_mode ≡ true) × (mode_of reset_mode ≡ record { unsigned = false; sata = false; satb = false; satdw = true; accsat = false; rnd = false; integer = false })
unfolding is_good_mode mode_of
reset = (refl, refl)

-- every listed bit, and US 1; then SATB alone
modes :
    (mode_of 0x10f3 ≡ record { unsigned = true; sata = true; satb = true; satdw = true; accsat = true; rnd = true; integer = true })
    × (mode_of 0x0040 ≡ record { unsigned = false; sata = false; satb = true; satdw = false; accsat = false; rnd = false; integer = false })
unfolding mode_of
modes = (refl, refl)

-- every listed bit is good; US 2 and 3 and each end of the unlisted bits are bad
goods :
    (is_good_mode 0x10f3 ≡ true)
    × (is_good_mode 0x2000 ≡ false)
    × (is_good_mode 0x3000 ≡ false)
    × (is_good_mode 0x8000 ≡ false)
    × (is_good_mode 0x4000 ≡ false)
    × (is_good_mode 0x0800 ≡ false)
    × (is_good_mode 0x0100 ≡ false)
    × (is_good_mode 0x0008 ≡ false)
    × (is_good_mode 0x0004 ≡ false)
unfolding is_good_mode
goods = (refl, refl, refl, refl, refl, refl, refl, refl, refl)

-- all six facts; SA alone, with the combined bit; a loop and a repeat
statuses :
    (status_of (record { oa = true; ob = true; sa = true; sb = true; looping = true; repeating = true }) ≡ 0xfe10)
    × (status_of (record { oa = false; ob = false; sa = true; sb = false; looping = false; repeating = false }) ≡ 0x2400)
    × (status_of (record { oa = false; ob = true; sa = false; sb = false; looping = true; repeating = false }) ≡ 0x4a00)
unfolding status_of
statuses = (refl, refl, refl)

-- ---- rows of the table

-- A: 3 × -2, reset mode: -12
pub row_a : multiplied reset_mode 3 0xfffe ≡ minus 12
unfolding mode_of product_of read_of signed_of
row_a = refl

-- B: -32,768 squared, IF 0: 2^31; ACCSAT 0 saturating (SATA, 0080 hex) 2^31 - 1 with S, off 2^31 with O only
pub row_b :
    (squared 0 0x8000 ≡ pos (2 ^ 31))
    × (written 0x80 A (pos (2 ^ 31)) ≡ holds (pos (2 ^ 31 - 1)) false true)
    × (written 0 A (pos (2 ^ 31)) ≡ holds (pos (2 ^ 31)) true false)
unfolding product_of read_of signed_of write_of kept_of has_left overflows limit_bits saturates mode_of outside nearer lowest highest
row_b = (refl, refl, refl)

-- C: unsigned integer (1001 hex) 65,535²: 4,294,836,225
pub row_c : squared 0x1001 0xffff ≡ pos 4294836225
unfolding mode_of product_of read_of
row_c = refl

-- D: RND 0 stores 98,304 as 2, 32,768 as 0, -32,768 as 0; RND 1 stores 32,768 as 1
pub row_d :
    (rounds 0x20 (pos 98304) ≡ gives 2 false)
    × (rounds 0x20 (pos 32768) ≡ gives 0 false)
    × (rounds 0x20 (minus 32768) ≡ gives 0 false)
    × (rounds 0x22 (pos 32768) ≡ gives 1 false)
unfolding mode_of store_of stored_word rounded_of rounds_up is_odd needs_limiting low_bits remainder_of limited_to outside nearer lowest highest
row_d = (refl, refl, refl, refl)

-- E: 2,147,450,880 rounded: 32,767; SATDW off 8000 hex
pub row_e : (rounds 0x20 (pos 2147450880) ≡ gives 32767 true) × (rounds 0 (pos 2147450880) ≡ gives 0x8000 true)
unfolding mode_of store_of stored_word rounded_of rounds_up is_odd needs_limiting low_bits remainder_of limited_to outside nearer lowest highest
row_e = (refl, refl)

-- F: 2^39 - 1 plus 1: kept at 2^39 - 1 with ACCSAT 1 (SATA and ACCSAT, 0090 hex); off -2^39; S both
pub row_f :
    (written 0x90 A (pos (2 ^ 39)) ≡ holds (pos (2 ^ 39 - 1)) true true)
    × (written 0 A (pos (2 ^ 39)) ≡ holds (minus (2 ^ 39)) true true)
unfolding write_of kept_of has_left overflows limit_bits saturates mode_of outside nearer lowest highest low_bits remainder_of signed_of
row_f = (refl, refl)

-- L: -1 shifted 16: -1; 17 is beyond
pub row_l : (shift_of (minus 1) (pos 16) ≡ minus 1) × (shift_allowed (pos 17) ≡ false)
unfolding shift_of shift_allowed
row_l = (refl, refl)

-- ---- edges

-- with saturation off 2^40 - 2 is kept as -2: O is that of the value kept
wraps : written 0 B (pos (2 ^ 40 - 2)) ≡ holds (minus 2) false true
unfolding write_of kept_of has_left overflows limit_bits saturates mode_of outside nearer lowest highest low_bits remainder_of signed_of
wraps = refl

-- S stays after a result within the limits, and O is redone: both set, S alone, O alone
stays :
    (write_of (holds (pos 0) true true) (mode_of 0) A (pos 1) ≡ holds (pos 1) false true)
    × (write_of (holds (pos 0) false true) (mode_of 0) A (pos 1) ≡ holds (pos 1) false true)
    × (write_of (holds (pos 0) true false) (mode_of 0) A (pos 1) ≡ holds (pos 1) false false)
unfolding write_of kept_of has_left overflows limit_bits saturates mode_of outside nearer lowest highest
stays = (refl, refl, refl)

-- B goes by SATB: its limits with SATA alone (0080 hex) and with SATB alone (0040 hex)
by_target : (written 0x80 B (pos (2 ^ 31)) ≡ holds (pos (2 ^ 31)) true false) × (written 0x40 B (pos (2 ^ 31)) ≡ holds (pos (2 ^ 31 - 1)) false true)
unfolding write_of kept_of has_left overflows limit_bits saturates mode_of outside nearer lowest highest
by_target = (refl, refl)

-- the lower limits are kept, and one below them is not
lower :
    (written 0x80 A (minus (2 ^ 31)) ≡ holds (minus (2 ^ 31)) false false)
    × (written 0x80 A (minus (2 ^ 31 + 1)) ≡ holds (minus (2 ^ 31)) false true)
    × (written 0 A (minus (2 ^ 39 + 1)) ≡ holds (pos (2 ^ 39 - 1)) true true)
unfolding write_of kept_of has_left overflows limit_bits saturates mode_of outside nearer lowest highest low_bits remainder_of signed_of
lower = (refl, refl, refl)

-- ties below zero: -98,304 (quotient -2) to -2, -32,768 (quotient -1) to 0; with RND 1 -98,304 to -1
ties_below : (rounds 0x20 (minus 98304) ≡ gives 0xfffe false) × (rounds 0x22 (minus 98304) ≡ gives 0xffff false)
unfolding mode_of store_of stored_word rounded_of rounds_up is_odd needs_limiting low_bits remainder_of limited_to outside nearer lowest highest
ties_below = (refl, refl)

-- limiting is needed by v alone, with SATDW off (no bit; every other bit) and on (alone; with every other bit): the four words and limiting
abbrev by_modes : Bool → ℤ → List Stored
by_modes rounded v = map (λ (m : ℕ). store_of (mode_of m) rounded v) (0 ∷ 0x10d3 ∷ 0x20 ∷ 0x10f3 ∷ [])

-- with SATDW off this word, with it on that one
abbrev two_words : ℕ → ℕ → Bool → List Stored
two_words off on l = gives off l ∷ gives off l ∷ gives on l ∷ gives on l ∷ []

-- truncated: 100,000 is 1 and 34,464 over, -70,000 is -2 and 61,072 over; 2^31 - 1 and -2^31 need none, 2^31 and -2^31 - 1 do
truncated_limiting :
    (by_modes false (pos 100000) ≡ two_words 1 1 false)
    × (by_modes false (minus 70000) ≡ two_words 0xfffe 0xfffe false)
    × (by_modes false (pos (2 ^ 31 - 1)) ≡ two_words 0x7fff 0x7fff false)
    × (by_modes false (minus (2 ^ 31)) ≡ two_words 0x8000 0x8000 false)
    × (by_modes false (pos (2 ^ 31)) ≡ two_words 0x8000 0x7fff true)
    × (by_modes false (minus (2 ^ 31 + 1)) ≡ two_words 0x7fff 0x8000 true)
unfolding mode_of store_of stored_word needs_limiting low_bits remainder_of limited_to outside nearer lowest highest
truncated_limiting = (refl, refl, refl, refl, refl, refl)

-- rounded: 100,000 to 2, -70,000 to -1; 2^31 - 32,769 and -2^31 - 32,768 need none, 2^31 - 32,768 and -2^31 - 32,769 do
rounded_limiting :
    (by_modes true (pos 100000) ≡ two_words 2 2 false)
    × (by_modes true (minus 70000) ≡ two_words 0xffff 0xffff false)
    × (by_modes true (pos (2 ^ 31 - 32769)) ≡ two_words 0x7fff 0x7fff false)
    × (by_modes true (minus (2 ^ 31 + 32768)) ≡ two_words 0x8000 0x8000 false)
    × (by_modes true (pos (2 ^ 31 - 32768)) ≡ two_words 0x8000 0x7fff true)
    × (by_modes true (minus (2 ^ 31 + 32769)) ≡ two_words 0x7fff 0x8000 true)
unfolding mode_of store_of stored_word rounded_of rounds_up is_odd needs_limiting low_bits remainder_of limited_to outside nearer lowest highest
rounded_limiting = (refl, refl, refl, refl, refl, refl)

-- half a unit: 98,304 is 32,768 from 1 unit and -98,304 from -1; 98,305 and -98,305 are 32,769 from them
half_units : HalfUnit 1 (pos 98304) × HalfUnit 0xffff (minus 98304) × (HalfUnit 1 (pos 98305) → ⊥) × (HalfUnit 0xffff (minus 98305) → ⊥)
unfolding signed_of
half_units = (
  record { near = omega arith },
  record { near = omega arith },
  λ h. let far : 32769 ≤ 32768 = h.near in omega (arith, far),
  λ h. let far : 32769 ≤ 32768 = h.near in omega (arith, far),
)

-- -16 is allowed, -17 is not; to the left by 16
shifts : (shift_allowed (minus 16) ≡ true) × (shift_allowed (minus 17) ≡ false) × (shift_of (minus 1) (minus 16) ≡ minus 65536)
unfolding shift_of shift_allowed
shifts = (refl, refl, refl)
