-- A word as fields of k bits, each reversed in its place: where the two fields of each pair change places, fields of 2k bits are reversed. By induction
-- over the pairs. Assumes nothing.
use Rattle.std.proofs.Common.{◌≡◌, ℕ, zero, suc, ◌+◌, ◌-◌, ◌*◌, ◌/◌, ◌%◌, ◌^◌, ◌<◌, ◌≤◌, sym, ap, ◌∙◌, lt_of_lt_of_le, add_assoc, mul-le-mul_right, mod-lt, mul_assoc, suc-mul, add-mul, zero-add, zero-mul, mul_right_comm, arith, pow_pos, pow_mono, pow-add, shr-shr}
use lib.Bits.{bit_and, bit_or, and_mask, and_block, or_block, or_shifted, and_zero_r}
use lib.Pow.{high, low, split, ones_lt, mod-pow-add}
use Rattle.address.specs.Reversal.{rev}
use Rattle.address.proofs.Reversals.{rev_below, rev_split, rev_one}

-- the n lowest fields of k bits, each reversed in its place
unfoldable pub fields : ℕ → ℕ → ℕ → ℕ
fields k zero x = 0
fields k (suc n) x = fields k n (x / 2 ^ k) * 2 ^ k + rev k x

-- the ones of the lower field in each of n pairs
unfoldable pub lower_fields : ℕ → ℕ → ℕ
lower_fields k zero = 0
lower_fields k (suc n) = lower_fields k n * 2 ^ (k + k) + (2 ^ k - 1)

-- the two fields of each pair change places
abbrev pub exchange : ℕ → ℕ → ℕ → ℕ
exchange k lower x = bit_or (bit_and x lower * 2 ^ k) (bit_and (x / 2 ^ k) lower)

-- two fields of k bits are below 2 ^ 2k
two_fields : (k h l : ℕ) → h < 2 ^ k → l < 2 ^ k → h * 2 ^ k + l < 2 ^ (k + k)
two_fields k h l s t =
    let most : suc h * 2 ^ k ≤ 2 ^ k * 2 ^ k = mul-le-mul_right (2 ^ k) s in
    rw (pow-add 2 k k) (omega (arith, most, suc-mul h (2 ^ k)))

regroup : (k rest h l : ℕ) → (rest * 2 ^ k + h) * 2 ^ k + l ≡ rest * 2 ^ (k + k) + (h * 2 ^ k + l)
regroup k rest h l = rw (pow-add 2 k k, add-mul, mul_assoc) (add_assoc _ _ _)

-- of the lowest pair the mask leaves the lower field
masked :
    (k rest h l lower : ℕ) → h < 2 ^ k → l < 2 ^ k
    → bit_and (rest * 2 ^ (k + k) + (h * 2 ^ k + l)) (lower * 2 ^ (k + k) + (2 ^ k - 1)) ≡ bit_and rest lower * 2 ^ (k + k) + l
masked k rest h l lower s t =
    let ones : 2 ^ k - 1 < 2 ^ (k + k) = lt_of_lt_of_le (ones_lt k) (pow_mono (omega arith)) in
    and_block (k + k) rest lower (h * 2 ^ k + l) (2 ^ k - 1) (two_fields k h l s t) ones ∙ rw (and_mask (h * 2 ^ k + l) k, low h k t)

-- the lowest pair, and the rest
pair :
    (k rest h l lower : ℕ) → h < 2 ^ k → l < 2 ^ k
    → exchange k (lower * 2 ^ (k + k) + (2 ^ k - 1)) ((rest * 2 ^ k + h) * 2 ^ k + l) ≡ exchange k lower rest * 2 ^ (k + k) + (l * 2 ^ k + h)
pair k rest h l lower s t =
    let double = 2 ^ (k + k) in
    let a = bit_and rest lower in
    let b = bit_and (rest / 2 ^ k) lower in
    let down : ((rest * 2 ^ k + h) * 2 ^ k + l) / 2 ^ k ≡ rest / 2 ^ k * double + (rest % 2 ^ k * 2 ^ k + h) =
    high (rest * 2 ^ k + h) k t ∙ ap (λ (r : ℕ). r * 2 ^ k + h) (sym (split rest k)) ∙ regroup k (rest / 2 ^ k) (rest % 2 ^ k) h in
    let raised : (a * double + l) * 2 ^ k ≡ a * 2 ^ k * double + l * 2 ^ k =
    add-mul (a * double) l (2 ^ k) ∙ ap (λ (x : ℕ). x + l * 2 ^ k) (mul_right_comm a double (2 ^ k)) in
    let below : l * 2 ^ k < double = omega (arith, two_fields k l 0 t (pow_pos k)) in
    let above : h < double = lt_of_lt_of_le s (pow_mono (omega arith)) in
    rw (down, masked k (rest / 2 ^ k) (rest % 2 ^ k) h lower (mod-lt rest (pow_pos k)) s, regroup k rest h l, masked k rest h l lower s t, raised)
    (or_block (k + k) (a * 2 ^ k) b (l * 2 ^ k) h below above ∙ rw (or_shifted l k h s))

pub exchange_fields : (k n x : ℕ) → exchange k (lower_fields k n) (fields k (n + n) x) ≡ fields (k + k) n x
unfolding fields lower_fields
exchange_fields k zero x = rw (zero-mul (2 ^ k), and_zero_r (0 / 2 ^ k))
exchange_fields k (suc n) x =
    let two-more : suc n + suc n ≡ suc (suc (n + n)) = omega arith in
    let l = rev k x in
    let h = rev k (x / 2 ^ k) in
    let rest : x / 2 ^ k / 2 ^ k ≡ x / 2 ^ (k + k) = shr-shr x k k in
    rw (two-more)
    (pair k (fields k (n + n) (x / 2 ^ k / 2 ^ k)) h l (lower_fields k n) (rev_below k (x / 2 ^ k)) (rev_below k x)
    ∙ rw (exchange_fields k n (x / 2 ^ k / 2 ^ k), rest, rev_split k k x))

-- fields of one bit are the bits as they stand
pub single_fields : (n x : ℕ) → fields 1 n x ≡ x % 2 ^ n
unfolding fields
single_fields zero x = omega arith
single_fields (suc n) x =
    let one_more : suc n ≡ n + 1 = omega arith in
    rw (single_fields n (x / 2), rev_one x, one_more) (sym (mod-pow-add x n 1))

-- one field is the reversal
pub one_field : (k x : ℕ) → fields k 1 x ≡ rev k x
unfolding fields
one_field k x = rw (zero-mul (2 ^ k), zero-add (rev k x))

-- the b highest of sixteen reversed bits
pub highest : (b j : ℕ) → b ≤ 10 → rev 16 j / 2 ^ 6 / 2 ^ (10 - b) ≡ rev b j
highest b j h =
    let below = 6 + (10 - b) in
    let all : 16 ≡ b + below = omega arith in
    let parts : rev 16 j ≡ rev b j * 2 ^ below + rev below (j / 2 ^ b) = ap (λ (w : ℕ). rev w j) all ∙ rev_split b below j in
    shr-shr (rev 16 j) 6 (10 - b) ∙ rw parts (high (rev b j) below (rev_below below (j / 2 ^ b)))
