-- Whole numbers for `omega`, which reads ℕ only. A whole number z is handed to it as two naturals of which one is 0: `up z`, what z has above
-- zero, and `down z`, what it has below; z is  up z - down z.
-- Each law is linear in those two, so a fact on whole numbers is `omega (whole, LAW, ..)`, with a law for each operation that the fact names:
-- `sum a b`, `less a b`, `times a k`, `floor z m h`, and `size z` for a number that is bounded by `mag`, `Within` or `SFits`. Assumes nothing.
use mathlib.Core.Path.{◌≡◌, refl, sym, ap, ◌∙◌, subst}
use mathlib.Core.Bool.{Bool, true, false, cond, ◌&&◌, ◌||◌, true≢false}
use Prim.Native.Nat.{ℕ, zero, suc, ◌+◌, ◌*◌, ◌-◌, ◌≤◌, ◌<◌, min}
use native.Mathlib.Omega.{arith}
use native.Mathlib.Nat.{div-add-mod', mod-lt, mul-le-mul, lt_of_not-le}
use borrow.Author.Tests.{ltb-true, ltb-false, leb-true, leb-false, lt-ltb, le-ltb, le-leb, lt-leb}
use lib.Dec.{T, ltb, leb}
use lib.IntN.{ℤ, pos, negsuc, neg_ℤ, sub_ℕ, ◌+ℤ◌, ◌-ℤ◌, ◌*ℤ◌, nat_abs}
use lib.Signed.{mag, lt_z, le_z, ◌≤ℤ◌, ◌<ℤ◌, shr_z, non_neg}

abbrev pub up : ℤ → ℕ
up (pos n) = n
up (negsuc n) = 0

abbrev pub down : ℤ → ℕ
down (pos n) = 0
down (negsuc n) = suc n

-- one of the two is 0
pub apart : (z : ℤ) → min (up z) (down z) ≡ 0
apart (pos n) = omega arith
apart (negsuc n) = omega arith

-- the bound that `Within` and `SFits` state, with `apart`
pub size : (z : ℤ) → (mag z ≡ up z + (down z - 1)) × (min (up z) (down z) ≡ 0)
size (pos n) = omega arith
size (negsuc n) = omega arith

-- two that stand for the same number are equal
pub same : (a b : ℤ) → up a + down b ≡ up b + down a → a ≡ b
same (pos a) (pos b) e = ap pos (omega arith)
same (pos a) (negsuc b) e = absurd (omega arith)
same (negsuc a) (pos b) e = absurd (omega arith)
same (negsuc a) (negsuc b) e = ap negsuc (omega arith)

-- ---- operations

up_neg : (n : ℕ) → up (neg_ℤ (pos n)) ≡ 0
up_neg zero = refl
up_neg (suc n) = refl

down_neg : (n : ℕ) → down (neg_ℤ (pos n)) ≡ n
down_neg zero = refl
down_neg (suc n) = refl

pub neg : (z : ℤ) → (up (neg_ℤ z) ≡ down z) × (down (neg_ℤ z) ≡ up z)
neg (pos n) = (up_neg n, down_neg n)
neg (negsuc n) = (refl, refl)

difference : (a b : ℕ) → up (sub_ℕ a b) + b ≡ a + down (sub_ℕ a b)
difference a b = go (ltb a b) refl
  where
    go : (t : Bool) → ltb a b ≡ t → up (cond t (negsuc (b - suc a)) (pos (a - b))) + b ≡ a + down (cond t (negsuc (b - suc a)) (pos (a - b)))
    go true e = omega (arith, ltb-true a b e)
    go false e = omega (arith, ltb-false a b e)

pub sum : (a b : ℤ) → up (a +ℤ b) + (down a + down b) ≡ up a + up b + down (a +ℤ b)
sum (pos a) (pos b) = omega arith
sum (pos a) (negsuc b) = omega (arith, difference a (suc b))
sum (negsuc a) (pos b) = omega (arith, difference b (suc a))
sum (negsuc a) (negsuc b) = omega arith

pub less : (a b : ℤ) → up (a -ℤ b) + (down a + up b) ≡ up a + down b + down (a -ℤ b)
less a b = omega (arith, sum a (neg_ℤ b), neg b)

-- by a natural, on the right and on the left
pub times : (a : ℤ) (k : ℕ) → (up (a *ℤ pos k) ≡ up a * k) × (down (a *ℤ pos k) ≡ down a * k)
times (pos a) k = (refl, omega arith)
times (negsuc a) k = (up_neg (suc a * k) ∙ omega arith, down_neg (suc a * k))

pub scaled : (k : ℕ) (a : ℤ) → (up (pos k *ℤ a) ≡ k * up a) × (down (pos k *ℤ a) ≡ k * down a)
scaled k (pos a) = (refl, omega arith)
scaled k (negsuc a) = (up_neg (k * suc a) ∙ omega arith, down_neg (k * suc a))

-- the floor of z / m
pub floor : (z : ℤ) (m : ℕ) → 0 < m → (up (shr_z z m) * m + down z ≤ up z + down (shr_z z m) * m) × (up z + down (shr_z z m) * m < up (shr_z z m) * m + m + down z)
floor (pos a) m h = omega (arith, div-add-mod' a m, mod-lt a h)
floor (negsuc a) m h = omega (arith, div-add-mod' a m, mod-lt a h)

pub abs_is : (z : ℤ) → nat_abs z ≡ up z + down z
abs_is (pos n) = omega arith
abs_is (negsuc n) = omega arith

abs_neg : (n : ℕ) → nat_abs (neg_ℤ (pos n)) ≡ n
abs_neg zero = refl
abs_neg (suc n) = refl

-- the size of a product is the product of the sizes
abs_product : (a b : ℤ) → nat_abs (a *ℤ b) ≡ nat_abs a * nat_abs b
abs_product (pos a) (pos b) = refl
abs_product (pos a) (negsuc b) = abs_neg (a * suc b)
abs_product (negsuc a) (pos b) = abs_neg (suc a * b)
abs_product (negsuc a) (negsuc b) = refl

pub product_le : (a b : ℤ) {m n : ℕ} → nat_abs a ≤ m → nat_abs b ≤ n → nat_abs (a *ℤ b) ≤ m * n
product_le a b ha hb = rw (abs_product a b) (mul-le-mul ha hb)

-- ---- tests

pub never : {X : Type 0} → false ≡ true → X
never e = absurd (subst T (sym e) tt)

is_true : (t : Bool) → T t → t ≡ true
is_true true h = refl
is_true false h = absurd h

-- what holds of both sides of a choice, each under its test, holds of the choice
pub by_test : {X : Type 0} (P : X → Type 0) (t : Bool) {x y : X} → (t ≡ true → P x) → (t ≡ false → P y) → P (cond t x y)
by_test P true f g = f refl
by_test P false f g = g refl

-- the same of pairs: what holds of both, each under its test, holds of the pair that the test chooses
pub same_test : {X Y : Type 0} (P : X → Y → Type 0) (t : Bool) {x x' : X} {y y' : Y} → (t ≡ true → P x y) → (t ≡ false → P x' y')
    → P (cond t x x') (cond t y y')
same_test P true f g = f refl
same_test P false f g = g refl

-- two comparisons that say the same are the same
pub same_leb : (a b c d : ℕ) → (a ≤ b → c ≤ d) → (c ≤ d → a ≤ b) → leb a b ≡ leb c d
same_leb a b c d there back = go (leb a b) refl
  where
    go : (t : Bool) → leb a b ≡ t → t ≡ leb c d
    go true e = sym (le-leb c d (there (leb-true a b e)))
    go false e = sym (lt-leb c d (lt_of_not-le (λ h. true≢false (sym (le-leb a b (back h)) ∙ e))))

-- of an `or` that is false, both parts are; of an `and` that is true, both parts are
pub neither : (t u : Bool) → (t || u) ≡ false → (t ≡ false) × (u ≡ false)
neither true u e = never (sym e)
neither false u e = (refl, e)

pub both : (t u : Bool) → (t && u) ≡ true → (t ≡ true) × (u ≡ true)
both true u e = (refl, e)
both false u e = never e

pub not_negative : (z : ℤ) → down z ≡ 0 → T (non_neg z)
not_negative (pos n) h = tt
not_negative (negsuc n) h = absurd (omega arith)

-- the flag of a signed comparison, and what it says of the numbers
pub le_yes : (a b : ℤ) → le_z a b ≡ true → up a + down b ≤ up b + down a
le_yes (pos a) (pos b) e = omega (arith, leb-true a b e)
le_yes (pos a) (negsuc b) e = never e
le_yes (negsuc a) (pos b) e = omega arith
le_yes (negsuc a) (negsuc b) e = omega (arith, leb-true b a e)

pub le_no : (a b : ℤ) → le_z a b ≡ false → up b + down a < up a + down b
le_no (pos a) (pos b) e = omega (arith, leb-false a b e)
le_no (pos a) (negsuc b) e = omega arith
le_no (negsuc a) (pos b) e = never (sym e)
le_no (negsuc a) (negsuc b) e = omega (arith, leb-false b a e)

pub lt_yes : (a b : ℤ) → lt_z a b ≡ true → up a + down b < up b + down a
lt_yes (pos a) (pos b) e = omega (arith, ltb-true a b e)
lt_yes (pos a) (negsuc b) e = never e
lt_yes (negsuc a) (pos b) e = omega arith
lt_yes (negsuc a) (negsuc b) e = omega (arith, ltb-true b a e)

pub lt_no : (a b : ℤ) → lt_z a b ≡ false → up b + down a ≤ up a + down b
lt_no (pos a) (pos b) e = omega (arith, ltb-false a b e)
lt_no (pos a) (negsuc b) e = omega arith
lt_no (negsuc a) (pos b) e = never (sym e)
lt_no (negsuc a) (negsuc b) e = omega (arith, ltb-false b a e)

-- and back: the flag from the numbers
pub yes_le : (a b : ℤ) → up a + down b ≤ up b + down a → le_z a b ≡ true
yes_le (pos a) (pos b) h = le-leb a b (omega arith)
yes_le (pos a) (negsuc b) h = absurd (omega arith)
yes_le (negsuc a) (pos b) h = refl
yes_le (negsuc a) (negsuc b) h = le-leb b a (omega arith)

pub no_le : (a b : ℤ) → up b + down a < up a + down b → le_z a b ≡ false
no_le (pos a) (pos b) h = lt-leb a b (omega arith)
no_le (pos a) (negsuc b) h = refl
no_le (negsuc a) (pos b) h = absurd (omega arith)
no_le (negsuc a) (negsuc b) h = lt-leb b a (omega arith)

pub yes_lt : (a b : ℤ) → up a + down b < up b + down a → lt_z a b ≡ true
yes_lt (pos a) (pos b) h = lt-ltb a b (omega arith)
yes_lt (pos a) (negsuc b) h = absurd (omega arith)
yes_lt (negsuc a) (pos b) h = refl
yes_lt (negsuc a) (negsuc b) h = lt-ltb b a (omega arith)

pub no_lt : (a b : ℤ) → up b + down a ≤ up a + down b → lt_z a b ≡ false
no_lt (pos a) (pos b) h = le-ltb a b (omega arith)
no_lt (pos a) (negsuc b) h = refl
no_lt (negsuc a) (pos b) h = absurd (omega arith)
no_lt (negsuc a) (negsuc b) h = le-ltb b a (omega arith)

-- the orders of lib.Signed
pub ≤-yes : (a b : ℤ) → a ≤ℤ b → up a + down b ≤ up b + down a
≤-yes a b h = le_yes a b (is_true (le_z a b) h.le)

pub <-yes : (a b : ℤ) → a <ℤ b → up a + down b < up b + down a
<-yes a b h = lt_yes a b (is_true (lt_z a b) h.lt)

pub yes_≤ : (a b : ℤ) → up a + down b ≤ up b + down a → a ≤ℤ b
yes_≤ a b h = record { le = subst T (sym (yes_le a b h)) tt }

pub yes_< : (a b : ℤ) → up a + down b < up b + down a → a <ℤ b
yes_< a b h = record { lt = subst T (sym (yes_lt a b h)) tt }

-- The set to hand to `omega`. With it `omega` reads the tests and the orders of whole numbers among the hypotheses, and proves a test, an order
-- or an equation of whole numbers.
pub ruleset whole = (arith, same, le_yes, le_no, lt_yes, lt_no, yes_le, no_le, yes_lt, no_lt, ≤-yes, <-yes, yes_≤, yes_<)
