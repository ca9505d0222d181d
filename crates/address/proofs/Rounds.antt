-- A round of N steps: after m of them the index is rev((rev(j) + m) mod N), so that each of the N words is visited once. Assumes nothing.
use Rattle.std.proofs.Common.{◌≡◌, ℕ, zero, suc, ◌+◌, ◌-◌, ◌*◌, ◌/◌, ◌%◌, ◌^◌, ◌<◌, true, sym, refl, ap, ◌∙◌, subst, mod-lt, mod-eq_of_lt, div-add-mod', arith, pow_pos}
use native.Mathlib.Nat.{mod-add-mod, add-mod-mod, add-mod_right, mul-add-mod_self_right}
use Rattle.address.specs.Reversal.{rev, width_up_to, width_of, is_power, index_of, next_index, next_of}
use Rattle.address.specs.Round.{address_after, address_at_index, Round}
use Rattle.address.proofs.Widths.{width_power}
use Rattle.address.proofs.Reversals.{rev_below, rev_rev, index_below, index_within}

-- ---- the N words around an address

at_own_index : (n a : ℕ) → address_at_index n a (index_of n a) ≡ a
unfolding address_at_index
at_own_index n a = omega (arith, index_within n a)

index_differs : (n a i k : ℕ) → address_at_index n a i ≡ address_at_index n a k → i ≡ k
unfolding address_at_index
index_differs n a i k e = omega (arith, e)

-- word k has index k
index_at : (b a k : ℕ) → k < 2 ^ b → index_of (2 ^ b) (address_at_index (2 ^ b) a k) ≡ k
unfolding index_of address_at_index
index_at b a k h =
    let m = 2 * 2 ^ b in
    let r = a % m % 2 + 2 * k in
    let at : a - 2 * (a % m / 2) + 2 * k ≡ a / m * m + r = omega (arith, div-add-mod' a m) in
    let rest : (a / m * m + r) % m ≡ r = mul-add-mod_self_right (a / m) m r ∙ mod-eq_of_lt (omega (arith, h)) in
    rw (at, rest) (omega arith)

-- the words around word k are the same words
at_at : (b a k i : ℕ) → k < 2 ^ b → address_at_index (2 ^ b) (address_at_index (2 ^ b) a k) i ≡ address_at_index (2 ^ b) a i
unfolding address_at_index
at_at b a k i h = omega (arith, index_at b a k h)

-- ---- steps in a row

-- the index m steps after index j
abbrev index_after : ℕ → ℕ → ℕ → ℕ
index_after b j m = rev b ((rev b j + m) % 2 ^ b)

rev_after : (b j m : ℕ) → rev b (index_after b j m) ≡ (rev b j + m) % 2 ^ b
rev_after b j m = rev_rev b ((rev b j + m) % 2 ^ b) (mod-lt (rev b j + m) (pow_pos b))

-- 0 steps on, and a whole round on
index_back : (b j : ℕ) → j < 2 ^ b → rev b (rev b j % 2 ^ b) ≡ j
index_back b j h = rw (mod-eq_of_lt (rev_below b j)) (rev_rev b j h)

next_after : (b j m : ℕ) → next_index b (index_after b j m) ≡ index_after b j (suc m)
unfolding next_index
next_after b j m =
    let one_more : rev b j + m + 1 ≡ rev b j + suc m = omega arith in
    rw (rev_after b j m, mod-add-mod (rev b j + m) (2 ^ b) 1, one_more)

next_at : (b a : ℕ) → width_of (2 ^ b) ≡ b → next_of (2 ^ b) a ≡ address_at_index (2 ^ b) a (next_index b (index_of (2 ^ b) a))
unfolding next_of address_at_index
next_at b a w = rw w

after_at : (b m a : ℕ) → width_of (2 ^ b) ≡ b → address_after (2 ^ b) m a ≡ address_at_index (2 ^ b) a (index_after b (index_of (2 ^ b) a) m)
unfolding address_after
after_at b zero a w =
    let none : rev b (index_of (2 ^ b) a) + 0 ≡ rev b (index_of (2 ^ b) a) = omega arith in
    rw (none, index_back b (index_of (2 ^ b) a) (index_below b a)) (sym (at_own_index (2 ^ b) a))
after_at b (suc m) a w =
    let j = index_of (2 ^ b) a in
    let k = index_after b j m in
    let below : k < 2 ^ b = rev_below b ((rev b j + m) % 2 ^ b) in
    rw (after_at b m a w, next_at b (address_at_index (2 ^ b) a k) w, index_at b a k below, next_after b j m) (at_at b a k (index_after b j (suc m)) below)

-- ---- the round

-- p on, and n - p on: a whole round
around : (n p m : ℕ) → p < n → m < n → ((p + m) % n + (n - p)) % n ≡ m
around n p m h l =
    let all : p + m + (n - p) ≡ m + n = omega arith in
    mod-add-mod (p + m) n (n - p) ∙ rw (all, add-mod_right m n) (mod-eq_of_lt l)

round_of : (b a : ℕ) → width_of (2 ^ b) ≡ b → Round (2 ^ b) a
round_of b a w = record { visits = visits; once = once; back = back }
  where
    n : ℕ
    n = 2 ^ b

    j : ℕ
    j = index_of n a

    p : ℕ
    p = rev b j

    visits : (i : ℕ) → i < n → (m : ℕ) × (m < n) × (address_after n m a ≡ address_at_index n a i)
    visits i h =
        let q = rev b i in
        let m = (q + (n - p)) % n in
        let all : p + (q + (n - p)) ≡ q + n = omega (arith, rev_below b j) in
        let there : index_after b j m ≡ i = rw (add-mod-mod p (q + (n - p)) n, all, add-mod_right q n) (index_back b i h) in
        (m, mod-lt (q + (n - p)) (pow_pos b), after_at b m a w ∙ ap (λ (k : ℕ). address_at_index n a k) there)

    once : (m k : ℕ) → m < n → k < n → address_after n m a ≡ address_after n k a → m ≡ k
    once m k h l e =
        let index : index_after b j m ≡ index_after b j k = index_differs n a _ _ (sym (after_at b m a w) ∙ e ∙ after_at b k a w) in
        let same : (p + m) % n ≡ (p + k) % n = sym (rev_after b j m) ∙ ap (λ (i : ℕ). rev b i) index ∙ rev_after b j k in
        sym (around n p m (rev_below b j) h) ∙ ap (λ (x : ℕ). (x + (n - p)) % n) same ∙ around n p k (rev_below b j) l

    back : address_after n n a ≡ a
    back = after_at b n a w ∙ rw (add-mod_right p n, index_back b j (index_below b a)) (at_own_index n a)

-- of every N, from every address
pub round : (n a : ℕ) → is_power n ≡ true → Round n a
round n a h =
    let is : 2 ^ width_of n ≡ n = width_power n h in
    subst (λ (x : ℕ). Round x a) is (round_of (width_of n) a (ap (λ (x : ℕ). width_of x) is))

-- the longest and the shortest, from the last word of all
longest : address_after 1024 1024 0xfffe ≡ 0xfffe
unfolding is_power width_of width_up_to
longest = (round 1024 0xfffe refl).back

shortest : address_after 2 2 0xfffe ≡ 0xfffe
unfolding is_power width_of width_up_to
shortest = (round 2 0xfffe refl).back
