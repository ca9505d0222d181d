-- One round of a bit-reversed register: what N of its steps in a row come to. No rule of the paper; what a reader may hold the rule to.
use Rattle.std.specs.Prelude.{◌≡◌, ℕ, zero, suc, ◌+◌, ◌-◌, ◌*◌, ◌<◌}
use Rattle.address.specs.Reversal.{index_of, next_of}

-- the address m steps after a
unfoldable pub address_after : ℕ → ℕ → ℕ → ℕ
address_after n zero a = a
address_after n (suc m) a = next_of n (address_after n m a)

-- the address of word i of the N words that a is one of: address − 2j + 2i
unfoldable pub address_at_index : ℕ → ℕ → ℕ → ℕ
address_at_index n a i = a - 2 * index_of n a + 2 * i

-- one round of N steps from a visits each of its N words once, and comes back
pub record Round (n a : ℕ) : Type 0 where
  pub visits : (i : ℕ) → i < n → (m : ℕ) × (m < n) × (address_after n m a ≡ address_at_index n a i)
  pub once : (m k : ℕ) → m < n → k < n → address_after n m a ≡ address_after n k a → m ≡ k
  pub back : address_after n n a ≡ a
