-- Bit-reversed register with N words: N = 2 ^ b, and b is the width of an index.
use Rattle.std.specs.Prelude.{ℕ, zero, suc, ◌+◌, ◌-◌, ◌*◌, ◌/◌, ◌%◌, ◌^◌, Bool, cond, not, ◌==◌}

-- rev reversing the bits of a number below N = 2 ^ b: the lowest becomes the highest, and the others are reversed below it
unfoldable pub rev : ℕ → ℕ → ℕ
rev zero j = 0
rev (suc b) j = j % 2 * 2 ^ b + rev b (j / 2)

-- the b of 1 .. top with n = 2 ^ b; 0 where there is none
unfoldable pub width_up_to : ℕ → ℕ → ℕ
width_up_to zero n = 0
width_up_to (suc b) n = cond (n == 2 ^ suc b) (suc b) (width_up_to b n)

-- the width b of N = 2 ^ b, N one of 2 .. 1,024; 0 of any other number
unfoldable pub width_of : ℕ → ℕ
width_of n = width_up_to 10 n

-- N is a power of two 2 .. 1,024
unfoldable pub is_power : ℕ → Bool
is_power n = not (width_of n == 0)

-- index j = (address mod 2N) / 2
unfoldable pub index_of : ℕ → ℕ → ℕ
index_of n a = a % (2 * n) / 2

-- k = rev((rev(j) + 1) mod N) the next index, N = 2 ^ b
unfoldable pub next_index : ℕ → ℕ → ℕ
next_index b j = rev b ((rev b j + 1) % 2 ^ b)

-- the next address is address − 2j + 2k; of an N that is no power of two 2 .. 1,024 the width is 0, and the address stays
unfoldable pub next_of : ℕ → ℕ → ℕ
next_of n a =
    let b = width_of n in
    let j = index_of (2 ^ b) a in
    let k = next_index b j in
    a - 2 * j + 2 * k
