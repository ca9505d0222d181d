-- What kinds 1 to 7 read, and the shape that most of them have.
use Rattle.std.specs.Prelude.{◌≡◌, ℕ, ◌/◌, ◌≤◌, Bool, true, ◌&&◌, ◌||◌, List, length, ℤ, ◌==◌, nat_le, Result, IfOk}
use Rattle.accumulator.specs.declared.mode.Target.{Target}
use Rattle.address.specs.Trap.{failed_by}
use Rattle.address.specs.declared.trap.Trap.{Trap}
use Rattle.operations.specs.Decode.{action_of}
use Rattle.state.specs.State.{register}
use Rattle.state.specs.declared.settings.Settings.{Settings}
use Rattle.effects.specs.Access.{word_at}
use Rattle.effects.specs.Mac.{exact_by, mac_accesses, mac_trap}
use Rattle.effects.specs.declared.effect.Exact.TheVariants.{Replace}
use Rattle.form.specs.Words.{field, kind_in, mac_in}
use Rattle.products.specs.declared.mac.Fetched.{Fetched}

-- no trap, what the pointers and W13 hold, and the words
pub record Fetches (settings : Settings) (code : List ℕ) (at : ℕ) (w memory : List ℕ) (f : Fetched) : Type 0 where
  pub free : 0 ≡ mac_trap (mac_accesses settings (mac_in code at) w (length memory))
  pub xa : register w (field code at 4) ≡ f.xa.0
  pub ya : register w (field code at 6) ≡ f.ya.0
  pub ba : register w 13 ≡ f.ba.0
  pub x : f.x ≡ word_at (mac_accesses settings (mac_in code at) w (length memory)).x.place w memory
  pub y : f.y ≡ word_at (mac_accesses settings (mac_in code at) w (length memory)).y.place w memory

-- the first trap, or what is read where there is none
pub record Fetching (settings : Settings) (code : List ℕ) (at : ℕ) (w memory : List ℕ) (r : Result Fetched Trap) : Type 0 where
  pub trap : failed_by r ≡ mac_trap (mac_accesses settings (mac_in code at) w (length memory))
  pub fetched : IfOk r (λ f. Fetches settings code at w memory f)

-- the product is the square
abbrev pub SquareIs : ℕ → ℤ → ℤ → Type 0
SquareIs kind square p = (kind == 5 || kind == 6) ≡ true → square ≡ p

-- r is the exact result of kinds 2 to 5, whatever the target
abbrev pub Accumulates : ℕ → ℤ → ℤ → ℤ → Type 0
Accumulates kind v p r = (t : Target) (square : ℤ) → 2 ≤ kind → kind ≤ 5 → SquareIs kind square p → Replace t r ≡ exact_by (action_of kind) t v p square

-- kinds 2 to 4 with two reads at pointers and no write-back
abbrev pub is_pair : List ℕ → ℕ → Bool
is_pair code at =
    nat_le 2 (kind_in code at) && nat_le (kind_in code at) 4 && field code at 4 / 2 == 4 && field code at 6 / 2 == 5 && field code at 10 == 0
