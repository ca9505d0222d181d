-- What the types of the code give of a state and a memory.
use Rattle.std.specs.Prelude.{ℕ, ◌^◌, ◌<◌, List, ◌≡◌, length, get_or}
use Rattle.state.specs.declared.state.Core.{Core}

-- every word has 16 bits
abbrev pub AreWords : List ℕ → Type 0
AreWords l = (i : ℕ) → get_or l i 0 < 2 ^ 16

-- fourteen registers of 16 bits, four slots for loops
pub record Typed (c : Core) : Type 0 where
  pub registers : length c.w ≡ 14
  pub words : AreWords c.w
  pub starts : length c.loops.starts ≡ 4
  pub passes : length c.loops.passes ≡ 4
