-- States by their parts, for the worked examples of this crate and those above. Assumes nothing.
use Prim.Native.Nat.{ℕ}
use mathlib.Core.Bool.{Bool}
use mathlib.Core.List.{List, [], ◌∷◌}
use lib.IntN.{ℤ}
use lib.ListN.{set}
use Rattle.state.specs.declared.state.Loops.{Loops}
use Rattle.state.specs.declared.state.State.{State}

-- the four slots and how many are in use
abbrev pub slots : List ℕ → List ℕ → ℕ → Loops
slots starts passes depth = record { starts = starts; passes = passes; depth = depth }

-- a state of all its parts: registers, A, B, pc, loops, repeat left, mode word, OA, OB, SA, SB
abbrev pub made : List ℕ → ℤ → ℤ → ℕ → Loops → ℕ → ℕ → Bool → Bool → Bool → Bool → State
made w a b pc loops due mode oa ob sa sb =
    record { core = record { w = w; a = a; b = b; pc = pc; loops = loops; repeat = due; mode = mode; oa = oa; ob = ob }; sa = sa; sb = sb }

infixl 12 ◌but◌
-- a state with one part replaced
abbrev pub ◌but◌ : State → (State → State) → State
s but f = f s

-- W r
abbrev pub reg : ℕ → ℕ → State → State
reg r x s = let c = s.core in made (set c.w r x) c.a c.b c.pc c.loops c.repeat c.mode c.oa c.ob s.sa s.sb

-- A
abbrev pub in_a : ℤ → State → State
in_a v s = let c = s.core in made c.w v c.b c.pc c.loops c.repeat c.mode c.oa c.ob s.sa s.sb

-- B
abbrev pub in_b : ℤ → State → State
in_b v s = let c = s.core in made c.w c.a v c.pc c.loops c.repeat c.mode c.oa c.ob s.sa s.sb

-- pc
abbrev pub at : ℕ → State → State
at pc s = let c = s.core in made c.w c.a c.b pc c.loops c.repeat c.mode c.oa c.ob s.sa s.sb

-- the loops
abbrev pub looping : Loops → State → State
looping l s = let c = s.core in made c.w c.a c.b c.pc l c.repeat c.mode c.oa c.ob s.sa s.sb

-- repeat left
abbrev pub due : ℕ → State → State
due n s = let c = s.core in made c.w c.a c.b c.pc c.loops n c.mode c.oa c.ob s.sa s.sb

-- the mode word
abbrev pub by : ℕ → State → State
by mode s = let c = s.core in made c.w c.a c.b c.pc c.loops c.repeat mode c.oa c.ob s.sa s.sb

-- OA, OB, SA, SB
abbrev pub flags : Bool → Bool → Bool → Bool → State → State
flags oa ob sa sb s = let c = s.core in made c.w c.a c.b c.pc c.loops c.repeat c.mode oa ob sa sb

-- one loop: DO's number and passes left; two, the outer first
abbrev pub one : ℕ → ℕ → State → State
one d n s = looping (slots (d ∷ 0 ∷ 0 ∷ 0 ∷ []) (n ∷ 0 ∷ 0 ∷ 0 ∷ []) 1) s

abbrev pub two : ℕ → ℕ → ℕ → ℕ → State → State
two d n d' n' s = looping (slots (d ∷ d' ∷ 0 ∷ 0 ∷ []) (n ∷ n' ∷ 0 ∷ 0 ∷ []) 2) s
