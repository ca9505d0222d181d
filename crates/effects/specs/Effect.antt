-- What an operation comes to before anything is limited, rounded or stored. It is common to engine and ledger.
use Rattle.std.specs.Prelude.{ℕ, cond, List, eqb, ℤ}
use Rattle.accumulator.specs.declared.mode.Target.{Target}
use Rattle.effects.specs.declared.access.Place.{Place}
use Rattle.effects.specs.declared.access.Place.TheVariants.{Nowhere}
use Rattle.effects.specs.declared.effect.Exact.{Exact}
use Rattle.effects.specs.declared.effect.Exact.TheVariants.{Keep, Replace}
use Rattle.effects.specs.declared.effect.Value.{Value}
use Rattle.effects.specs.declared.effect.Value.TheVariants.{Word}
use Rattle.effects.specs.declared.effect.Effect.{Effect}

-- the registers after loads and pointer changes; the trap, the exact result and the one store
pub record Work : Type 0 where
  pub w : List ℕ
  pub effect : Effect

-- with traps 1 to 4 there is no effect
abbrev pub blocked : List ℕ → ℕ → Work
blocked w trap = record { w = w; effect = record { trap = trap; exact = Keep; place = Nowhere; value = Word 0 } }

-- nothing but what Control says
abbrev pub quiet : List ℕ → Work
quiet w = blocked w 0

-- an exact result for an accumulator
abbrev pub results : List ℕ → Target → ℤ → Work
results w t r = record { w = w; effect = record { trap = 0; exact = Replace t r; place = Nowhere; value = Word 0 } }

-- a store
abbrev pub stores : List ℕ → Place → Value → Work
stores w place v = record { w = w; effect = record { trap = 0; exact = Keep; place = place; value = v } }

-- what is done where no trap applies
abbrev pub unless_trap : List ℕ → ℕ → Work → Work
unless_trap w trap work = cond (eqb trap 0) work (blocked w trap)
