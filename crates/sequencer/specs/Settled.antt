-- The write of an exact result.
use Rattle.std.specs.Prelude.{ℕ, Option, List, ◌≡◌, ℤ}
use Rattle.accumulator.specs.Mode.{mode_of}
use Rattle.address.specs.Trap.{trap_code}
use Rattle.address.specs.declared.trap.Trap.{Trap}
use Rattle.operations.specs.Decode.{target_of}
use Rattle.effects.specs.declared.effect.Exact.TheVariants.{Replace}
use Rattle.machine.specs.Write.{settle_of}
use Rattle.fields.specs.Carried.{exact_of}
use Rattle.sequencer.specs.Lent.{lent_state}
use Rattle.sequencer.specs.declared.flow.Flow.{Flow}
use Rattle.sequencer.specs.declared.sums.Sums.{Sums}

-- the result r is written to accumulator t: s becomes s'
abbrev pub Settles : ℕ → ℕ → ℕ → ℤ → Sums → Sums → Option Trap → Type 0
Settles traps mode t r s s' trap =
    (w starts passes : List ℕ) (f : Flow)
    → record { state = lent_state w s'.values s'.overflow s'.saturation starts passes f; trap = trap_code trap }
    ≡ settle_of traps (mode_of mode) (Replace (target_of t) r) (lent_state w s.values s.overflow s.saturation starts passes f)

-- an operation's result is written, if it has one
abbrev pub WritesResult : ℕ → ℕ → ℕ → Option ℤ → Sums → Sums → Option Trap → Type 0
WritesResult traps mode t r s s' trap =
    (w starts passes : List ℕ) (f : Flow)
    → record { state = lent_state w s'.values s'.overflow s'.saturation starts passes f; trap = trap_code trap }
    ≡ settle_of traps (mode_of mode) (exact_of (target_of t) r) (lent_state w s.values s.overflow s.saturation starts passes f)
