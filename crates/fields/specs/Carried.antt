-- What an operation leaves once its one store is done, before its exact result is limited.
use Rattle.std.specs.Prelude.{ℕ, true, Option, Some, None, Result, Ok, Err, IfOk, List, ◌≡◌, ℤ, pos, get_or}
use Rattle.accumulator.specs.Limit.{is_accumulator}
use Rattle.accumulator.specs.Mode.{mode_of}
use Rattle.accumulator.specs.declared.mode.Mode.{Mode}
use Rattle.accumulator.specs.declared.mode.Target.{Target}
use Rattle.address.specs.Trap.{failed_by}
use Rattle.address.specs.declared.trap.Trap.{Trap}
use Rattle.operations.specs.Decode.{target_of}
use Rattle.state.specs.declared.settings.Settings.{Settings}
use Rattle.state.specs.declared.state.Core.{Core}
use Rattle.effects.specs.Access.{word_at}
use Rattle.effects.specs.Effect.{Work}
use Rattle.effects.specs.Operations.{work_of}
use Rattle.effects.specs.declared.access.Access.{Access}
use Rattle.effects.specs.declared.effect.Exact.{Exact}
use Rattle.effects.specs.declared.effect.Exact.TheVariants.{Keep, Replace}
use Rattle.machine.specs.Write.{value_word, put_register, put_memory}
use Rattle.form.specs.Words.{field, coded_at}

-- ---- by the definitions

-- registers and memory after the store, the trap, the exact result
pub record Carried : Type 0 where
  pub w : List ℕ
  pub memory : List ℕ
  pub trap : ℕ
  pub exact : Exact

-- an operation's work with its store done; with a trap it has no store
unfoldable pub carried_of : Mode → Work → List ℕ → Carried
carried_of m work memory =
    record {
      w = put_register work.effect.place (value_word m work.effect.value) work.w;
      memory = put_memory work.effect.place (value_word m work.effect.value) memory;
      trap = work.effect.trap;
      exact = work.effect.exact;
    }

-- ---- by the code

-- a core with the registers and accumulators that the code is lent
abbrev pub core_with : Core → List ℕ → List ℤ → Core
core_with c w acc =
    record {
      w = w;
      a = get_or acc 0 (pos 0);
      b = get_or acc 1 (pos 0);
      pc = c.pc;
      loops = c.loops;
      repeat = c.repeat;
      mode = c.mode;
      oa = c.oa;
      ob = c.ob;
    }

-- the exact result for the accumulator that the operation names, if there is one
abbrev pub exact_of : Target → Option ℤ → Exact
exact_of t (Some r) = Replace t r
exact_of t None = Keep

-- with a trap there is none
abbrev pub exact_in : Target → Result (Option ℤ) Trap → Exact
exact_in t (Ok r) = exact_of t r
exact_in t (Err trap) = Keep

-- an answer that has a result whenever it has no trap
abbrev pub always : Result ℤ Trap → Result (Option ℤ) Trap
always (Ok r) = Ok (Some r)
always (Err trap) = Err trap

-- what the code leaves and answers
abbrev pub carried_in : List ℕ → List ℕ → Target → Result (Option ℤ) Trap → Carried
carried_in w memory t r = record { w = w; memory = memory; trap = failed_by r; exact = exact_in t r }

-- the operation at `at` is carried out by a mode word, whatever the rest of the core: registers w and memory become w' and memory'
abbrev pub Carries : Settings → ℕ → List ℕ → ℕ → List ℤ → List ℕ → List ℕ → List ℕ → List ℕ → Result (Option ℤ) Trap → Type 0
Carries settings mode code at acc w memory w' memory' r =
    (c : Core)
    → carried_in w' memory' (target_of (field code at 1)) r
    ≡ carried_of (mode_of mode) (work_of settings (mode_of mode) (coded_at code at) (core_with c w acc) memory) memory

-- ---- what the code relies on

-- both accumulators have 40 bits
pub record Accumulators (acc : List ℤ) : Type 0 where
  pub a : is_accumulator (get_or acc 0 (pos 0)) ≡ true
  pub b : is_accumulator (get_or acc 1 (pos 0)) ≡ true

-- ---- reads

-- a read's trap, and its word where there is none, are an access's
pub record Reads (r : Result ℕ Trap) (access : Access) (w memory : List ℕ) : Type 0 where
  pub trap : failed_by r ≡ access.trap
  pub word : IfOk r (λ x. x ≡ word_at access.place w memory)
