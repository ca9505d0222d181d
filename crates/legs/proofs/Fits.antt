-- What refusal 7 asks holds all along a run: what a run returns is accepted again, for every ending. Assumes nothing.
use Prim.Native.Nat.{ℕ, ◌≤◌, ◌<◌}
use mathlib.Core.Bool.{true, false}
use mathlib.Core.List.{List}
use mathlib.Core.Path.{◌≡◌, ◌∙◌}
use native.Mathlib.Omega.{arith}
use borrow.Author.Tests.{eqb-false}
use lib.Dec.{eqb}
use lib.ListN.{length}
use Rattle.integers.proofs.Whole.{by_test}
use Rattle.accumulator.specs.Mode.{mode_of}
use Rattle.operations.specs.Listed.{is_listed}
use Rattle.operations.specs.declared.operation.Operation.{Operation}
use Rattle.operations.specs.declared.operation.Operation.TheVariants.{EndEarly}
use Rattle.program.specs.File.{file_refusal, program_of}
use Rattle.program.specs.Placement.{is_placed}
use Rattle.program.proofs.Accepted.{program_listed, program_length}
use Rattle.state.specs.Typed.{AreWords}
use Rattle.state.specs.declared.settings.Settings.{Settings}
use Rattle.state.specs.declared.state.State.{State}
use Rattle.effects.specs.Operations.{work_of}
use Rattle.machine.specs.Write.{value_word}
use Rattle.machine.specs.Step.{Step, operation_at, uncounted, completed, stepped}
use Rattle.machine.proofs.Words.{put_memory_long, put_memory_lem}
use Rattle.machine.proofs.Places.{work_fitted}
use Rattle.machine.proofs.Stands.{Stands, stepped_stands}
use Rattle.runs.specs.Engine.{Engine, engine_turn, engine_done, engine_run}
use Rattle.legs.proofs.Runs.{Keeps, run_keeps}

-- an engine whose state stands, with a memory of so many words
pub record Fit (p : List Operation) (words : ℕ) (x : Engine) : Type 0 where
  pub stands : Stands p x.state.core
  pub ram : AreWords x.memory
  pub long : length x.memory ≡ words

-- where it is not done there is an operation at pc
pub at_operation : (p : List Operation) (words : ℕ) (x : Engine) → engine_done p x ≡ false → Fit p words x → x.state.core.pc < length p
at_operation p words x more h =
    let most : x.state.core.pc ≤ length p = h.stands.at in
    let apart : x.state.core.pc ≡ length p → ⊥ = eqb-false x.state.core.pc (length p) more in
    omega arith

module _ (p : List Operation) (placed : is_placed p ≡ true) (ok : (i : ℕ) → i < length p → is_listed (operation_at p i) ≡ true)
    (settings : Settings) (words : ℕ) where
  -- the memory after a step
  abbrev Ram : List ℕ → Type 0
  Ram memory = AreWords memory × (length memory ≡ words)

  stepped_ram : (s : State) (memory : List ℕ) → is_listed (operation_at p s.core.pc) ≡ true → Stands p s.core → Ram memory
      → Ram (stepped p settings s memory).memory
  unfolding stepped completed
  stepped_ram s memory listed h (ram, long) =
      let m = mode_of s.core.mode in
      let o = operation_at p s.core.pc in
      let work = work_of settings m o s.core memory in
      let (kept, value) = (work_fitted settings m s.core memory o listed).words h.words ram in
      let place = work.effect.place in
      let word = value_word m work.effect.value in
      by_test (λ (r : Step). Ram r.memory) (eqb work.effect.trap 0)
      {x = completed p settings m o work s memory} {y = uncounted s memory work.effect.trap}
      (λ e. (put_memory_lem place word memory (value m) ram, put_memory_long place word memory ∙ long)) (λ e. (ram, long))

  -- a step keeps it, where there is an operation at pc
  pub stepped_fits : (x : Engine) → x.state.core.pc < length p → Fit p words x
      → let r = stepped p settings x.state x.memory in Fit p words (record { state = r.state; memory = r.memory })
  stepped_fits x below h =
      let s = x.state in
      let listed = ok s.core.pc below in
      let (ram, long) = stepped_ram s x.memory listed h.stands (h.ram, h.long) in
      record { stands = stepped_stands p placed settings s x.memory listed below h.ram h.stands; ram = ram; long = long }

  pub turn_fits : (x : Engine) → engine_done p x ≡ false → Fit p words x → Keeps (Fit p words) (Fit p words) (engine_turn p settings x)
  unfolding engine_turn
  turn_fits x more h =
      let r = stepped p settings x.state x.memory in
      let fit = stepped_fits x (at_operation p words x more h) h in
      by_test (Keeps (Fit p words) (Fit p words)) r.counted
      (λ e. by_test (Keeps (Fit p words) (Fit p words)) (eqb r.trap 0) (λ f. fit) (λ f. fit)) (λ e. tt)

  pub run_fits : (budget : ℕ) (x : Engine) → Fit p words x → Fit p words (engine_run p settings budget x.state x.memory).machine
  unfolding engine_run
  run_fits budget x h =
      run_keeps (engine_done p) (λ k. engine_turn p settings) (λ k. Fit p words) (Fit p words) (λ k z g. g) (λ k z e g. turn_fits z e g) budget 0 x h

-- ---- of a file

-- the operations of an accepted file's program are listed
pub file_listed : (file : List ℕ) → file_refusal file ≡ 0 → (i : ℕ) → i < length (program_of file) → is_listed (operation_at (program_of file) i) ≡ true
file_listed file accepted i l = program_listed file accepted i EndEarly (rw (program_length file accepted) at l)
