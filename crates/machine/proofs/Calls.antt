-- A call that is not refused; its refusal is at most 7. Assumes nothing.
use Prim.Native.Nat.{ℕ, zero, suc, ◌≤◌}
use mathlib.Core.Path.{◌≡◌, refl}
use mathlib.Core.List.{List}
use native.Mathlib.Omega.{arith}
use lib.Dec.{lit≤}
use Rattle.program.specs.Answer.{refusal_number, ◌then◌, if_accepted}
use Rattle.program.specs.File.{file_refusal, program_of}
use Rattle.program.proofs.Answers.{refused_first, then_first, then_second, then_most, test_most}
use Rattle.program.proofs.Accepted.{file_most}
use Rattle.program.specs.declared.answer.Refusal.{Refusal}
use Rattle.state.specs.Settings.{are_settings, settings_refusal}
use Rattle.state.specs.Accept.{is_state, state_refusal}
use Rattle.state.specs.declared.settings.Settings.{Settings}
use Rattle.state.specs.declared.state.State.{State}
use Rattle.machine.specs.Single.{call_refusal}

-- a refusal leaves what was there
pub if_refused : {A : Type 0} (n : ℕ) (x y : A) → (n ≡ 0 → ⊥) → y ≡ if_accepted n x y
if_refused zero x y h = absurd (h refl)
if_refused (suc n) x y h = refl

-- an error is a refusal by a number above 0
pub refused_some : (r : Refusal) → refusal_number r ≡ 0 → ⊥
refused_some r h =
    let again : refusal_number r ≡ 0 then 1 = refused_first r 0 1 h in
    absurd (omega (arith, h, again))

module _ (file : List ℕ) (settings : Settings) (s : State) where
  -- a call that is not refused has an accepted file, accepted settings and an accepted state
  pub call_file : (words : ℕ) → call_refusal file settings s words ≡ 0 → file_refusal file ≡ 0
  unfolding call_refusal
  call_file words e = then_first (file_refusal file) (settings_refusal settings words then state_refusal (program_of file) s) e

  pub call_settings : (words : ℕ) → call_refusal file settings s words ≡ 0 → settings_refusal settings words ≡ 0
  unfolding call_refusal
  call_settings words e =
      then_first (settings_refusal settings words) (state_refusal (program_of file) s)
      (then_second (file_refusal file) (settings_refusal settings words then state_refusal (program_of file) s) e)

  pub call_state : (words : ℕ) → call_refusal file settings s words ≡ 0 → state_refusal (program_of file) s ≡ 0
  unfolding call_refusal
  call_state words e =
      then_second (settings_refusal settings words) (state_refusal (program_of file) s)
      (then_second (file_refusal file) (settings_refusal settings words then state_refusal (program_of file) s) e)

  -- 1 to 5 of the file; 6; 7; or none
  pub call_most : (words : ℕ) → call_refusal file settings s words ≤ 7
  unfolding call_refusal settings_refusal state_refusal
  call_most words =
      then_most (file_refusal file) (settings_refusal settings words then state_refusal (program_of file) s) 7 (omega (arith, file_most file))
      (then_most (settings_refusal settings words) (state_refusal (program_of file) s) 7 (test_most (are_settings settings words) 6 7 (lit≤ tt))
      (test_most (is_state (program_of file) s) 7 7 (lit≤ tt)))
