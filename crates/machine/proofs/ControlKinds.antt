-- What control does to the mode word and to the saturation flags, by the kind in b0 and the word in b2-3, and what it says of a listed operation's role: one law
-- of every kind, `by_kind`. Assumes nothing.
use Prim.Native.Nat.{ℕ, ◌+◌, ◌*◌, ◌^◌, ◌<◌}
use mathlib.Core.Bool.{true, false, cond}
use mathlib.Core.Path.{◌≡◌, refl}
use native.Mathlib.Omega.{arith}
use borrow.Author.Tests.{ltb-true}
use lib.Dec.{eqb}
use lib.ListN.{get_or}
use Rattle.integers.proofs.Whole.{both}
use Rattle.accumulator.specs.Mode.{is_good_mode}
use Rattle.operations.specs.Encode.{action_byte, encode_of}
use Rattle.operations.specs.Listed.{is_listed, is_word, is_count}
use Rattle.operations.specs.declared.operation.Action.{Action}
use Rattle.operations.specs.declared.operation.Action.TheVariants.{Clr, Mpy, Mac, Msc, Ed, Edac, Movsac}
use Rattle.operations.specs.declared.operation.Operation.{Operation}
use Rattle.operations.specs.declared.operation.Operation.TheVariants.{MacClass as MacOperation, AddAccumulators, Subtract, Negate, Shift, Lac, Add, Sac}
use Rattle.operations.specs.declared.operation.Operation.TheVariants.{SacR, Literal, Load, Store, Repeat, RepeatRegister, Do, DoRegister, EndEarly, SetMode}
use Rattle.operations.specs.declared.operation.Operation.TheVariants.{ClearSaturation}
use Rattle.program.specs.Placement.{role_of, last_of}
use Rattle.program.specs.declared.placement.Role.{Role}
use Rattle.program.specs.declared.placement.Role.TheVariants.{Plain, Repeats, Loops as Looped}
use Rattle.machine.specs.Control.{control_of, clears}
use Rattle.machine.specs.declared.control.Control.{Control}
use Rattle.machine.specs.declared.control.Control.TheVariants.{None as Onward, Repeat as Repeating, RepeatRegister as RepeatingRegister, Do as Looping}
use Rattle.machine.specs.declared.control.Control.TheVariants.{DoRegister as LoopingRegister, EndEarly as EndingEarly, SetMode as SettingMode}
use Rattle.machine.specs.declared.control.Control.TheVariants.{ClearSaturation as Clearing}
use Rattle.machine.proofs.Order.{mode_after}

-- what a control says of its operation's role, and the limits of its number
abbrev pub Suits : Control → Role → Type 0
Suits Onward r = r ≡ Plain
Suits (Repeating n) r = (r ≡ Repeats) × (n < 2 ^ 16)
Suits (RepeatingRegister x) r = r ≡ Repeats
Suits (Looping n) r = (r ≡ Looped (last_of r)) × (n < 32768)
Suits (LoopingRegister x) r = r ≡ Looped (last_of r)
Suits EndingEarly r = r ≡ Plain
Suits (SettingMode word) r = (r ≡ Plain) × (is_good_mode word ≡ true)
Suits Clearing r = r ≡ Plain

-- kind 24 alone sets a mode word, kind 25 alone clears the flags; the control of a listed operation suits its role
pub record ByKind (o : Operation) : Type 0 where
  pub mode :
      (word : ℕ) → mode_after (control_of o) word ≡ cond (eqb (get_or (encode_of o) 0 0) 24) (get_or (encode_of o) 2 0 + 256 * get_or (encode_of o) 3 0) word
  pub flags : clears (control_of o) ≡ eqb (get_or (encode_of o) 0 0) 25
  pub suits : is_listed o ≡ true → Suits (control_of o) (role_of o)

-- kinds 1 to 7
mac_kind : (action : Action) → (eqb (action_byte action) 24 ≡ false) × (eqb (action_byte action) 25 ≡ false)
mac_kind Clr = (refl, refl)
mac_kind Mpy = (refl, refl)
mac_kind Mac = (refl, refl)
mac_kind Msc = (refl, refl)
mac_kind Ed = (refl, refl)
mac_kind Edac = (refl, refl)
mac_kind Movsac = (refl, refl)

pub by_kind : (o : Operation) → ByKind o
unfolding control_of encode_of is_listed
by_kind (MacOperation k) = record { mode = λ word. rw (mac_kind k.action).0; flags = rw (mac_kind k.action).1; suits = λ ok. refl }
by_kind (AddAccumulators t) = record { mode = λ word. refl; flags = refl; suits = λ ok. refl }
by_kind (Subtract t) = record { mode = λ word. refl; flags = refl; suits = λ ok. refl }
by_kind (Negate t) = record { mode = λ word. refl; flags = refl; suits = λ ok. refl }
by_kind (Shift t r) = record { mode = λ word. refl; flags = refl; suits = λ ok. refl }
by_kind (Lac t b2 o) = record { mode = λ word. refl; flags = refl; suits = λ ok. refl }
by_kind (Add t b2 o) = record { mode = λ word. refl; flags = refl; suits = λ ok. refl }
by_kind (Sac t b2 o) = record { mode = λ word. refl; flags = refl; suits = λ ok. refl }
by_kind (SacR t b2 o) = record { mode = λ word. refl; flags = refl; suits = λ ok. refl }
by_kind (Literal r v) = record { mode = λ word. refl; flags = refl; suits = λ ok. refl }
by_kind (Load r p post) = record { mode = λ word. refl; flags = refl; suits = λ ok. refl }
by_kind (Store r p post) = record { mode = λ word. refl; flags = refl; suits = λ ok. refl }
by_kind (Repeat n) = record { mode = λ word. refl; flags = refl; suits = λ ok. let small : n < 32768 = ltb-true n 32768 ok in (refl, omega arith) }
by_kind (RepeatRegister r) = record { mode = λ word. refl; flags = refl; suits = λ ok. refl }
by_kind (Do n last) = record { mode = λ word. refl; flags = refl; suits = λ ok. (refl, ltb-true n 32768 (both (is_count n) (is_word last) ok).0) }
by_kind (DoRegister r last) = record { mode = λ word. refl; flags = refl; suits = λ ok. refl }
by_kind EndEarly = record { mode = λ word. refl; flags = refl; suits = λ ok. refl }
by_kind (SetMode x) = record { mode = λ word. omega arith; flags = refl; suits = λ ok. (refl, (both (is_good_mode x) (is_word x) ok).0) }
by_kind ClearSaturation = record { mode = λ word. refl; flags = refl; suits = λ ok. refl }
