-- A text or a refusal, by the number of the refusal, which is not 0. Assumes nothing.
use Prim.Native.Nat.{ℕ}
use mathlib.Core.Path.{◌≡◌, refl}
use mathlib.Core.List.{List}
use Rattle.std.specs.Prelude.{Result, Ok, Err}
use Rattle.program.specs.Answer.{answer_number}
use Rattle.program.specs.declared.answer.Refusal.{Refusal}
use Rattle.program.specs.declared.answer.Refusal.TheVariants.{Size, Sum, Header, Field, Placement, Settings, State, Room, Together, Boards, Sums}
use Rattle.report.specs.Line.{unless_refused, unless_numbered}

pub numbered_refused : {A : Type 0} (answer : Result A Refusal) (text : List ℕ) → unless_numbered (answer_number answer) text ≡ unless_refused answer text
numbered_refused (Ok x) text = refl
numbered_refused (Err Size) text = refl
numbered_refused (Err Sum) text = refl
numbered_refused (Err Header) text = refl
numbered_refused (Err Field) text = refl
numbered_refused (Err Placement) text = refl
numbered_refused (Err Settings) text = refl
numbered_refused (Err State) text = refl
numbered_refused (Err Room) text = refl
numbered_refused (Err Together) text = refl
numbered_refused (Err Boards) text = refl
numbered_refused (Err Sums) text = refl
