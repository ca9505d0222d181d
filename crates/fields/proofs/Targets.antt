-- The target's number of kinds 1 to 15. Assumes nothing.
use Prim.Native.Nat.{ℕ, ◌≤◌, ◌<◌}
use mathlib.Core.Path.{◌≡◌, sym, ◌∙◌}
use mathlib.Core.List.{List}
use native.Mathlib.Omega.{arith}
use native.Mathlib.Nat.{add-zero}
use lib.ListN.{get_or}
use Rattle.operations.specs.Encode.{encode_of}
use Rattle.operations.specs.declared.operation.Operation.{Operation}
use Rattle.operations.specs.declared.operation.Operation.TheVariants.{MacClass as MacOperation, AddAccumulators, Subtract, Negate, Shift, Lac, Add, Sac}
use Rattle.operations.specs.declared.operation.Operation.TheVariants.{SacR, Literal, Load, Store, Repeat, RepeatRegister, Do, DoRegister, EndEarly, SetMode}
use Rattle.operations.specs.declared.operation.Operation.TheVariants.{ClearSaturation}
use Rattle.form.specs.Words.{words_of_bytes, words_for, field, kind_in, coded_at}
use Rattle.form.specs.Form.{Encoded}
use Rattle.form.proofs.Fields.{encoded_field, target_small}

words_target : (o : Operation) → get_or (words_for o) 0 0 ≤ 15 → get_or (words_for o) 1 0 < 2
unfolding words_for words_of_bytes encode_of
words_target (MacOperation k) l = target_small k.target
words_target (AddAccumulators t) l = target_small t
words_target (Subtract t) l = target_small t
words_target (Negate t) l = target_small t
words_target (Shift t r) l = target_small t
words_target (Lac t s o) l = target_small t
words_target (Add t s o) l = target_small t
words_target (Sac t s o) l = target_small t
words_target (SacR t s o) l = target_small t
words_target (Literal r v) l = absurd (omega arith)
words_target (Load r p post) l = absurd (omega arith)
words_target (Store r p post) l = absurd (omega arith)
words_target (Repeat n) l = absurd (omega arith)
words_target (RepeatRegister r) l = absurd (omega arith)
words_target (Do n last) l = absurd (omega arith)
words_target (DoRegister r last) l = absurd (omega arith)
words_target EndEarly l = absurd (omega arith)
words_target (SetMode w) l = absurd (omega arith)
words_target ClearSaturation l = absurd (omega arith)

pub encoded_target : {code : List ℕ} {at : ℕ} → Encoded code at → kind_in code at ≤ 15 → field code at 1 < 2
encoded_target {code} {at} e l =
    let kind : kind_in code at ≡ get_or (words_for (coded_at code at)) 0 0 = sym (rw add-zero) ∙ encoded_field e 0 (omega arith) in
    rw (encoded_field e 1 (omega arith)) (words_target (coded_at code at) (rw kind at l))
