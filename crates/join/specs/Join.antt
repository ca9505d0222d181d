-- Two programs in one file: the second's operations follow the first's, with its loops' last operations moved by the first's count.
use Rattle.std.specs.Prelude.{ℕ, ◌+◌, ◌≤◌, ◌≡◌, cond, List, [], ◌∷◌, ◌++◌, map, leb, length}
use Rattle.operations.specs.Encode.{encode_of}
use Rattle.operations.specs.declared.operation.Operation.{Operation}
use Rattle.operations.specs.declared.operation.Operation.TheVariants.{MacClass as MacOperation, AddAccumulators, Subtract, Negate, Shift, Lac, Add, Sac}
use Rattle.operations.specs.declared.operation.Operation.TheVariants.{SacR, Literal, Load, Store, Repeat, RepeatRegister, Do, DoRegister, EndEarly, SetMode}
use Rattle.operations.specs.declared.operation.Operation.TheVariants.{ClearSaturation}
use Rattle.program.specs.Answer.{◌then◌, room_refusal}
use Rattle.program.specs.File.{file_refusal, operation_count, program_of}
use Rattle.program.specs.Write.{file_of}

-- ---- the joined program

-- kinds 21 and 22, DO: the last operation moved by n; every other operation stays
unfoldable pub moved_operation : ℕ → Operation → Operation
moved_operation n (MacOperation k) = MacOperation k
moved_operation n (AddAccumulators t) = AddAccumulators t
moved_operation n (Subtract t) = Subtract t
moved_operation n (Negate t) = Negate t
moved_operation n (Shift t r) = Shift t r
moved_operation n (Lac t b2 o) = Lac t b2 o
moved_operation n (Add t b2 o) = Add t b2 o
moved_operation n (Sac t b2 o) = Sac t b2 o
moved_operation n (SacR t b2 o) = SacR t b2 o
moved_operation n (Literal r v) = Literal r v
moved_operation n (Load r p post) = Load r p post
moved_operation n (Store r p post) = Store r p post
moved_operation n (Repeat count) = Repeat count
moved_operation n (RepeatRegister r) = RepeatRegister r
moved_operation n (Do count last) = Do count (n + last)
moved_operation n (DoRegister r last) = DoRegister r (n + last)
moved_operation n EndEarly = EndEarly
moved_operation n (SetMode word) = SetMode word
moved_operation n ClearSaturation = ClearSaturation

-- p's operations, then q's
unfoldable pub joined : List Operation → List Operation → List Operation
joined p q = p ++ map (moved_operation (length p)) q

-- ---- its file

-- the bytes of operations, 8 each, in order
abbrev pub encoded : List Operation → List ℕ
encoded [] = []
encoded (o ∷ p) = encode_of o ++ encoded p

-- of the joined program
unfoldable pub joined_bytes : List ℕ → List ℕ → List ℕ
joined_bytes first second = encoded (joined (program_of first) (program_of second))

-- in blocks of 63 operations, as the writer makes them
unfoldable pub joined_file : List ℕ → List ℕ → List ℕ
joined_file first second = file_of (joined_bytes first second)

-- ---- the refusals

-- 9: more than 4,032 operations together
abbrev pub together_refusal : ℕ → ℕ
together_refusal n = cond (leb n 4032) 0 9

-- 1 to 5 of the first file, 1 to 5 of the second, 9, then 8 where the joined file does not fit the lent slice
unfoldable pub join_refusal : List ℕ → List ℕ → ℕ → ℕ
join_refusal first second room =
    file_refusal first then file_refusal second then together_refusal (operation_count first + operation_count second)
    then room_refusal (length (joined_file first second)) room

-- two accepted files, the first of n operations, with at most 4,032 together
pub record Joinable (first second : List ℕ) (n : ℕ) : Type 0 where
  pub first_accepted : file_refusal first ≡ 0
  pub second_accepted : file_refusal second ≡ 0
  pub count : n ≡ operation_count first
  pub few : n + operation_count second ≤ 4032
