-- The 16 words of an operation, and the operation that 16 words are.
use Rattle.std.specs.Prelude.{ℕ, ◌+◌, ◌/◌, ◌%◌, List, [], ◌∷◌, cond, eqb, leb, get_or}
use Rattle.operations.specs.Bytes.{byte, word}
use Rattle.operations.specs.Encode.{encode_of}
use Rattle.operations.specs.Decode.{target_of, action_of, write_back_of, post_of, operand_of}
use Rattle.operations.specs.declared.operation.Prefetch.{Prefetch}
use Rattle.operations.specs.declared.operation.Prefetch.TheVariants.{None as NoPrefetch, Pointer, Sum}
use Rattle.operations.specs.declared.operation.MacClass.{MacClass}
use Rattle.operations.specs.declared.operation.Operation.{Operation}
use Rattle.operations.specs.declared.operation.Operation.TheVariants.{MacClass as MacOperation, AddAccumulators, Subtract, Negate, Shift, Lac, Add, Sac}
use Rattle.operations.specs.declared.operation.Operation.TheVariants.{SacR, Literal, Load, Store, Repeat, RepeatRegister, Do, DoRegister, EndEarly, SetMode}
use Rattle.operations.specs.declared.operation.Operation.TheVariants.{ClearSaturation}

-- ---- the words of 8 bytes

-- words 0 and 1 are b0 and b1, words 2 to 9 the low and then the high nibble of b2 to b5 in turn, word 10 is b6, words 11 and 12 are the numbers
-- in b2-3 and b4-5, words 13 to 15 are 0
unfoldable pub words_of_bytes : List ℕ → List ℕ
words_of_bytes b =
    byte b 0 ∷ byte b 1
    ∷ byte b 2 % 16 ∷ byte b 2 / 16 ∷ byte b 3 % 16 ∷ byte b 3 / 16 ∷ byte b 4 % 16 ∷ byte b 4 / 16 ∷ byte b 5 % 16 ∷ byte b 5 / 16
    ∷ byte b 6 ∷ word b 2 ∷ word b 4 ∷ 0 ∷ 0 ∷ 0 ∷ []

-- of an operation
unfoldable pub words_for : Operation → List ℕ
words_for o = words_of_bytes (encode_of o)

-- ---- the operation that the 16 words from `at` on are

-- word k of the operation at `at`
abbrev pub field : List ℕ → ℕ → ℕ → ℕ
field code at k = get_or code (at + k) 0

-- the kind
abbrev pub kind_in : List ℕ → ℕ → ℕ
kind_in code at = get_or code at 0

-- none, the sum of two registers, or a pointer with its c
abbrev pub prefetch_in : ℕ → ℕ → ℕ → Prefetch
prefetch_in r c sum = cond (eqb r 0) NoPrefetch (cond (eqb r sum) Sum (Pointer r c))

-- kinds 1 to 7
abbrev pub mac_in : List ℕ → ℕ → MacClass
mac_in code at =
    record {
      action = action_of (kind_in code at);
      target = target_of (field code at 1);
      m = field code at 2;
      n = field code at 3;
      x = prefetch_in (field code at 4) (field code at 5) 12;
      xto = field code at 8;
      y = prefetch_in (field code at 6) (field code at 7) 13;
      yto = field code at 9;
      back = write_back_of (field code at 10);
    }

-- kinds 8 to 11
abbrev pub arithmetic_in : List ℕ → ℕ → Operation
arithmetic_in code at =
    cond (eqb (kind_in code at) 8) (AddAccumulators (target_of (field code at 1)))
    (cond (eqb (kind_in code at) 9) (Subtract (target_of (field code at 1)))
    (cond (eqb (kind_in code at) 10) (Negate (target_of (field code at 1)))
    (Shift (target_of (field code at 1)) (field code at 4))))

-- kinds 12 to 15
abbrev pub transfer_in : List ℕ → ℕ → Operation
transfer_in code at =
    cond (eqb (kind_in code at) 12) (Lac (target_of (field code at 1)) (field code at 2) (operand_of (field code at 4) (field code at 6)))
    (cond (eqb (kind_in code at) 13) (Add (target_of (field code at 1)) (field code at 2) (operand_of (field code at 4) (field code at 6)))
    (cond (eqb (kind_in code at) 14) (Sac (target_of (field code at 1)) (field code at 2) (operand_of (field code at 4) (field code at 6)))
    (SacR (target_of (field code at 1)) (field code at 2) (operand_of (field code at 4) (field code at 6)))))

-- kinds 16 to 18
abbrev pub move_in : List ℕ → ℕ → Operation
move_in code at =
    cond (eqb (kind_in code at) 16) (Literal (field code at 1) (field code at 11))
    (cond (eqb (kind_in code at) 17) (Load (field code at 1) (field code at 4) (post_of (field code at 6)))
    (Store (field code at 1) (field code at 4) (post_of (field code at 6))))

-- kinds 19 to 25
abbrev pub control_in : List ℕ → ℕ → Operation
control_in code at =
    cond (eqb (kind_in code at) 19) (Repeat (field code at 11))
    (cond (eqb (kind_in code at) 20) (RepeatRegister (field code at 1))
    (cond (eqb (kind_in code at) 21) (Do (field code at 11) (field code at 12))
    (cond (eqb (kind_in code at) 22) (DoRegister (field code at 1) (field code at 12))
    (cond (eqb (kind_in code at) 23) EndEarly
    (cond (eqb (kind_in code at) 24) (SetMode (field code at 11))
    ClearSaturation)))))

-- all kinds
unfoldable pub coded_at : List ℕ → ℕ → Operation
coded_at code at =
    cond (leb (kind_in code at) 7) (MacOperation (mac_in code at))
    (cond (leb (kind_in code at) 11) (arithmetic_in code at)
    (cond (leb (kind_in code at) 15) (transfer_in code at)
    (cond (leb (kind_in code at) 18) (move_in code at)
    (control_in code at))))
