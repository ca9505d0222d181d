-- Operations and their bytes: a listed operation is what its bytes decode to, and bytes that decode are the operation's. Assumes nothing.
use Prim.Native.Nat.{ℕ, ◌+◌, ◌*◌, ◌/◌, ◌%◌, ◌≤◌, ◌<◌}
use mathlib.Core.Path.{◌≡◌, refl}
use mathlib.Core.Bool.{Bool, true, false, ◌&&◌, ◌||◌, not}
use mathlib.Core.List.{List}
use Rattle.std.specs.Prelude.{Some}
use native.Mathlib.Omega.{arith}
use borrow.Author.Tests.{eqb-true, leb-true, eq-eqb, ne_eqb}
use lib.Dec.{eqb, leb}
use lib.ListN.{length}
use Rattle.integers.proofs.Whole.{both, by_test}
use Rattle.accumulator.specs.declared.mode.Target.{Target}
use Rattle.accumulator.specs.declared.mode.Target.TheVariants.{A, B}
use Rattle.operations.specs.declared.operation.Action.{Action}
use Rattle.operations.specs.declared.operation.Action.TheVariants.{Clr, Mpy, Mac, Msc, Ed, Edac, Movsac}
use Rattle.operations.specs.declared.operation.Prefetch.{Prefetch}
use Rattle.operations.specs.declared.operation.Prefetch.TheVariants.{None as NoPrefetch, Pointer, Sum}
use Rattle.operations.specs.declared.operation.WriteBack.{WriteBack}
use Rattle.operations.specs.declared.operation.WriteBack.TheVariants.{None as NoWriteBack, Register as ToRegister, Memory as ToMemory}
use Rattle.operations.specs.declared.operation.PostModification.{PostModification}
use Rattle.operations.specs.declared.operation.PostModification.TheVariants.{None as Stays, Increment, Decrement}
use Rattle.operations.specs.declared.operation.Operand.{Operand}
use Rattle.operations.specs.declared.operation.Operand.TheVariants.{Register, Memory}
use Rattle.operations.specs.declared.operation.MacClass.{MacClass}
use Rattle.operations.specs.declared.operation.Operation.{Operation}
use Rattle.operations.specs.declared.operation.Operation.TheVariants.{MacClass as MacOperation, AddAccumulators, Subtract, Negate, Shift}
use Rattle.operations.specs.declared.operation.Operation.TheVariants.{Lac, Add, Sac, SacR, Literal, Load, Store, Repeat, RepeatRegister, Do}
use Rattle.operations.specs.declared.operation.Operation.TheVariants.{DoRegister, EndEarly, SetMode, ClearSaturation}
use Rattle.operations.specs.Bytes.{is_same}
use Rattle.operations.specs.Encode.{target_byte, nibbles, action_byte, prefetch_byte, write_back_byte, mac_bytes, post_byte, pointer_byte, form_byte, encode_of}
use Rattle.operations.specs.Listed.{is_factor, are_factors, is_prefetch, reads, is_destination, are_destinations, is_write_back, is_listed_mac, is_listed}
use Rattle.operations.specs.Decode.{target_of, action_of, prefetch_of, write_back_of, post_of, operand_of, operation_of, listed_if, decode_of, decoded_number}
use Rattle.operations.proofs.Same.{same_true, same_refl}

-- ---- what decoding says

-- an operation that is taken is the one that was tested
pub if_listed : (t : Bool) (p o : Operation) → listed_if t p ≡ Some o → (t ≡ true) × (p ≡ o)
if_listed true p o e = (refl, cc)
if_listed false p o e = (cc, cc)

pub taken_decode : (b : List ℕ) → decoded_number (decode_of b) ≡ 0 → decode_of b ≡ Some (operation_of b)
unfolding decode_of
taken_decode b e = go (is_listed (operation_of b) && is_same (encode_of (operation_of b)) b) e
  where
    go : (t : Bool) → decoded_number (listed_if t (operation_of b)) ≡ 0 → listed_if t (operation_of b) ≡ Some (operation_of b)
    go true e = refl
    go false e = cc

module _ (b : List ℕ) (o : Operation) (e : decode_of b ≡ Some o) where
  tested : (is_listed (operation_of b) && is_same (encode_of (operation_of b)) b ≡ true) × (operation_of b ≡ o)
  unfolding decode_of
  tested = if_listed (is_listed (operation_of b) && is_same (encode_of (operation_of b)) b) (operation_of b) o e

  parts : (is_listed (operation_of b) ≡ true) × (is_same (encode_of (operation_of b)) b ≡ true)
  parts = both (is_listed (operation_of b)) (is_same (encode_of (operation_of b)) b) tested.0

  pub decode_operation : operation_of b ≡ o
  decode_operation = tested.1

  pub decode_listed : is_listed o ≡ true
  decode_listed = rw (← decode_operation) parts.0

  pub encode_decode : encode_of o ≡ b
  encode_decode = rw (← decode_operation) (same_true (encode_of (operation_of b)) b parts.1)

pub taken_listed : (b : List ℕ) → decoded_number (decode_of b) ≡ 0 → is_listed (operation_of b) ≡ true
taken_listed b e = decode_listed b (operation_of b) (taken_decode b e)

pub taken_bytes : (b : List ℕ) → decoded_number (decode_of b) ≡ 0 → encode_of (operation_of b) ≡ b
taken_bytes b e = encode_decode b (operation_of b) (taken_decode b e)

-- ---- each field from its byte

pub target_again : (t : Target) → target_of (target_byte t) ≡ t
target_again A = refl
target_again B = refl

pub action_again : (a : Action) → action_of (action_byte a) ≡ a
action_again Clr = refl
action_again Mpy = refl
action_again Mac = refl
action_again Msc = refl
action_again Ed = refl
action_again Edac = refl
action_again Movsac = refl

-- an action is one of kinds 1 to 7
pub action_kind : (a : Action) → leb (action_byte a) 7 ≡ true
action_kind Clr = refl
action_kind Mpy = refl
action_kind Mac = refl
action_kind Msc = refl
action_kind Ed = refl
action_kind Edac = refl
action_kind Movsac = refl

pub write_back_again : (w : WriteBack) → write_back_of (write_back_byte w) ≡ w
write_back_again NoWriteBack = refl
write_back_again ToRegister = refl
write_back_again ToMemory = refl

post_again : (p : PostModification) → post_of (post_byte p) ≡ p
post_again Stays = refl
post_again Increment = refl
post_again Decrement = refl

operand_again : (o : Operand) → operand_of (pointer_byte o) (form_byte o) ≡ o
operand_again (Register r) = refl
operand_again (Memory p Stays) = refl
operand_again (Memory p Increment) = refl
operand_again (Memory p Decrement) = refl

pub word_again : (v : ℕ) → v % 256 + 256 * (v / 256) ≡ v
word_again v = omega arith

-- a test against a number or the next one
pub near : (r first : ℕ) → (eqb r first || eqb r (first + 1)) ≡ true → (first ≤ r) × (r ≤ first + 1)
near r first e = go (eqb r first) refl e
  where
    go : (t : Bool) → eqb r first ≡ t → (t || eqb r (first + 1)) ≡ true → (first ≤ r) × (r ≤ first + 1)
    go true d e = omega (arith, eqb-true r first d)
    go false d e = omega (arith, eqb-true r (first + 1) e)

-- two nibbles come apart
pub low_nibble : (low high : ℕ) → low < 16 → nibbles low high % 16 ≡ low
low_nibble low high h = omega arith

pub high_nibble : (low high : ℕ) → high < 16 → nibbles low high / 16 ≡ high
high_nibble low high h = omega arith

-- a pointer's byte is neither 0 nor the byte of the sum
prefetch_again : (first sum : ℕ) → 0 < first → first + 1 < sum → sum < 16 → (p : Prefetch) → is_prefetch first p ≡ true
    → prefetch_of (prefetch_byte p sum) sum ≡ p
prefetch_again first sum some above most NoPrefetch e = refl
prefetch_again first sum some above most (Pointer r c) e =
    let t = both (eqb r first || eqb r (first + 1)) (leb c 6) e in
    let pointer = near r first t.0 in
    let step = leb-true c 6 t.1 in
    rw (
      ne_eqb (nibbles r c) 0 (λ z. omega arith),
      ne_eqb (nibbles r c) sum (λ z. omega arith),
      low_nibble r c (omega arith),
      high_nibble r c (omega arith),
    )
prefetch_again first sum some above most Sum e = rw (ne_eqb sum 0 (λ z. omega arith), eq-eqb sum sum refl)

-- ---- kinds 1 to 7: the ranges of the nibbles

factor_small : (r : ℕ) → is_factor r ≡ true → r < 16
factor_small r e = omega (arith, leb-true r 7 (both (leb 4 r) (leb r 7) e).1)

factors_small : (kind m n : ℕ) → are_factors kind m n ≡ true → (m < 16) × (n < 16)
factors_small kind m n =
    by_test (λ t. t ≡ true → (m < 16) × (n < 16)) (eqb kind 1 || eqb kind 7)
    (λ d e. let t = both (eqb m 0) (eqb n 0) e in omega (arith, eqb-true m 0 t.0, eqb-true n 0 t.1))
    (λ d e.
    let t = both (is_factor m) (is_factor n) (both (is_factor m && is_factor n) (not (eqb kind 5 || eqb kind 6) || eqb m n) e).0 in
    (factor_small m t.0, factor_small n t.1))

destination_small : (p : Prefetch) (to : ℕ) → is_destination p to ≡ true → to < 16
destination_small p to =
    by_test (λ t. t ≡ true → to < 16) (reads p) (λ d e. factor_small to e) (λ d e. omega (arith, eqb-true to 0 e))

destinations_small : (kind : ℕ) (x y : Prefetch) (xto yto : ℕ) → are_destinations kind x y xto yto ≡ true → (xto < 16) × (yto < 16)
destinations_small kind x y xto yto =
    by_test (λ t. t ≡ true → (xto < 16) × (yto < 16)) (eqb kind 5 || eqb kind 6)
    (λ d e.
    let t = both (reads x && reads y && is_factor xto) (eqb yto 0) e in
    (factor_small xto (both (reads x && reads y) (is_factor xto) t.0).1, omega (arith, eqb-true yto 0 t.1)))
    (λ d e.
    let t = both (is_destination x xto) (is_destination y yto) (both (is_destination x xto && is_destination y yto) (not (reads x && reads y && eqb xto yto)) e).0 in
    (destination_small x xto t.0, destination_small y yto t.1))

-- m and n are nibbles
pub factors_nibbles : (k : MacClass) → is_listed_mac k ≡ true → (k.m < 16) × (k.n < 16)
unfolding is_listed_mac
factors_nibbles k e =
    let kind : ℕ = action_byte k.action in
    let factors : Bool = are_factors kind k.m k.n in
    let x : Bool = is_prefetch 8 k.x in
    let y : Bool = is_prefetch 10 k.y in
    let destinations : Bool = are_destinations kind k.x k.y k.xto k.yto in
    let t = both (factors && x && y) destinations (both (factors && x && y && destinations) (is_write_back kind k.back) e).0 in
    factors_small kind k.m k.n (both factors x (both (factors && x) y t.0).0).0

mac_again : (k : MacClass) → is_listed_mac k ≡ true → operation_of (mac_bytes k) ≡ MacOperation k
unfolding operation_of is_listed_mac
mac_again k e =
    let kind : ℕ = action_byte k.action in
    let factors : Bool = are_factors kind k.m k.n in
    let x : Bool = is_prefetch 8 k.x in
    let y : Bool = is_prefetch 10 k.y in
    let destinations : Bool = are_destinations kind k.x k.y k.xto k.yto in
    let t = both (factors && x && y) destinations (both (factors && x && y && destinations) (is_write_back kind k.back) e).0 in
    let u = both (factors && x) y t.0 in
    let nibble = factors_nibbles k e in
    let to = destinations_small kind k.x k.y k.xto k.yto t.1 in
    rw (
      action_kind k.action,
      action_again k.action,
      target_again k.target,
      low_nibble k.m k.n nibble.0,
      high_nibble k.m k.n nibble.1,
      prefetch_again 8 12 (omega arith) (omega arith) (omega arith) k.x (both factors x u.0).1,
      prefetch_again 10 13 (omega arith) (omega arith) (omega arith) k.y u.1,
      low_nibble k.xto k.yto to.0,
      high_nibble k.xto k.yto to.1,
      write_back_again k.back,
    )

-- ---- all kinds

pub operation_encode : (o : Operation) → is_listed o ≡ true → operation_of (encode_of o) ≡ o
unfolding operation_of encode_of is_listed
operation_encode (MacOperation k) e = mac_again k e
operation_encode (AddAccumulators t) e = rw (target_again t)
operation_encode (Subtract t) e = rw (target_again t)
operation_encode (Negate t) e = rw (target_again t)
operation_encode (Shift t r) e = rw (target_again t)
operation_encode (Lac t s o) e = rw (target_again t, operand_again o)
operation_encode (Add t s o) e = rw (target_again t, operand_again o)
operation_encode (Sac t s o) e = rw (target_again t, operand_again o)
operation_encode (SacR t s o) e = rw (target_again t, operand_again o)
operation_encode (Literal r v) e = rw (word_again v)
operation_encode (Load r p post) e = rw (post_again post)
operation_encode (Store r p post) e = rw (post_again post)
operation_encode (Repeat n) e = rw (word_again n)
operation_encode (RepeatRegister r) e = refl
operation_encode (Do n last) e = rw (word_again n, word_again last)
operation_encode (DoRegister r last) e = rw (word_again last)
operation_encode EndEarly e = refl
operation_encode (SetMode w) e = rw (word_again w)
operation_encode ClearSaturation e = refl

pub decode_encode : (o : Operation) → is_listed o ≡ true → decode_of (encode_of o) ≡ Some o
unfolding decode_of
decode_encode o e = rw (operation_encode o e, e, same_refl (encode_of o))

-- an operation has eight bytes
pub encode_length : (o : Operation) → length (encode_of o) ≡ 8
unfolding encode_of
encode_length (MacOperation k) = refl
encode_length (AddAccumulators t) = refl
encode_length (Subtract t) = refl
encode_length (Negate t) = refl
encode_length (Shift t r) = refl
encode_length (Lac t b2 o) = refl
encode_length (Add t b2 o) = refl
encode_length (Sac t b2 o) = refl
encode_length (SacR t b2 o) = refl
encode_length (Literal r v) = refl
encode_length (Load r p post) = refl
encode_length (Store r p post) = refl
encode_length (Repeat n) = refl
encode_length (RepeatRegister r) = refl
encode_length (Do n last) = refl
encode_length (DoRegister r last) = refl
encode_length EndEarly = refl
encode_length (SetMode word) = refl
encode_length ClearSaturation = refl
