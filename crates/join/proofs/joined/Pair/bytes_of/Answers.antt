-- `Pair::bytes_of` meets its contract: an operation of the first file, or one of the second, a DO with its last moved.
use Prim.Native.Nat.{ℕ, ◌+◌, ◌-◌, ◌/◌, ◌%◌, ◌<◌}
use mathlib.Core.Path.{◌≡◌, ap, ◌∙◌}
use native.Mathlib.Omega.{arith}
use lib.ListN.{set}
use Rattle.operations.specs.Encode.{encode_of}
use Rattle.operations.specs.declared.operation.Operation.TheVariants.{EndEarly}
use Rattle.program.specs.File.{operation_count, program_of}
use Rattle.machine.specs.Step.{operation_at}
use Rattle.join.proofs.Bytes.{first_bytes, still_bytes, loop_bytes, last_most}
use Rattle.join.proofs.joined.Pair.bytes_of.Goals as goal
use Rattle.join.proofs.joined.Pair.bytes_of.Goals.{After-last_at-last}

pub returns-then-i-self : goal.returns-then-i-self
returns-then-i-self c =
    let pair = c.args.self.now in
    c.encode.ensures ∙ ap encode_of (c.operation_at.ensures EndEarly) ∙ first_bytes pair.first.now pair.second.now pair.count pair.joinable c.args.i c.if-i-self.true

-- the last operation of a DO is one of the second's
small : (c : After-last_at-last) → c.last_at-last.result < operation_count c.args.self.now.second.now
small c =
    let pair = c.args.self.now in
    last_most pair.first.now pair.second.now pair.count pair.joinable (c.args.i - pair.count) c.last_at-last.result (omega arith) c.last_at-last.ensures

pub overflow_add-moved : goal.overflow_add-moved
overflow_add-moved c = omega (arith, c.args.self.now.joinable.few, small (goal.at.overflow_add-moved c).After-last_at-last)

pub overflow_cast-moved : goal.overflow_cast-moved
overflow_cast-moved c = omega (arith, c.args.self.now.joinable.few, small (goal.at.overflow_cast-moved c).After-last_at-last)

pub returns-then-last-gt0 : goal.returns-then-last-gt0
returns-then-last-gt0 c =
    let pair = c.args.self.now in
    let last : ℕ = c.last_at-last.result in
    let moved : ℕ = pair.count + last in
    let operation = encode_of (operation_at (program_of pair.second.now) (c.args.i - pair.count)) in
    let high : moved / 256 % 256 ≡ moved / 256 = omega (arith, pair.joinable.few, small (goal.at.returns-then-last-gt0 c).After-last_at-last) in
    rw (c.to_le_bytes.ensures, c.encode-bytes.ensures, c.operation_at-2.ensures EndEarly)
    (ap (λ (b : ℕ). set (set operation 4 (moved % 256)) 5 b) high
    ∙ loop_bytes pair.first.now pair.second.now pair.count pair.joinable c.args.i last c.if-i-self.false c.requires c.last_at-last.ensures c.if-last-gt0.true)

pub returns-else-last-gt0 : goal.returns-else-last-gt0
returns-else-last-gt0 c =
    let pair = c.args.self.now in
    rw (c.encode-bytes.ensures, c.operation_at-2.ensures EndEarly)
    (still_bytes pair.first.now pair.second.now pair.count pair.joinable c.args.i c.last_at-last.result c.if-i-self.false c.requires c.last_at-last.ensures (omega arith))
