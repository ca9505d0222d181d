-- `Operations::check` meets its contract: the first that is not listed stops the reading, and placement is judged of all.
use Prim.Native.Nat.{ℕ}
use mathlib.Core.Path.{◌≡◌, refl, sym, ◌∙◌}
use mathlib.Core.List.{List}
use mathlib.Core.Bool.{Bool, cond}
use native.Mathlib.Omega.{arith}
use Rattle.std.proofs.Common.{Result, Some, None, Ok, Err}
use Rattle.operations.specs.Decode.{decode_of}
use Rattle.program.specs.Accept.{fields_refusal, operations_refusal}
use Rattle.program.specs.Answer.{first_of}
use Rattle.program.specs.Layout.{bytes_of, operations_in}
use Rattle.program.specs.Placement.{all_of, is_placed_at, is_placed}
use Rattle.program.specs.declared.answer.Refusal.TheVariants.{Field}
use Rattle.program.specs.declared.layout.Layout.{Layout}
use Rattle.program.specs.declared.answer.Refusal.{Refusal}
use Rattle.program.proofs.Answers.{refused_first, first_more, first_stop, first_end}
use Rattle.program.proofs.Places.{operations_length}
use Rattle.program.proofs.Roles.{placed_taken}
use Rattle.program.proofs.Slices.{all_next}
use Rattle.loader.proofs.layout.Operations.check.Goals as goal
use Rattle.loader.proofs.layout.Operations.check.Goals.{then-placed, else-placed}

-- with all operations listed placement is left
placement_left : (layout : Layout) (s : List ℕ) (n i : ℕ) (placed : Bool) → i ≡ n → first_of (fields_refusal layout s) i ≡ 0
    → placed ≡ all_of (is_placed_at (operations_in layout s n)) i → cond placed 0 5 ≡ operations_refusal layout s n
unfolding operations_refusal is_placed
placement_left layout s n i placed e listed told =
    let all : placed ≡ all_of (is_placed_at (operations_in layout s n)) n = rw e at told in
    rw (first_end (fields_refusal layout s) i n e listed, operations_length layout s n, all)

pub returns-in_default : goal.returns-in_default
unfolding operations_refusal
returns-in_default c =
    let self = c.args.self.now in
    let none : c.decode.result ≡ None = grind arith in
    let refused : Result (Unit {0}) Refusal = Err Field in
    refused_first Field _ _
    (first_stop (fields_refusal self.layout self.bytes.now) c.loop-i.i self.count refused (omega arith) c.loop-i.invariant.listed refl (rw (← c.decode.ensures, none)))

pub loop-i-preserved : goal.loop-i-preserved
loop-i-preserved c =
    let self = c.args.self.now in
    let i : ℕ = c.loop-i.i in
    let some : c.decode.result ≡ Some c.in-Some.operation = grind arith in
    let listed : decode_of (bytes_of self.layout self.bytes.now i) ≡ Some c.in-Some.operation = sym c.decode.ensures ∙ some in
    let test = is_placed_at (operations_in self.layout self.bytes.now self.count) in
    let next = all_next test i c.loop-i.placed (test i) c.loop-i.invariant.told refl in
    let accepted : Result (Unit {0}) Refusal = Ok tt in
    record {
      listed = first_more (fields_refusal self.layout self.bytes.now) i accepted c.loop-i.invariant.listed refl (rw listed);
      told = elim c.if-placed.branch [
        | then-placed w ↦ rw (w.placed-is, w.is_placed_as-placed.ensures, w.role_of.ensures, placed_taken self.layout self.bytes.now self.count i _ (omega arith) listed) (rw w.if-placed.true at next)
        | else-placed w ↦ rw (w.placed-is, w.if-placed.false) (rw w.if-placed.false at next)
      ];
    }

pub returns-then-placed-2 : goal.returns-then-placed-2
returns-then-placed-2 c =
    let self = c.args.self.now in
    rw c.if-placed-2.true at (placement_left self.layout self.bytes.now self.count c.loop-i.i c.loop-i.placed (omega arith) c.loop-i.invariant.listed c.loop-i.invariant.told)

pub returns-else-placed-2 : goal.returns-else-placed-2
returns-else-placed-2 c =
    let self = c.args.self.now in
    rw c.if-placed-2.false at (placement_left self.layout self.bytes.now self.count c.loop-i.i c.loop-i.placed (omega arith) c.loop-i.invariant.listed c.loop-i.invariant.told)
