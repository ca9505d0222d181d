-- `Operations::is_nested` meets its contract. The invariant: every DO so far ends below the last.
use Prim.Native.Nat.{◌-◌}
use native.Mathlib.Omega.{arith}
use Rattle.program.specs.Layout.{operations_in}
use Rattle.program.specs.Placement.{is_inner}
use Rattle.program.proofs.Slices.{all_more, all_stop, at_end}
use Rattle.loader.proofs.layout.Operations.is_nested.Goals as goal

pub returns-then-not-ends_below : goal.returns-then-not-ends_below
returns-then-not-ends_below c =
    let args = c.args in
    let self = args.self.now in
    let test = is_inner (operations_in self.layout self.bytes.now self.count) args.d args.e in
    rw (all_stop test c.loop-j.j (args.e - args.d) (omega arith) (rw (← c.role.ensures, ← c.ends_below.ensures) c.if-not-ends_below.true))

pub loop-j-preserved : goal.loop-j-preserved
loop-j-preserved c =
    let args = c.args in
    let self = args.self.now in
    let test = is_inner (operations_in self.layout self.bytes.now self.count) args.d args.e in
    all_more test c.loop-j.j c.loop-j.invariant (rw (← c.role.ensures, ← c.ends_below.ensures) c.if-not-ends_below.false)

pub returns : goal.returns
returns c =
    let args = c.args in
    let self = args.self.now in
    let test = is_inner (operations_in self.layout self.bytes.now self.count) args.d args.e in
    rw (at_end test c.loop-j.j (args.e - args.d) (omega arith) c.loop-j.invariant)
