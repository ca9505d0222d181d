-- The bytes so far, and then those that are left before the first zero.
use Rattle.std.proofs.Common.{arith, ◌≡◌}
use Rattle.lines.proofs.Names.{name_more, name_stop, name_end}
use Rattle.lines.proofs.run_fields.name_length.Goals as goal

pub returns-then-byte-eq0-clause-name_value : goal.returns-then-byte-eq0-clause-name_value
returns-then-byte-eq0-clause-name_value c = name_stop c.args.name c.loop-n.n (omega arith) c.if-byte-eq0.true c.loop-n.invariant

pub loop-n-preserved : goal.loop-n-preserved
loop-n-preserved c = name_more c.args.name c.loop-n.n (omega arith) c.if-byte-eq0.false c.loop-n.invariant

pub returns-clause-name_value : goal.returns-clause-name_value
returns-clause-name_value c =
    let whole : c.loop-n.n ≡ 9 = omega arith in
    rw whole at (name_end c.args.name c.loop-n.n (omega arith) c.loop-n.invariant)
