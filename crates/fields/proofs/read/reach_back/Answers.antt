-- `read::reach_back` meets its contract: only a write-back to memory has an address. Assumes nothing.
use Rattle.std.proofs.Common.{arith, ne_eqb}
use Rattle.std.proofs.lemmas.Result.{err_from_is_err_and}
use Rattle.effects.specs.Access.{back_access}
use Rattle.fields.proofs.Accesses.{back_free}
use Rattle.fields.proofs.read.reach_back.Goals as goal

pub returns-then-back-lt2 : goal.returns-then-back-lt2
returns-then-back-lt2 c = λ settings w e. back_free settings c.args.back c.args.words w c.if-back-lt2.true

pub returns-in_err-access : goal.returns-in_err-access
unfolding back_access
returns-in_err-access c =
    let back = c.args.back in
    let p = err_from_is_err_and c.from_residual.result c.from_residual.ensures.1 in
    λ settings w e. rw (ne_eqb back 0 (λ z. omega (arith, c.if-back-lt2.false)), ne_eqb back 1 (λ z. omega (arith, c.if-back-lt2.false)), e, p.1, p.2, ← c.all.ensures) c.in_err-access.ensures.trap

pub returns : goal.returns
unfolding back_access
returns c =
    let back = c.args.back in
    λ settings w e. rw (ne_eqb back 0 (λ z. omega (arith, c.if-back-lt2.false)), ne_eqb back 1 (λ z. omega (arith, c.if-back-lt2.false)), e, ← c.all.ensures) c.in_ok-access.ensures.trap
