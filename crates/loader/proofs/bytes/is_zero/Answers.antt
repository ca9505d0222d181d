-- `bytes::is_zero` meets its contract: `all` answers what the recursion over the bytes does.
use Rattle.std.proofs.Common.{rules, refl, eqb}
use Rattle.std.proofs.lemmas.List.Recursion.{and_is}
use Rattle.program.specs.Bytes.{is_zero}
use Rattle.loader.proofs.bytes.is_zero.Goals as goal

pub returns : goal.returns
returns c = and_is is_zero (λ b. eqb b 0) refl (λ b s. refl) c.args.s.now 0 c.all.result (search rules) (search rules)
