-- `Buffer::size` meets its contract: the difference of two words, and 1 more, fits an i64. Assumes nothing.
use Rattle.std.proofs.Common.{to_z-of_z, w16, Fits, rules}
use Rattle.integers.proofs.Fitting.{word_plain}
use Rattle.address.proofs.Steps.{apart_fits, size_fits}
use Rattle.address.proofs.step.Buffer.size.Goals as goal

pub overflow_sub-apart : goal.overflow_sub-apart
overflow_sub-apart c =
    let s : Fits w16 c.args.self.start.0 = search rules in
    let e : Fits w16 c.args.self.last.0 = search rules in
    rw (word_plain s, word_plain e) (apart_fits s e)

pub overflow_add-result : goal.overflow_add-result
overflow_add-result c =
    let s : Fits w16 c.args.self.start.0 = search rules in
    let e : Fits w16 c.args.self.last.0 = search rules in
    rw (word_plain s, word_plain e, to_z-of_z (apart_fits s e)) (size_fits s e)

pub returns : goal.returns
returns c =
    let s : Fits w16 c.args.self.start.0 = search rules in
    let e : Fits w16 c.args.self.last.0 = search rules in
    rw (word_plain s, word_plain e, to_z-of_z (apart_fits s e)) (to_z-of_z (size_fits s e))
