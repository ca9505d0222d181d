-- `step::circular` meets its contract: each return is the case of the definition that its tests lead to. Assumes nothing.
use Rattle.std.proofs.Common.{ℤ, pos, ◌+ℤ◌, sym, ap, ◌∙◌, to_z-of_z, rules}
use Rattle.integers.proofs.Fitting.{gave}
use Rattle.integers.proofs.Whole.{never}
use Rattle.address.proofs.Steps.{Known, sum_small, to_fits, above, below, plain}
use Rattle.address.proofs.step.circular.Goals as goal
use Rattle.address.proofs.step.circular.Goals.{After-unreduced-to, else-to-buffer-via-then-to-buffer+else-has, else-to-buffer-via-else-to-buffer, else-buffer-to-via-then-buffer-to+else-has-2, else-buffer-to-via-else-buffer-to}

known : (c : After-unreduced-to) → Known c.args.buffer c.args.old.0 c.args.step c.unreduced-to.result
known c =
    let a = c.args in
    let fits = c.ranges.step in
    record {
      start = search rules;
      last = search rules;
      small = sum_small (search rules) fits;
      to_is = gave (c.unreduced-to.ensures ∙ ap (λ (z : ℤ). pos a.old.0 +ℤ z) (to_z-of_z fits)) c.unreduced-to.type_inv;
    }

pub overflow_add-to : goal.overflow_add-to
overflow_add-to c = (to_fits (known (goal.at.overflow_add-to c).After-unreduced-to) c.size.result (gave c.size.ensures c.size.type_inv)).1

pub overflow_sub-to : goal.overflow_sub-to
overflow_sub-to c = (to_fits (known (goal.at.overflow_sub-to c).After-unreduced-to) c.size-then-has-2.result (gave c.size-then-has-2.ensures c.size-then-has-2.type_inv)).0

pub returns-then-has : goal.returns-then-has
returns-then-has c =
    c.low_word.ensures
    ∙ below (known (goal.at.returns-then-has c).After-unreduced-to) c.size.result (gave c.size.ensures c.size.type_inv)
    (sym c.has.ensures ∙ c.if-has.true) c.if-to-buffer.true

pub returns-then-has-2 : goal.returns-then-has-2
returns-then-has-2 c =
    c.low_word-then-has-2.ensures
    ∙ above (known (goal.at.returns-then-has-2 c).After-unreduced-to) c.size-then-has-2.result (gave c.size-then-has-2.ensures c.size-then-has-2.type_inv)
    (sym c.has-then-buffer-to.ensures ∙ c.if-has-2.true) c.if-buffer-to.true

pub returns : goal.returns
returns c =
    c.stepped.ensures
    ∙ rw (to_z-of_z c.ranges.step)
    (plain (known (goal.at.returns c).After-unreduced-to)
    (λ within. elim c.else-to-buffer.branch [
      | else-to-buffer-via-then-to-buffer+else-has w ↦ never (sym (sym w.has.ensures ∙ w.if-has.false) ∙ within)
      | else-to-buffer-via-else-to-buffer w ↦ w.if-to-buffer.false
    ])
    (λ within. elim c.else-buffer-to.branch [
      | else-buffer-to-via-then-buffer-to+else-has-2 w ↦ never (sym (sym w.has-then-buffer-to.ensures ∙ w.if-has-2.false) ∙ within)
      | else-buffer-to-via-else-buffer-to w ↦ w.if-buffer-to.false
    ]))
