-- `store::store` meets its contract: the quotient comes out of a branch, and one lemma says which number it is. Assumes nothing.
use Rattle.std.proofs.Common.{◌≡◌, to_z-of_z, w64, to_z}
use Rattle.integers.proofs.Fitting.{gave}
use Rattle.accumulator.specs.Store.{before_limiting, store_of}
use Rattle.accumulator.proofs.store.store.Goals as goal
use Rattle.accumulator.proofs.store.store.Goals.{Joined-round, then-round, else-round}

-- where the arms meet
quotient : (c : Joined-round) → let a = c.args in to_z w64 c.if-round.q-bits ≡ before_limiting a.mode a.round a.v
quotient c = elim c.if-round.branch [
  | then-round w ↦ rw (w.q-is-bits, gave w.rounded-q.ensures w.rounded-q.type_inv, to_z-of_z c.ranges.v, w.if-round.true)
  | else-round w ↦ rw (w.q-is-bits, gave w.truncated-q.ensures w.truncated-q.type_inv, to_z-of_z c.ranges.v, w.if-round.false)
]

pub returns : goal.returns
unfolding store_of
returns c = rw (c.word.ensures, c.needs_limiting.ensures, quotient (goal.at.returns c).Joined-round)
