-- `read::prefetch` meets its contract: no read, or one in the space's region. Assumes nothing.
use Rattle.std.proofs.Common.{refl, eq-eqb, length}
use Rattle.effects.specs.Access.{prefetch_access, word_at}
use Rattle.fields.specs.Space.{sum_word}
use Rattle.fields.proofs.Accesses.{prefetch_reads}
use Rattle.fields.proofs.read.prefetch.Goals as goal

pub returns-then-r-eq0 : goal.returns-then-r-eq0
unfolding prefetch_access word_at
returns-then-r-eq0 c = λ k. rw (eq-eqb _ _ c.if-r-eq0.true) (record { trap = refl; word = refl })

pub returns : goal.returns
returns c =
    let a = c.args in
    λ k. prefetch_reads a.settings a.space a.r k (sum_word a.space) (length a.memory.now) a.w.now c.if-r-eq0.false a.memory.now c.read_at.result a.a.0 c.requires.a_value
    (rw (← c.address_of.ensures, ← c.region_of-region.ensures) c.read_at.ensures)
