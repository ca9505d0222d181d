-- `call::serve_bags` meets its contract: the lent slices are long enough, and each bag is served as the definition serves it. Assumes nothing.
use native.Mathlib.Omega.{arith}
use Rattle.service.specs.Bags.{schedule_in}
use Rattle.service.proofs.Schedules.{enough_so, words_there, words_long, along_none, along_more}
use Rattle.service.proofs.call.serve_bags.Goals as goal

pub loop-i-init : goal.loop-i-init
loop-i-init c = along_none _ _ _ _ _ _

pub words_of-requires : goal.words_of-requires
words_of-requires c = words_there (schedule_in c.args.bags) _ _ _ (enough_so (schedule_in c.args.bags) _ _ _ c.requires) c.loop-i.i c.loop-i-test.true

pub bounds-bags-i : goal.bounds-bags-i
bounds-bags-i c =
    let enough = enough_so (schedule_in c.args.bags) _ _ _ c.requires in
    omega (arith, enough.restarts)

pub serve_bag-outcome-requires : goal.serve_bag-outcome-requires
serve_bag-outcome-requires c =
    let d = schedule_in c.args.bags in
    let enough = enough_so d _ _ _ c.requires in
    rw (c.words_of.ensures, words_long d _ _ _ enough c.loop-i.i c.loop-i-test.true) (omega (arith, enough.inside, c.loop-i.invariant.memory))

pub bounds-endings-i : goal.bounds-endings-i
bounds-endings-i c =
    let enough = enough_so (schedule_in c.args.bags) _ _ _ c.requires in
    omega (arith, enough.ends, c.loop-i.invariant.ends)

pub bounds-steps-i : goal.bounds-steps-i
bounds-steps-i c =
    let enough = enough_so (schedule_in c.args.bags) _ _ _ c.requires in
    omega (arith, enough.counts, c.loop-i.invariant.counts)

pub loop-i-preserved : goal.loop-i-preserved
loop-i-preserved c =
    let enough = enough_so (schedule_in c.args.bags) _ _ _ c.requires in
    let is = rw c.words_of.ensures at c.serve_bag-outcome.ensures in
    rw c.code.ensures
    (along_more _ _ _ _ _ _ c.loop-i.i _ _ _ c.loop-i.invariant c.loop-i-test.true enough c.serve_bag-outcome.result c.serve_bag-outcome.new.memory is
    c.serve_bag-outcome.auto.memory)
