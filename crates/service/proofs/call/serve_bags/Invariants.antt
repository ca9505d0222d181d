-- `call::serve_bags` meets its contract. The invariant: the first i bags are served. Assumes nothing.
use Rattle.service.specs.Bags.{schedule_in}
use Rattle.service.proofs.Schedules.{Along}
use Rattle.service.proofs.call.serve_bags.Given as goal

abbrev pub invariant-loop-i : goal.invariant-loop-i
invariant-loop-i l =
    Along l.file l.settings (record { state = l.initial.current; memory = l.initial.memory }) (schedule_in l.bags) l.initial.endings l.initial.steps l.i
    (record { state = l.current; memory = l.memory }) l.endings l.steps
