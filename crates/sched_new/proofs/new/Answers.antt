use Rattle.checks.specs.Check.{check_meant}
use Rattle.new_plan.proofs.NewCall.{count_fits, create-fits, new-done}
use Rattle.sched_new.proofs.new.Goals as goal

pub set_first-requires : goal.set_first-requires
set_first-requires c =
    let a = c.args in
    rw c.taken_count-n.ensures (count_fits a.config a.cores a.capacities a.entry_pc a.threads.now a.queue.now a.prios.now a.log.now a.lanes.now (check_meant c.check_new-answer.result) c.check_new-answer.ensures)

pub new_finished-requires : goal.new_finished-requires
new_finished-requires c =
    let a = c.args in
    create-fits a.config a.cores a.capacities a.entry_pc a.threads.now a.queue.now a.prios.now a.log.now a.lanes.now (check_meant c.check_new-answer.result) c.check_new-answer.ensures

pub returns : goal.returns
returns c =
    let a = c.args in
    new-done a.config a.cores a.capacities a.entry_pc a.threads.now a.queue.now a.prios.now a.log.now a.lanes.now c.check_new-answer.result c.check_new-answer.ensures
    c.first_thread-t.result c.first_thread-t.ensures c.set_first.new.threads (rw c.taken_count-n.ensures at c.set_first.ensures) c.new_finished.new.prios c.new_finished.new.log
    c.new_finished.result.sched c.new_finished.result.answer c.new_finished.ensures
