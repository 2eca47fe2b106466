-- Each arm: what its call promises, of the answer as it is converted.
use Rattle.sched.proofs.Converting.{with-taken, with-spawned, with-joined}
use Rattle.sched.proofs.apply.Goals as goal

pub returns-in-Spawn-clause-done : goal.returns-in-Spawn-clause-done
returns-in-Spawn-clause-done c =
    let a = c.args in
    let o = c.of_answered.ensures in
    rw c.in-Spawn.is (with-spawned _ _ _ _ _ c.spawn-a.result o.state o.outcome o.switches (c.spawn-a.ensures a.m.now.lanes.now c.requires))

pub returns-in-Exit-clause-done : goal.returns-in-Exit-clause-done
returns-in-Exit-clause-done c =
    let a = c.args in
    let o = c.of_taken.ensures in
    rw c.in-Exit.is (with-taken _ _ _ _ _ c.exit.result o.state o.outcome o.switches (c.exit.ensures a.m.now.prios.now a.m.now.lanes.now c.requires))

pub returns-in-Join-clause-done : goal.returns-in-Join-clause-done
returns-in-Join-clause-done c =
    let a = c.args in
    let o = c.of_answered-in-Join.ensures in
    rw c.in-Join.is (with-joined _ _ _ _ _ c.join.result o.state o.outcome o.switches (c.join.ensures a.m.now.queue.now a.m.now.prios.now a.m.now.log.now a.m.now.lanes.now c.requires))

pub returns-in-Retired-clause-done : goal.returns-in-Retired-clause-done
returns-in-Retired-clause-done c =
    let a = c.args in
    let o = c.of_taken-in-Retired.ensures in
    rw c.in-Retired.is (with-taken _ _ _ _ _ c.retired.result o.state o.outcome o.switches (c.retired.ensures a.m.now.threads.now a.m.now.queue.now a.m.now.prios.now a.m.now.log.now a.m.now.lanes.now c.requires))

pub returns-in-YieldNow-clause-done : goal.returns-in-YieldNow-clause-done
returns-in-YieldNow-clause-done c =
    let a = c.args in
    let o = c.of_taken-in-YieldNow.ensures in
    rw c.in-YieldNow.is (with-taken _ _ _ _ _ c.yield_now.result o.state o.outcome o.switches (c.yield_now.ensures a.m.now.queue.now a.m.now.prios.now a.m.now.log.now a.m.now.lanes.now c.requires))

pub returns-in-SetPriority-clause-done : goal.returns-in-SetPriority-clause-done
returns-in-SetPriority-clause-done c =
    let a = c.args in
    let o = c.of_taken-in-SetPriority.ensures in
    rw c.in-SetPriority.is (with-taken _ _ _ _ _ c.set_priority.result o.state o.outcome o.switches (c.set_priority.ensures a.m.now.queue.now a.m.now.lanes.now c.requires))

pub returns-in-SetTiming-clause-done : goal.returns-in-SetTiming-clause-done
returns-in-SetTiming-clause-done c =
    let a = c.args in
    let o = c.of_taken-in-SetTiming.ensures in
    rw c.in-SetTiming.is (with-taken _ _ _ _ _ c.set_timing.result o.state o.outcome o.switches (c.set_timing.ensures a.m.now.threads.now a.m.now.queue.now a.m.now.prios.now a.m.now.log.now a.m.now.lanes.now c.requires))

pub returns-in-Close-clause-done : goal.returns-in-Close-clause-done
returns-in-Close-clause-done c =
    let a = c.args in
    let o = c.of_taken-in-Close.ensures in
    rw c.in-Close.is (with-taken _ _ _ _ _ c.close.result o.state o.outcome o.switches (c.close.ensures a.m.now.prios.now c.requires))
