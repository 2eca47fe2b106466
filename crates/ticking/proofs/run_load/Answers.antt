-- `new`, the spawns and the turns put together.
use Rattle.state.specs.Memory.{held}
use Rattle.ticking.proofs.Making.{spawns-ask, turns-ask, load-done}
use Rattle.ticking.proofs.run_load.Goals as goal

pub spawn_all-first-requires : goal.spawn_all-first-requires
spawn_all-first-requires c =
    let a = c.args in
    let m = c.new_on-created in
    λ some. (m.new.m.lanes.now, spawns-ask a.config a.cores a.capacities (held a.m.now) (held m.new.m) m.result m.ensures.done a.count (rw c.calls_due-spawns.ensures at some))

pub run_ticks-last-requires : goal.run_ticks-last-requires
run_ticks-last-requires c =
    let a = c.args in
    let m = c.new_on-created in
    let s = c.spawn_all-first in
    λ some. turns-ask a.config a.cores a.capacities (held a.m.now) (held m.new.m) m.result m.ensures.done a.count _ s.result (rw c.calls_due-spawns.ensures at s.ensures m.new.m.lanes.now) a.ticks (rw c.calls_due-turns.ensures at some)

pub returns-clause-done : goal.returns-clause-done
returns-clause-done c =
    let a = c.args in
    let m = c.new_on-created in
    let s = c.spawn_all-first in
    let t = c.run_ticks-last in
    load-done a.config a.cores a.capacities (held a.m.now) (held m.new.m) m.result m.ensures.done a.count _ s.result (rw c.calls_due-spawns.ensures at s.ensures m.new.m.lanes.now)
    a.ticks _ t.result (rw c.calls_due-turns.ensures at t.ensures)
