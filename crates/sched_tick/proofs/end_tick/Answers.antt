use Rattle.std.proofs.Common.{◌+◌, rules}
use Rattle.tick_plan.specs.Plan.{ChargedRecords, MovedRecords}
use Rattle.tick_plan.proofs.Ticking.{next_fits, charge-all-fits}
use Rattle.tick_plan.proofs.Lending.{done-at}
use Rattle.sched_tick.proofs.end_tick.Goals as goal

pub charge_all-requires : goal.charge_all-requires
charge_all-requires c =
    rw c.tick_threads.ensures (charge-all-fits c.args.s c.args.threads.now c.args.queue.now c.args.prios.now c.args.log.now c.args.lanes.now c.requires)

pub next_tick-requires : goal.next_tick-requires
next_tick-requires c =
    next_fits c.args.s c.args.threads.now c.args.queue.now c.args.prios.now c.args.log.now c.args.lanes.now c.requires

-- The records are charged by the state's own threads and cores.
pub apply_moves-requires : goal.apply_moves-requires
apply_moves-requires c =
    let charged : ChargedRecords c.args.s c.args.threads.now c.charge_all.new.threads =
    rw c.unpack.ensures at (rw c.tick_threads.ensures at c.charge_all.ensures) in
    (c.tick_decided_on_words-d.ensures.done c.args.threads.now c.requires).fits c.charge_all.new.threads charged

pub returns : goal.returns
returns c =
    let charged : ChargedRecords c.args.s c.args.threads.now c.charge_all.new.threads =
    rw c.unpack.ensures at (rw c.tick_threads.ensures at c.charge_all.ensures) in
    let moved : MovedRecords (c.args.s.now.0 + 1) c.tick_decided_on_words-d.new.w.lanes.now c.tick_decided_on_words-d.result.moves c.charge_all.new.threads c.apply_moves.new.threads =
    rw c.next_tick.ensures at c.apply_moves.ensures in
    rw (c.ticked.ensures.0, c.ticked.ensures.1, c.ticked.ensures.2)
    (done-at _ _ _ _ _ _ c.apply_moves.new.threads c.tick_decided_on_words-d.new.w _ _ _ _ (search rules) (search rules) (search rules) (search rules)
    ((c.tick_decided_on_words-d.ensures.done c.args.threads.now c.requires).done c.charge_all.new.threads c.apply_moves.new.threads charged moved))
