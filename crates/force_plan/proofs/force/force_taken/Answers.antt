use mathlib.Core.Path.{refl}
use Rattle.force_plan.proofs.Parts.{plan-fits, write-fits, switches-fit, pending-at}
use Rattle.force_plan.proofs.force.force_taken.Goals as goal

pub plan-planned-requires : goal.plan-planned-requires
plan-planned-requires c = plan-fits c.args.s c.requires.1.0 c.args.w.now.queue.now c.args.w.now.prios.now c.args.w.now.log.now c.args.w.now.lanes.now c.requires.0 c.args.at c.args.core.0 c.requires.1.1

pub write-written-requires : goal.write-written-requires
write-written-requires c =
    write-fits c.args.s c.requires.1.0 c.args.w.now.queue.now c.args.w.now.prios.now c.args.w.now.log.now c.args.w.now.lanes.now c.requires.0 c.args.at c.args.core.0 c.requires.1.1 c.plan-planned.new.lanes c.plan-planned.result.moves _ c.plan-planned.ensures.long_lanes c.plan-planned.ensures.few refl

pub taken-requires : goal.taken-requires
taken-requires c =
    switches-fit c.args.s c.requires.1.0 c.args.w.now.queue.now c.args.w.now.prios.now c.args.w.now.log.now c.args.w.now.lanes.now c.requires.0 c.args.at c.args.core.0 c.requires.1.1 _ _ _ _ _ c.plan-planned.ensures.few
    (write-fits c.args.s c.requires.1.0 c.args.w.now.queue.now c.args.w.now.prios.now c.args.w.now.log.now c.args.w.now.lanes.now c.requires.0 c.args.at c.args.core.0 c.requires.1.1 c.plan-planned.new.lanes c.plan-planned.result.moves _ c.plan-planned.ensures.long_lanes c.plan-planned.ensures.few refl) c.write-written.ensures

pub returns-clause-done : goal.returns-clause-done
returns-clause-done c =
    λ named ts f. pending-at c.args.s ts c.args.w.now.queue.now c.args.w.now.prios.now c.args.w.now.log.now c.args.w.now.lanes.now named c.args.at c.args.core.0 f c.plan-planned.result c.write-written.result c.taken.result _ _ _ _ c.taken.ensures refl c.plan-planned.ensures c.write-written.ensures
