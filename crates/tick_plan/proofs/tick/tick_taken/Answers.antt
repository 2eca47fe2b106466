use Rattle.std.specs.Prelude.{Ok}
use mathlib.Core.Path.{◌∙◌, refl, sym}
use Rattle.tick_plan.proofs.Ticking.{next_fits, charge-fits, plan-fits, write-fits, switches-fit}
use Rattle.tick_plan.proofs.Parts.{pending-at}
use Rattle.tick_plan.proofs.Quiet.{quiet-roomy}
use Rattle.tick_plan.proofs.tick.tick_taken.Goals as goal

pub charge_tick-charged-requires : goal.charge_tick-charged-requires
charge_tick-charged-requires c =
    charge-fits c.args.s c.requires.1.0 c.args.w.now.queue.now c.args.w.now.prios.now c.args.w.now.log.now c.args.w.now.lanes.now c.requires.1.1 c.requires.0

pub tick_quiet-requires : goal.tick_quiet-requires
tick_quiet-requires c =
    (c.requires.1.1.sizes.cores, sym c.is_quiet.ensures ∙ c.if-is_quiet.true, quiet-roomy c.args.s c.requires.1.0 c.args.w.now.queue.now c.args.w.now.prios.now c.args.w.now.log.now c.args.w.now.lanes.now c.requires.1.1 c.requires.0, next_fits c.args.s c.requires.1.0 c.args.w.now.queue.now c.args.w.now.prios.now c.args.w.now.log.now c.args.w.now.lanes.now c.requires.1.1)

pub returns-then-is_quiet-clause-done : goal.returns-then-is_quiet-clause-done
returns-then-is_quiet-clause-done c =
    λ ts v. c.tick_quiet.ensures ts c.args.w.now.queue.now c.args.w.now.prios.now c.args.w.now.log.now c.args.w.now.lanes.now _ v c.requires.0 c.charge_tick-charged.ensures

pub plan-planned-requires : goal.plan-planned-requires
plan-planned-requires c =
    plan-fits c.args.s c.requires.1.0 c.args.w.now.queue.now c.args.w.now.prios.now c.args.w.now.log.now c.args.w.now.lanes.now c.requires.1.1 c.requires.0 _ c.charge_tick-charged.ensures.lanes.size

pub next_tick-tick-requires : goal.next_tick-tick-requires
next_tick-tick-requires c =
    next_fits c.args.s c.requires.1.0 c.args.w.now.queue.now c.args.w.now.prios.now c.args.w.now.log.now c.args.w.now.lanes.now c.requires.1.1

pub write_at-written-requires : goal.write_at-written-requires
write_at-written-requires c =
    write-fits c.args.s c.requires.1.0 c.args.w.now.queue.now c.args.w.now.prios.now c.args.w.now.log.now c.args.w.now.lanes.now c.requires.1.1 c.requires.0 c.charge_tick-charged.new.lanes c.plan-planned.new.lanes _ _ c.charge_tick-charged.ensures.lanes.size c.plan-planned.ensures.long_lanes c.plan-planned.ensures.few c.next_tick-tick.ensures

pub after_tick-requires : goal.after_tick-requires
after_tick-requires c =
    switches-fit c.args.s c.requires.1.0 c.args.w.now.queue.now c.args.w.now.prios.now c.args.w.now.log.now c.args.w.now.lanes.now c.requires.1.1 c.requires.0 _ _ _ _ _ c.plan-planned.ensures.few
    (write-fits c.args.s c.requires.1.0 c.args.w.now.queue.now c.args.w.now.prios.now c.args.w.now.log.now c.args.w.now.lanes.now c.requires.1.1 c.requires.0 c.charge_tick-charged.new.lanes c.plan-planned.new.lanes _ _ c.charge_tick-charged.ensures.lanes.size c.plan-planned.ensures.long_lanes c.plan-planned.ensures.few c.next_tick-tick.ensures) c.write_at-written.ensures

pub returns-clause-done : goal.returns-clause-done
returns-clause-done c =
    λ ts v. pending-at c.args.s ts c.args.w.now.queue.now c.args.w.now.prios.now c.args.w.now.log.now c.args.w.now.lanes.now v c.requires.0 c.next_tick-tick.result c.charge_tick-charged.result c.plan-planned.result c.write_at-written.result c.after_tick.result _ _ _ _ c.after_tick.ensures c.next_tick-tick.ensures c.charge_tick-charged.ensures c.plan-planned.ensures c.write_at-written.ensures (Ok tt) refl
