-- `force_decided_on_words` says what the call leaves once its moves are applied to the records, and `apply_moves` applies them.
use Rattle.std.proofs.Common.{rules}
use Rattle.tick_plan.specs.Plan.{MovedRecords}
use Rattle.tick_plan.proofs.Lending.{done-at}
use Rattle.sched_force.proofs.force_switch.Goals as goal

pub returns : goal.returns
returns c =
    let d = c.force_decided_on_words-d in
    let moved : MovedRecords c.args.s.now.0 d.new.w.lanes.now d.result.moves c.args.threads.now c.apply_moves.new.threads = c.apply_moves.ensures in
    rw (c.ticked.ensures.0, c.ticked.ensures.1, c.ticked.ensures.2)
    (done-at _ _ _ _ _ _ c.apply_moves.new.threads d.new.w _ _ _ _ (search rules) (search rules) (search rules) (search rules)
    ((d.ensures.done c.args.threads.now c.requires).done c.apply_moves.new.threads moved))
