use Rattle.checks.proofs.Answers.{taken_none}
use Rattle.tick_plan.proofs.Ticking.{pending-refused}
use Rattle.tick_plan.proofs.tick.tick_decided_on_words.Goals as goal

pub tick_taken-requires : goal.tick_taken-requires
tick_taken-requires c = (taken_none _ _ c.in-Ok.is c.check_tick-answer.ensures, c.requires)

pub returns-in-Err-clause-done : goal.returns-in-Err-clause-done
returns-in-Err-clause-done c =
    λ ts v. pending-refused c.args.s ts c.args.w.now.queue.now c.args.w.now.prios.now c.args.w.now.log.now c.args.w.now.lanes.now v _ _ _ c.no_switches.ensures c.in-Err.is c.check_tick-answer.ensures
