use Rattle.close_plan.proofs.Parts.{answer-taken, finished-refused, finished-taken}
use Rattle.close_plan.proofs.close_finished.Goals as goal

pub closed-requires : goal.closed-requires
closed-requires c = c.requires.phase (answer-taken c.args.s _ _ c.check_close-answer.ensures c.in-Ok.is)

pub returns-in-Err : goal.returns-in-Err
returns-in-Err c = finished-refused c.args.s _ _ c.check_close-answer.ensures _ _ _ c.in-Err.is

pub returns-in-Ok : goal.returns-in-Ok
returns-in-Ok c = finished-taken c.args.s _ _ c.check_close-answer.ensures c.args.e _ _ _ c.in-Ok.is c.closed.ensures
