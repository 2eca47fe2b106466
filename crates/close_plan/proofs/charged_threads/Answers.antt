use Rattle.close_plan.proofs.Parts.{none-charged, all-charged}
use Rattle.close_plan.proofs.charged_threads.Goals as goal

pub returns-in-Err : goal.returns-in-Err
returns-in-Err c = none-charged _ _ c.in-Err.is

pub returns-in-Ok : goal.returns-in-Ok
returns-in-Ok c = all-charged _ c.in-Ok.is
