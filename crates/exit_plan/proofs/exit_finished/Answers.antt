use native.Mathlib.Omega.{arith}
use Rattle.exit_plan.proofs.Parts.{finished-refused, finished-taken, exit-core, check-taken}
use Rattle.exit_plan.proofs.exit_finished.Goals as goal

pub bounds-next-i : goal.bounds-next-i
bounds-next-i c =
    let h = exit-core c.args.s c.args.core.0 (check-taken _ _ _ c.check_core-answer.ensures c.in-Ok.is) in
    omega arith

pub returns-in-Err : goal.returns-in-Err
returns-in-Err c = finished-refused c.args.s _ _ c.check_core-answer.ensures _ _ _ _ c.in-Err.is

pub returns-in-Ok : goal.returns-in-Ok
returns-in-Ok c = finished-taken c.args.s _ _ c.check_core-answer.ensures _ _ _ _ _ c.in-Ok.is c.log_woken-next.ensures
