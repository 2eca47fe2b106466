use mathlib.Core.Path.{refl}
use Rattle.close_plan.proofs.Parts.{core-refused, core-taken}
use Rattle.close_plan.proofs.close_core.Goals as goal

pub returns-in-Err : goal.returns-in-Err
returns-in-Err c = core-refused c.args.s _ _ c.check_close.ensures _ _ c.in-Err.is refl

pub returns-in-Ok : goal.returns-in-Ok
returns-in-Ok c = core-taken c.args.s _ _ c.check_close.ensures _ c.in-Ok.is refl
