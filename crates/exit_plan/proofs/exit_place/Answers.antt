use mathlib.Core.Path.{sym, ap, ◌∙◌}
use Rattle.model.specs.declared.Tid.{Tid}
use Rattle.exit_plan.specs.Exit.{exit_place}
use Rattle.exit_plan.proofs.Parts.{taken_is, refused-is, check-taken, check-refused}
use Rattle.exit_plan.proofs.exit_place.Goals as goal

pub returns-in-Err : goal.returns-in-Err
unfolding exit_place
returns-in-Err c = sym (refused-is _ _ _ _ (check-refused _ _ _ c.check_core.ensures _ c.in-Err.is))

pub returns-in-Ok : goal.returns-in-Ok
unfolding exit_place
returns-in-Ok c = ap (λ (t : Tid). t.0) c.exit_tid.ensures ∙ sym (taken_is _ _ _ (check-taken _ _ _ c.check_core.ensures c.in-Ok.is))
