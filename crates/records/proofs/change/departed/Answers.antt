use mathlib.Core.Path.{refl}
use Rattle.records.proofs.Steps.{leave-step}
use Rattle.records.proofs.change.departed.Goals as goal

pub returns : goal.returns
returns c = leave-step _ _ _ _ _ _ c.off_core.ensures refl
