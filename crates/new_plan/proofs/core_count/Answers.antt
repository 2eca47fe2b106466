use mathlib.Core.Path.{◌∙◌}
use Rattle.new_plan.proofs.Parts.{count-is}
use Rattle.new_plan.proofs.core_count.Goals as goal

pub returns : goal.returns
returns c = c.max.ensures ∙ count-is _
