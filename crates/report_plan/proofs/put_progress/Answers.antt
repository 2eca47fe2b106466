use native.Mathlib.Omega.{arith}
use mathlib.Core.Path.{refl}
use Rattle.report_plan.proofs.Parts.{part-sayable, progress-fits, progress-put}
use Rattle.report_plan.proofs.put_progress.Goals as goal

pub put_text-n-requires : goal.put_text-n-requires
put_text-n-requires c = part-sayable _ _ _ c.requires.0 c.requires.1

pub overflow_add-result : goal.overflow_add-result
overflow_add-result c = omega (arith, progress-fits _ _ _ c.requires.0 c.requires.1 _ _ c.put_text-n.ensures)

pub returns : goal.returns
returns c = record { report = refl; from = refl; text = progress-put _ _ _ c.requires.0 c.requires.1 _ _ c.put_text-n.ensures }
