use native.Mathlib.Omega.{arith}
use Rattle.report_plan.specs.Running.{EndedAs}
use Rattle.report_plan.proofs.Parts.{part-asked, end_fits, end-put}
use Rattle.report_plan.proofs.put_finish.Goals as goal

pub put_end-n-requires : goal.put_end-n-requires
put_end-n-requires c = part-asked _ _ _ _ c.requires.0 c.requires.1

pub overflow_add-result : goal.overflow_add-result
overflow_add-result c = omega (arith, end_fits _ _ _ _ c.requires.0 c.requires.1 _ _ c.put_end-n.ensures)

pub returns : goal.returns
unfolding EndedAs
returns c = end-put _ _ _ _ c.requires.0 c.requires.1 _ _ c.put_end-n.ensures
