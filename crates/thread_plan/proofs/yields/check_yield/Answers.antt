use mathlib.Core.Path.{◌∙◌}
use Rattle.sched_marks.proofs.Passing.{refusal-passed}
use Rattle.thread_plan.proofs.Yielding.{yield-stopped}
use Rattle.thread_plan.proofs.yields.check_yield.Goals as goal

pub returns-in_err-check_core : goal.returns-in_err-check_core
returns-in_err-check_core c =
    refusal-passed c.check_core.result _ _ c.in_err-check_core.was c.from_residual.ensures.1 ∙ yield-stopped c.args.s _ _ _ _ c.in_err-check_core.was c.check_core.ensures
