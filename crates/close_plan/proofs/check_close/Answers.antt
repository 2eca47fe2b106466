use mathlib.Core.Path.{refl, ◌∙◌}
use borrow.Author.Tests.{le-leb, lt-leb}
use Rattle.model.specs.Calls.{limit_now}
use Rattle.checks.proofs.Ladder.{hit, pass}
use Rattle.sched_marks.proofs.Passing.{refusal-passed}
use Rattle.close_plan.proofs.Parts.{close-stopped, close-rest}
use Rattle.close_plan.proofs.check_close.Goals as goal

pub returns-then-s-ge-LIMIT : goal.returns-then-s-ge-LIMIT
unfolding limit_now
returns-then-s-ge-LIMIT c = close-rest c.args.s _ _ c.check_core.result c.in_ok-check_core.was c.check_core.ensures (hit 18 _ _ (le-leb _ _ c.if-s-ge-LIMIT.true))

pub returns-in_err-check_core : goal.returns-in_err-check_core
returns-in_err-check_core c =
    refusal-passed c.check_core.result _ _ c.in_err-check_core.was c.from_residual.ensures.1 ∙ close-stopped c.args.s _ _ _ c.in_err-check_core.was c.check_core.ensures

pub returns : goal.returns
unfolding limit_now
returns c = close-rest c.args.s _ _ c.check_core.result c.in_ok-check_core.was c.check_core.ensures (pass 18 _ _ _ (lt-leb _ _ c.if-s-ge-LIMIT.false) refl)
