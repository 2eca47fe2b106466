use mathlib.Core.Path.{◌∙◌}
use borrow.Author.Tests.{le-leb, lt-leb}
use Rattle.thread_plan.proofs.OneRecord.{cond-true, cond-false}
use Rattle.thread_plan.proofs.join.outcome_of.Goals as goal

pub returns-then-s-target : goal.returns-then-s-target
returns-then-s-target c = cond-true _ _ _ (le-leb _ _ c.if-s-target.true)

pub returns : goal.returns
returns c = c.join_outcome.ensures ∙ cond-false _ _ _ (lt-leb _ _ c.if-s-target.false)
