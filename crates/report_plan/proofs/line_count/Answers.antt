use borrow.Author.Rules.{rules}
use Rattle.report_plan.proofs.Parts.{counted_start, counted_step, counted-end}
use Rattle.report_plan.proofs.line_count.Goals as goal

pub loop-at-init : goal.loop-at-init
loop-at-init c = (search rules, search rules, counted_start _)

pub loop-at-preserved : goal.loop-at-preserved
loop-at-preserved c =
    (search rules, search rules, counted_step _ c.loop-at.at c.loop-at.n _ c.loop-at.invariant.2 c.piece_end-at.result _ c.piece_end-at.ensures.2)

pub returns : goal.returns
returns c =
    counted-end _ c.loop-at.at c.loop-at.n _ c.loop-at.invariant.2 c.loop-at-test.false
