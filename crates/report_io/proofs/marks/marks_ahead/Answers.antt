use Rattle.report_io.proofs.Marking.{none-taken, taken_more}
use Rattle.report_io.proofs.marks.marks_ahead.Goals as goal

pub loop-count-init : goal.loop-count-init
loop-count-init c = none-taken _ _ _

pub loop-count-preserved : goal.loop-count-preserved
loop-count-preserved c = taken_more _ _ _ _ _ c.loop-count.invariant _ c.in-Some.ensures.core c.if-core-cores.true c.in-Some.ensures.digit
