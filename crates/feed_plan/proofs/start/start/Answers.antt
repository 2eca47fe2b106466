use Rattle.feed_plan.proofs.Whole.{starts}
use Rattle.feed_plan.proofs.start.start.Goals as goal

pub returns : goal.returns
returns c = starts _ _ c.new.ensures
