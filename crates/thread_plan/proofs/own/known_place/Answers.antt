use borrow.Author.Tests.{le-leb, lt-leb}
use Rattle.thread_plan.specs.Reads.{known_place}
use Rattle.thread_plan.proofs.OneRecord.{cond-true, cond-false}
use Rattle.thread_plan.proofs.own.known_place.Goals as goal

pub returns-then-s-i : goal.returns-then-s-i
unfolding known_place
returns-then-s-i c = cond-true _ _ _ (le-leb _ _ c.if-s-i.true)

pub returns : goal.returns
unfolding known_place
returns c = cond-false _ _ _ (lt-leb _ _ c.if-s-i.false)
