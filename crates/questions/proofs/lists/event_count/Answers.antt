use Rattle.questions.proofs.CoreLaws.{event-count-is}
use Rattle.questions.proofs.lists.event_count.Goals as goal

pub returns : goal.returns
returns c = λ m v r. event-count-is c.args.s m v
