use mathlib.Core.Path.{sym, ap}
use lib.ListN.{length}
use Rattle.questions.proofs.CoreLaws.{timeline-behind, segment-count-is}
use Rattle.questions.proofs.lists.segment_count.Goals as goal

pub returns-then-s-i : goal.returns-then-s-i
returns-then-s-i c = λ m v r. sym (ap length (timeline-behind c.args.s m _ c.if-s-i.true))

pub returns : goal.returns
returns c = λ m v r. segment-count-is c.args.s m _ v c.if-s-i.false
