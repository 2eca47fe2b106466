use Rattle.questions.proofs.CoreLaws.{counters-at, counters-behind}
use Rattle.questions.proofs.cores.core_ticks.Goals as goal

pub returns-then-s-i : goal.returns-then-s-i
returns-then-s-i c = λ m v r. counters-behind c.args.s m _ c.if-s-i.true

pub returns : goal.returns
returns c = λ m v r. counters-at c.args.s m _ c.if-s-i.false
