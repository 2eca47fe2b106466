use Rattle.questions.proofs.CoreLaws.{count-is}
use Rattle.questions.proofs.cores.core_count.Goals as goal

pub returns : goal.returns
returns c = λ m v r. count-is c.args.s m v
