use Rattle.thread_questions.proofs.Facts.{threads-are}
use Rattle.thread_questions.proofs.threads.Goals as goal

pub returns : goal.returns
returns c = threads-are c.args.s c.args.threads.now
