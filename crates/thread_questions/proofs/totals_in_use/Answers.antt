use Rattle.thread_questions.proofs.Facts.{totals-fit, totals-are}
use Rattle.thread_questions.proofs.totals_in_use.Goals as goal

pub totals-requires : goal.totals-requires
totals-requires c = totals-fit c.args.s c.args.threads.now c.requires c.in_use.result c.in_use.ensures

pub returns : goal.returns
returns c = totals-are c.args.s c.args.threads.now c.in_use.result c.in_use.ensures c.totals.result c.totals.ensures
