use Rattle.summary.specs.Reading.{SumsAre}
use Rattle.thread_questions.proofs.Facts.{sums-asked, told-of-sums}
use Rattle.thread_questions.proofs.sums_of.Goals as goal

pub sums_from-requires : goal.sums_from-requires
sums_from-requires c = sums-asked c.args.s c.args.threads.now c.totals_in_use.result c.totals_in_use.ensures c.requires

pub returns : goal.returns
returns c = told-of-sums c.args.s c.args.threads.now c.totals_in_use.result c.totals_in_use.ensures (λ d. SumsAre c.sums_from.result d) c.sums_from.ensures.0
