use mathlib.Core.Path.{◌≡◌}
use Rattle.model.specs.Accounting.{sums}
use Rattle.model.specs.Questions.{figures}
use Rattle.summary.specs.Reading.{figure_bits}
use Rattle.thread_questions.proofs.Facts.{sums-asked, told-of-sums}
use Rattle.thread_questions.proofs.bits_of.Goals as goal

pub bits_from-requires : goal.bits_from-requires
bits_from-requires c = sums-asked c.args.s c.args.threads.now c.totals_in_use.result c.totals_in_use.ensures c.requires

pub returns : goal.returns
returns c = told-of-sums c.args.s c.args.threads.now c.totals_in_use.result c.totals_in_use.ensures (λ d. c.bits_from.result ≡ figure_bits (figures (sums d.accounts))) c.bits_from.ensures
