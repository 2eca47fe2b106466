use mathlib.Core.Path.{◌≡◌}
use Rattle.model.specs.Accounting.{sums}
use Rattle.model.specs.Questions.{figures}
use Rattle.summary.specs.Reading.{figures_meant}
use Rattle.thread_questions.proofs.Facts.{sums-asked, told-of-sums}
use Rattle.thread_questions.proofs.summary.Goals as goal

pub figures_from-requires : goal.figures_from-requires
figures_from-requires c = sums-asked c.args.s c.args.threads.now c.totals_in_use.result c.totals_in_use.ensures c.requires

pub returns : goal.returns
returns c = told-of-sums c.args.s c.args.threads.now c.totals_in_use.result c.totals_in_use.ensures (λ d. figures_meant c.figures_from.result ≡ figures (sums d.accounts)) c.figures_from.ensures
