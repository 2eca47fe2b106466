use mathlib.Core.Path.{◌≡◌}
use Rattle.model.specs.Questions.{any_thread, is_live, has_live}
use Rattle.thread_questions.proofs.Facts.{told-of-list}
use Rattle.thread_questions.proofs.has_live_threads.Goals as goal

pub returns : goal.returns
unfolding has_live
returns c = told-of-list c.args.s c.args.threads.now c.totals_in_use.result c.totals_in_use.ensures (λ rs. c.any_live.result ≡ any_thread is_live rs) c.any_live.ensures
