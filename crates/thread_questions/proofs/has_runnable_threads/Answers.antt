use mathlib.Core.Path.{◌≡◌}
use Rattle.model.specs.Questions.{any_thread, is_runnable, has_runnable}
use Rattle.thread_questions.proofs.Facts.{told-of-list}
use Rattle.thread_questions.proofs.has_runnable_threads.Goals as goal

pub returns : goal.returns
unfolding has_runnable
returns c = told-of-list c.args.s c.args.threads.now c.totals_in_use.result c.totals_in_use.ensures (λ rs. c.any_runnable.result ≡ any_thread is_runnable rs) c.any_runnable.ensures
