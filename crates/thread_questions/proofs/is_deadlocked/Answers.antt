use mathlib.Core.Path.{◌≡◌}
use mathlib.Core.Bool.{not, ◌&&◌}
use Rattle.model.specs.Questions.{any_thread, is_live, is_runnable, has_live, has_runnable, is_deadlocked}
use Rattle.thread_questions.proofs.Facts.{told-of-list}
use Rattle.thread_questions.proofs.is_deadlocked.Goals as goal

pub returns : goal.returns
unfolding is_deadlocked has_live has_runnable
returns c = told-of-list c.args.s c.args.threads.now c.totals_in_use.result c.totals_in_use.ensures (λ rs. c.only_blocked.result ≡ (any_thread is_live rs && not (any_thread is_runnable rs))) c.only_blocked.ensures
