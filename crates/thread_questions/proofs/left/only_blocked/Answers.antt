use mathlib.Core.Path.{sym, ap, ◌∙◌}
use mathlib.Core.Bool.{not}
use Rattle.thread_questions.proofs.left.only_blocked.Goals as goal

pub returns-then-not-any_live : goal.returns-then-not-any_live
returns-then-not-any_live c = λ rs e. rw (sym (c.any_live.ensures rs e) ∙ c.if-not-any_live.true)

pub returns : goal.returns
returns c = λ rs e. rw (sym (c.any_live.ensures rs e) ∙ c.if-not-any_live.false) (ap not (c.any_runnable.ensures rs e))
