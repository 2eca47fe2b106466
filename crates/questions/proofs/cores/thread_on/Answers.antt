use mathlib.Core.Path.{ap, ◌∙◌}
use Rattle.model.specs.Phases.{holder}
use Rattle.model.specs.Questions.{thread_on}
use Rattle.questions.proofs.cores.thread_on.Goals as goal

pub returns : goal.returns
unfolding thread_on
returns c = λ m v r. c.tid.ensures ∙ ap holder (c.core_state.ensures m v r)
