use mathlib.Core.Path.{ap, ◌∙◌}
use Rattle.model.specs.Questions.{runner, running_on}
use Rattle.questions.proofs.cores.running_on.Goals as goal

pub returns : goal.returns
unfolding running_on
returns c = λ m v r. c.running_in.ensures ∙ ap runner (c.core_state.ensures m v r)
