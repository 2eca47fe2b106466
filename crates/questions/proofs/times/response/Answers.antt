use Rattle.model.specs.Questions.{response_of}
use Rattle.questions.proofs.times.response.Goals as goal

pub returns : goal.returns
unfolding response_of
returns c = c.ticks_from.ensures
