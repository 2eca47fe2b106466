use Rattle.model.specs.Questions.{turnaround_of}
use Rattle.questions.proofs.times.turnaround.Goals as goal

pub returns : goal.returns
unfolding turnaround_of
returns c = c.ticks_from.ensures
