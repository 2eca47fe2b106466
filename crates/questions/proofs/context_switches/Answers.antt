use mathlib.Core.Path.{refl}
use Rattle.state.specs.State.{meant_at}
use Rattle.questions.proofs.context_switches.Goals as goal

pub returns : goal.returns
unfolding meant_at
returns c = λ m v r. refl
