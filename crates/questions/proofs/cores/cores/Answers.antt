use mathlib.Core.Path.{ap, ◌∙◌}
use mathlib.Core.List.{List, map}
use Rattle.model.specs.declared.CoreState as Program
use Rattle.model.specs.Reading.{core_state_meant}
use Rattle.questions.proofs.CoreLaws.{states-are}
use Rattle.questions.proofs.cores.cores.Goals as goal

pub returns : goal.returns
returns c = λ m v r. ap (λ (l : List Program.CoreState). map core_state_meant l) c.unpack.ensures ∙ states-are c.args.s m v
