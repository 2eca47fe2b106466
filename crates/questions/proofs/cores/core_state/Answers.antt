use mathlib.Core.Path.{ap, ◌∙◌}
use Rattle.model.specs.declared.CoreState as Program
use Rattle.model.specs.Reading.{core_state_meant}
use Rattle.questions.proofs.CoreLaws.{core-state-is}
use Rattle.questions.proofs.cores.core_state.Goals as goal

pub returns : goal.returns
returns c = λ m v r. ap (λ (x : Program.CoreState). core_state_meant x) c.state_at.ensures ∙ core-state-is c.args.s m v _
