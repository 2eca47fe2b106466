use mathlib.Core.Path.{ap, ◌∙◌}
use mathlib.Core.List.{[], ◌∷◌, ◌++◌}
use Rattle.model.specs.Types.{Move}
use Rattle.queue.specs.Words.{made}
use Rattle.queue.proofs.Words.{pushed}
use Rattle.queue.proofs.moves.Moves.push.Goals as goal

pub returns-clause-moves : goal.returns-clause-moves
returns-clause-moves c = pushed c.args.self.now.words.now c.args.self.now.count c.word.result c.requires.1 ∙ ap (λ (m : Move). made c.args.self.now ++ (m ∷ [])) c.word.ensures
