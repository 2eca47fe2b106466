use mathlib.Core.Path.{ap, ◌∙◌}
use mathlib.Core.List.{List, ◌++◌}
use Rattle.model.specs.Types.{Move}
use Rattle.queue.specs.Words.{made}
use Rattle.dispatch.proofs.Leaving.{two, free, dear}
use Rattle.dispatch.proofs.dispatch.Goals as goal

pub returns-then-cost-eq0-clause-state : goal.returns-then-cost-eq0-clause-state
returns-then-cost-eq0-clause-state c = (free c.args.cost c.args.tid.0 c.args.core.0 c.if-cost-eq0.true).0

pub returns-then-cost-eq0-clause-moves : goal.returns-then-cost-eq0-clause-moves
returns-then-cost-eq0-clause-moves c =
    let m = made c.args.moves.now in
    two m _ _ _ _ c.push.ensures.moves c.push-then-cost-eq0.ensures.moves ∙ ap (λ (l : List Move). m ++ l) (free c.args.cost c.args.tid.0 c.args.core.0 c.if-cost-eq0.true).1

pub returns-clause-state : goal.returns-clause-state
returns-clause-state c = (dear c.args.cost c.args.tid.0 c.args.core.0 c.if-cost-eq0.false).0

pub returns-clause-moves : goal.returns-clause-moves
returns-clause-moves c = c.push.ensures.moves ∙ ap (λ (l : List Move). made c.args.moves.now ++ l) (dear c.args.cost c.args.tid.0 c.args.core.0 c.if-cost-eq0.false).1
