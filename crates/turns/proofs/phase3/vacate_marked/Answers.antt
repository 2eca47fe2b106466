use mathlib.Core.Path.{refl}
use Rattle.model.specs.Types.{Exit, Block}
use Rattle.queue.specs.Words.{made}
use Rattle.queue.specs.Ready.{waiting}
use Rattle.turns.proofs.Steps.{vacate-leaves, vacate-stays}
use Rattle.turns.proofs.phase3.vacate_marked.Goals as goal

pub returns-then-exits-clause-turn : goal.returns-then-exits-clause-turn
returns-then-exits-clause-turn c =
    λ g. vacate-leaves c.args.core.0 c.args.tid.0 _ _ Exit (waiting c.args.queue.now) _ (made c.args.moves.now) _ c.args.yields.now _ c.vacate.result (rw c.if-exits.true) c.vacate.ensures.idle refl c.vacate.ensures.queue c.vacate.ensures.moves

pub returns-then-blocks-clause-turn : goal.returns-then-blocks-clause-turn
returns-then-blocks-clause-turn c =
    λ g. vacate-leaves c.args.core.0 c.args.tid.0 _ _ Block (waiting c.args.queue.now) _ (made c.args.moves.now) _ c.args.yields.now _ c.vacate-then-blocks.result (rw (c.if-exits.false, c.if-blocks.true)) c.vacate-then-blocks.ensures.idle refl c.vacate-then-blocks.ensures.queue c.vacate-then-blocks.ensures.moves

pub returns-clause-turn : goal.returns-clause-turn
returns-clause-turn c = λ g. vacate-stays c.args.core.0 c.args.tid.0 _ _ (waiting c.args.queue.now) (made c.args.moves.now) (rw (c.if-exits.false, c.if-blocks.false))
