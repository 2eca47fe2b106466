use mathlib.Core.Path.{refl, sym}
use mathlib.Core.Bool.{false}
use lib.ListN.{get_or}
use Rattle.queue.specs.Words.{made}
use Rattle.queue.specs.Ready.{waiting}
use Rattle.turns.proofs.Steps.{phase3-empty, phase3-held}
use Rattle.turns.proofs.phase3.phase3_on.Goals as goal

pub returns-in-None-clause-turn : goal.returns-in-None-clause-turn
returns-in-None-clause-turn c =
    λ p. phase3-empty c.args.core.0 c.args.s c.args.marks.now.exits _ c.args.marks.now.blocks _ (get_or c.args.marks.now.yields c.args.core.0 false) p (waiting c.args.queue.now) (made c.args.moves.now) refl refl (sym c.in-None.ensures) c.args.marks.now.yields _ refl

pub returns-in-Some-clause-turn : goal.returns-in-Some-clause-turn
returns-in-Some-clause-turn c =
    λ p. phase3-held c.args.core.0 c.args.s c.args.marks.now.exits _ c.args.marks.now.blocks _ (get_or c.args.marks.now.yields c.args.core.0 false) p (waiting c.args.queue.now) (made c.args.moves.now) refl refl _ (sym c.in-Some.ensures) c.vacate_marked.result _ _ _ (c.vacate_marked.ensures.turn p)
