use native.Mathlib.Omega.{arith}
use borrow.Author.Rules.{rules}
use mathlib.Core.Path.{sym, ap, ◌∙◌}
use Rattle.state.specs.State.{packed}
use Rattle.force_plan.proofs.Parts.{may-take, forced}
use Rattle.force_plan.proofs.force.plan.Goals as goal

pub force_core-next-requires : goal.force_core-next-requires
force_core-next-requires c =
    (omega (arith, c.requires.there, c.requires.cores), may-take c.args.s c.args.core.0 c.args.at c.args.queue.now c.args.lanes.now c.unpack.result c.unpack.ensures c.requires, c.requires.waits, c.requires.queued, omega (arith, c.split_at_mut-front.ensures.front_len))

pub returns : goal.returns
returns c =
    let d = c.force_core-next in
    let split = c.split_at_mut-front.ensures in
    forced c.args.s c.args.core.0 c.args.at c.args.queue.now d.new.queue.words.now c.args.lanes.now _ d.new.moves.words.now c.unpack.result d.result c.pack.result d.new.marks d.new.queue.len d.new.moves.count _ _ _ _ (search rules) (search rules) split.back split.front
    c.unpack.ensures c.pack.ensures.states c.new.ensures.parts c.new.ensures.eight c.requires d.ensures.lent_moves.long d.ensures.lent.long d.ensures.cores d.ensures.others d.ensures.left d.ensures.moves d.ensures.queue d.ensures.out (c.pack.ensures.words ∙ ap packed (sym c.pack.ensures.states))
