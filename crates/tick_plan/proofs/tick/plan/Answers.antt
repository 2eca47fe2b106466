use native.Mathlib.Omega.{arith}
use borrow.Author.Rules.{rules}
use Rattle.tick_plan.proofs.Parts.{planned}
use Rattle.tick_plan.proofs.tick.plan.Goals as goal

pub decided-states-requires : goal.decided-states-requires
decided-states-requires c = record {
  bounds = (c.requires.cores, c.requires.queued, omega (arith, c.requires.words, c.split_at_mut-front.ensures.front_len));
  short = c.requires.short;
}

pub returns : goal.returns
returns c =
    let d = c.decided-states in
    let split = c.split_at_mut-front.ensures in
    planned c.args.s c.args.queue.now d.new.queue.words.now c.args.prios.now c.args.lanes.now _ d.new.moves.words.now d.result d.new.marks d.new.queue.len d.new.moves.count _ _ _ _ (search rules) (search rules) split.back split.front
    c.new.ensures.parts c.new.ensures.eight c.requires.cores c.requires.words d.ensures.lent_moves.long d.ensures.lent.long d.ensures.decided d.ensures.rest d.ensures.queue d.ensures.out d.ensures.words
