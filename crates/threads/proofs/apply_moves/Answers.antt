-- The moves before this one are applied: one move more with each turn.
use Rattle.std.proofs.Common.{arith, sym, length-take}
use Rattle.threads.proofs.Applying.{moved-zero, turn-fits, turn-moved, all-moved}
use Rattle.threads.proofs.apply_moves.Goals as goal

pub loop-word-init : goal.loop-word-init
loop-word-init c = sym (moved-zero c.args.tick.0 c.args.moves.now c.args.threads.now)

pub applied-requires : goal.applied-requires
applied-requires c =
    turn-fits c.args.tick.0 c.args.moves.now c.args.threads.now _ c.args.count c.loop-word.word-index _ _ (omega (arith, length-take c.args.count c.args.moves.now)) c.requires c.move_tid-i.ensures c.loop-word.invariant

pub loop-word-preserved : goal.loop-word-preserved
loop-word-preserved c =
    turn-moved c.args.tick.0 c.args.moves.now c.args.threads.now _ c.args.count c.loop-word.word-index _ _ (omega (arith, length-take c.args.count c.args.moves.now)) c.requires c.move_tid-i.ensures c.loop-word.invariant c.applied.result c.applied.ensures

pub returns : goal.returns
returns c = all-moved c.args.tick.0 c.args.moves.now c.args.threads.now _ c.args.count c.loop-word.word-index (omega (arith, c.requires.within, length-take c.args.count c.args.moves.now)) c.requires c.loop-word.invariant
