use native.Mathlib.Omega.{arith}
use lib.ListN.{get_or}
use Rattle.queue.specs.Words.{moves_in}
use Rattle.queue.specs.Ready.{waiting}
use Rattle.decide.proofs.Forcing.{forced-cores, forced-others}
use Rattle.decide.proofs.force.force_core.Goals as goal

pub returns-clause-cores : goal.returns-clause-cores
returns-clause-cores c =
    let m = c.args.marks.now in
    forced-cores c.args.cores m.exits m.blocks m.yields m.progressed _ c.args.core.0 c.args.cost (get_or (waiting c.args.queue.now) c.args.at 0) c.take_over.result (omega (arith, c.requires.0, c.well_formed.0)) c.take_over.ensures.state c.take_over.ensures.mark

pub returns-clause-others : goal.returns-clause-others
returns-clause-others c =
    let m = c.args.marks.now in
    forced-others c.args.cores m.exits m.blocks m.yields m.progressed _ c.args.core.0 c.args.cost (get_or (waiting c.args.queue.now) c.args.at 0) c.take_over.result (omega (arith, c.requires.0, c.well_formed.0)) c.take_over.ensures.state c.take_over.ensures.mark

pub returns-clause-moves : goal.returns-clause-moves
unfolding moves_in
returns-clause-moves c = c.take_over.ensures.moves
