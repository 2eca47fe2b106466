use Rattle.close_plan.proofs.Parts.{short-same, closed_of}
use Rattle.close_plan.proofs.closed.Goals as goal

pub phase1-sliced-requires : goal.phase1-sliced-requires
phase1-sliced-requires c = record {
  n_bound = c.requires.charge.cores;
  by_index = short-same c.args.s _ c.unpack.ensures c.requires.short;
}

pub returns : goal.returns
returns c = closed_of c.args.s _ c.unpack.ensures _ _ c.charge-charged.result _ _ c.next_tick.result _ c.charge-charged.ensures c.phase1-sliced.ensures c.pack.ensures.words c.pack.ensures.states c.next_tick.ensures c.closed_sched.ensures
