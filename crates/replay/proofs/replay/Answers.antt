-- `new` and the calls put together.
use Rattle.state.specs.Memory.{held}
use Rattle.replay.proofs.Lists.{due-made, replay-done}
use Rattle.replay.proofs.replay.Goals as goal

pub returns-clause-done : goal.returns-clause-done
returns-clause-done c =
    let a = c.args in
    replay-done a.config a.cores a.capacities a.entry_pc _ a.upto (held a.m.now) (held c.new_on-created.new.m) (held c.apply_all-last.new.m) c.new_on-created.result c.first_of-first.result c.apply_all-last.result _
    c.new_on-created.ensures.done c.first_of-first.ensures c.replay_of.ensures (due-made a.calls.now _ a.upto _ _ _ _ (rw c.calls_due-n.ensures at c.apply_all-last.ensures.done))
