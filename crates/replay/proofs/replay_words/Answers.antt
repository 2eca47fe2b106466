-- `new` and the calls of the words put together.
use Rattle.state.specs.Memory.{held}
use Rattle.replay.proofs.Lists.{words-made, replay-done}
use Rattle.replay.proofs.replay_words.Goals as goal

pub returns-clause-done : goal.returns-clause-done
returns-clause-done c =
    let a = c.args in
    replay-done a.config a.cores a.capacities a.entry_pc _ a.upto (held a.m.now) (held c.new_on-made.new.m) (held c.apply_words-last.new.m) c.new_on-made.result c.first_of-first.result c.apply_words-last.result _
    c.new_on-made.ensures.done c.first_of-first.ensures c.replay_of.ensures (words-made a.words.now _ a.upto _ _ _ _ (rw c.calls_due-n.ensures at c.apply_words-last.ensures.done))
