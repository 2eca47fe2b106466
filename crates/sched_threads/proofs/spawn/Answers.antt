-- The record that the decision names is changed as it says, and the call is done.
use Rattle.sched_threads.proofs.spawn.Goals as goal

pub returns : goal.returns
returns c = λ ws v. rw c.answered.ensures ((c.spawn_decided-d.ensures c.args.threads.now ws v).done _ c.update.ensures)
