-- The record that the decision names is changed as it says, and the call is done.
use Rattle.sched_threads.proofs.set_priority.Goals as goal

pub returns : goal.returns
returns c = λ qs ws v. rw c.answered.ensures ((c.priority_decided-d.ensures c.args.threads.now qs ws v).done _ c.update.ensures)
