-- What the exit says of the core that `close_core` names is what the lemmas on the whole call ask of the exit.
use Rattle.close_plan.proofs.Closing.{records-fit, close-fits, close-done}
use Rattle.sched_close.proofs.close.Goals as goal

pub charge_all-requires : goal.charge_all-requires
charge_all-requires c =
    rw c.charged_threads-n.ensures
    (records-fit c.args.s c.args.threads.now c.args.queue.now c.requires.0 c.args.log.now c.args.lanes.now c.requires.1 c.args.core.0 c.exit-e.result c.exit-e.new.threads c.exit-e.new.queue c.exit-e.new.log
    (rw c.close_core-on.ensures at (c.exit-e.ensures c.requires.0 c.args.lanes.now c.requires.1)))

pub close_finished-requires : goal.close_finished-requires
close_finished-requires c =
    close-fits c.args.s c.args.threads.now c.args.queue.now c.requires.0 c.args.log.now c.args.lanes.now c.requires.1 c.args.core.0 c.exit-e.result c.exit-e.new.threads c.exit-e.new.queue c.exit-e.new.log
    (rw c.close_core-on.ensures at (c.exit-e.ensures c.requires.0 c.args.lanes.now c.requires.1))

pub returns : goal.returns
returns c = λ ps v.
    close-done c.args.s c.args.threads.now c.args.queue.now ps c.args.log.now c.args.lanes.now v c.args.core.0 c.exit-e.result c.exit-e.new.threads c.exit-e.new.queue c.exit-e.new.log
    (rw c.close_core-on.ensures at (c.exit-e.ensures ps c.args.lanes.now v))
    c.charge_all.new.threads (rw c.unpack.ensures at (rw c.charged_threads-n.ensures at c.charge_all.ensures)) c.close_finished.result.sched c.close_finished.result.answer c.close_finished.new.lanes c.close_finished.ensures
