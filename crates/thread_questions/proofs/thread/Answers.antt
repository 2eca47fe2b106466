use Rattle.thread_questions.proofs.Facts.{thread-found, thread-missing}
use Rattle.thread_questions.proofs.thread.Goals as goal

pub returns-then-has_thread : goal.returns-then-has_thread
returns-then-has_thread c =
    thread-found c.args.s c.args.threads.now c.args.tid.0 c.has_thread.result c.has_thread.ensures (rw c.if-has_thread.true tt) c.record_index.result c.record_index.ensures c.record_at.result c.record_at.ensures c.found.result c.found.ensures

pub returns : goal.returns
returns c = thread-missing c.args.s c.args.threads.now c.args.tid.0 c.has_thread.result c.has_thread.ensures (rw c.if-has_thread.false tt) c.missing.result c.missing.ensures
