use Rattle.model.specs.Reading.{thread_meant}
use Rattle.record_reads.proofs.Waking.{push-room, push-hit, push-miss}
use Rattle.record_reads.proofs.read.push_waiter.Goals as goal

pub bounds-queue-len : goal.bounds-queue-len
bounds-queue-len c = push-room c.args.on.0 (thread_meant c.args.t) c.is_waiter.result c.is_waiter.ensures c.if-is_waiter.true c.args.i c.args.len c.args.queue.now c.requires.1

pub returns-then-is_waiter : goal.returns-then-is_waiter
returns-then-is_waiter c = push-hit c.args.on.0 (thread_meant c.args.t) c.is_waiter.result c.is_waiter.ensures c.if-is_waiter.true c.args.i c.args.len _ (push-room c.args.on.0 (thread_meant c.args.t) c.is_waiter.result c.is_waiter.ensures c.if-is_waiter.true c.args.i c.args.len c.args.queue.now c.requires.1)

pub returns : goal.returns
returns c = push-miss c.args.on.0 (thread_meant c.args.t) c.is_waiter.result c.is_waiter.ensures c.if-is_waiter.false c.args.i c.args.len _
