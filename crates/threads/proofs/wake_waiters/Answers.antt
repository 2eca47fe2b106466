-- Of the part, the waiters among the first i records are woken: one record more with each turn.
use Rattle.std.proofs.Common.{arith, take, length-take}
use Rattle.threads.proofs.Waking.{none-woken, woken-next, turn-fits, part-fits, woken-part}
use Rattle.threads.proofs.wake_waiters.Goals as goal

pub loop-i-init : goal.loop-i-init
loop-i-init c = none-woken c.args.on.0 _ c.args.len c.args.queue.now

pub push_waiter-to-requires : goal.push_waiter-to-requires
push_waiter-to-requires c =
    turn-fits c.args.n c.args.on.0 (take c.args.n c.args.threads.now) c.loop-i.t-items _ c.args.len c.args.queue.now c.loop-i.i c.loop-i.to c.loop-i.queue (part-fits _ _ _ _ _ c.requires) (omega (arith, length-take c.args.n c.args.threads.now)) c.loop-i.auto.t-items c.loop-i.auto.queue c.loop-i.invariant

pub loop-i-preserved : goal.loop-i-preserved
loop-i-preserved c =
    woken-next c.args.on.0 c.loop-i.i (take c.args.n c.args.threads.now) c.loop-i.t-items _ c.woken.result c.args.len c.args.queue.now c.loop-i.to c.loop-i.queue c.push_waiter-to.result c.push_waiter-to.new.queue (omega arith) c.loop-i.auto.t-items
    c.woken.ensures c.push_waiter-to.ensures c.loop-i.invariant

pub returns : goal.returns
returns c =
    woken-part c.args.n c.args.on.0 c.loop-i.i c.args.threads.now c.loop-i.t-items c.args.len c.args.queue.now c.loop-i.to c.loop-i.queue (omega (arith, c.requires.within, length-take c.args.n c.args.threads.now)) (omega (arith, c.requires.within, length-take c.args.n c.args.threads.now)) c.loop-i.invariant
