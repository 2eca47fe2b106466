use Rattle.threads.specs.Slice.{Woken}
use Rattle.threads.proofs.wake_waiters.Given as goal

-- of the part, the waiters among the first i are woken
abbrev pub invariant-loop-i : goal.invariant-loop-i
invariant-loop-i l = Woken l.i l.on.0 l.initial.t-items l.t-items l.len l.fn.queue l.to l.queue
