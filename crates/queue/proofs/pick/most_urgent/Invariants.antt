-- `queue::pick::most_urgent` meets its contract. Assumes nothing.
use Rattle.queue.specs.Ready.{prio_of}
use Rattle.queue.proofs.Scan.{Down}
use Rattle.queue.proofs.pick.most_urgent.Given as goal

abbrev pub invariant-loop-i : goal.invariant-loop-i
invariant-loop-i l = Down (prio_of l.prios) l.ceiling l.waiting l.i l.best l.low
