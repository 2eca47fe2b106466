-- `preempt::least_urgent` meets its contract. Assumes nothing.
use mathlib.Core.Bool.{Bool}
use mathlib.Core.List.{List}
use Rattle.queue.specs.Ready.{prio_of}
use Rattle.preempt.proofs.Victims.{Seek}
use Rattle.preempt.proofs.least_urgent.Given as goal

abbrev pub invariant-loop-i : goal.invariant-loop-i
invariant-loop-i l = (ex bl yi pr : List Bool) → Seek (prio_of l.prios) l.cores ex bl yi pr l.i l.least l.high
