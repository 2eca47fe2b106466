use mathlib.Core.Path.{ap}
use mathlib.Core.List.{[]}
use Rattle.model.specs.Reading.{core_state_meant}
use Rattle.queue.specs.Ready.{prio_of}
use Rattle.preempt.proofs.Victims.{seek-start, seek-other, seek-take, seek-keep, seek-end, seek-within}
use Rattle.preempt.proofs.least_urgent.Goals as goal
use Rattle.preempt.proofs.least_urgent.Goals.{in-Running+then-high-p, in-Running+else-high-p, in_default}

pub loop-i-init : goal.loop-i-init
loop-i-init c = λ ex bl yi pr. seek-start (prio_of c.args.prios.now) c.args.cores ex bl yi pr

pub loop-i-preserved : goal.loop-i-preserved
loop-i-preserved c =
    λ ex bl yi pr.
    let found = c.loop-i.invariant ex bl yi pr in
    elim c.match-cores-i.branch [
      | in-Running+then-high-p w ↦ rw (w.least-is, w.high-is) (seek-take _ _ _ _ _ _ c.loop-i.i _ _ _ _ _ (ap core_state_meant w.in-Running.is) w.priority_of-p.ensures w.if-high-p.true found)
      | in-Running+else-high-p w ↦ rw (w.least-is, w.high-is) (seek-keep _ _ _ _ _ _ c.loop-i.i _ _ _ _ _ (ap core_state_meant w.in-Running.is) w.priority_of-p.ensures w.if-high-p.false found)
      | in_default w ↦ rw (w.least-is, w.high-is) (seek-other _ _ _ _ _ _ c.loop-i.i _ _ w.in_default.not-Running found)
    ]

pub returns-clause-victim : goal.returns-clause-victim
returns-clause-victim c = λ ex bl yi pr. seek-end _ _ ex bl yi pr c.loop-i.i _ _ _ c.loop-i.auto.i-end c.loop-i-test.false (c.loop-i.invariant ex bl yi pr)

pub returns-clause-within : goal.returns-clause-within
returns-clause-within c = seek-within _ _ [] [] [] [] c.loop-i.i _ _ _ c.loop-i.auto.i-end (c.loop-i.invariant [] [] [] [])
