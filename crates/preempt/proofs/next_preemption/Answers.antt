use native.Mathlib.Omega.{arith}
use mathlib.Core.Path.{refl}
use Rattle.queue.specs.Ready.{prio_of}
use Rattle.preempt.proofs.Victims.{preemption-nobody, preemption-idle, preemption-not, preemption-goes}
use Rattle.preempt.proofs.next_preemption.Goals as goal

pub returns-in_err-at-clause-next : goal.returns-in_err-at-clause-next
returns-in_err-at-clause-next c =
    λ ex bl yi pr. rw c.from_residual.ensures (preemption-nobody (prio_of c.args.prios.now) c.args.waiting.now (c.in_err-at.ensures.any refl).picked _)

pub returns-in_err-victim-clause-next : goal.returns-in_err-victim-clause-next
returns-in_err-victim-clause-next c =
    λ ex bl yi pr. rw c.from_residual-in_err-victim.ensures (preemption-idle (prio_of c.args.prios.now) _ _ (c.in_err-victim.ensures.victim ex bl yi pr))

pub returns-then-priority_of-clause-next : goal.returns-then-priority_of-clause-next
returns-then-priority_of-clause-next c =
    let p = c.in_ok-at.ensures.any refl in
    λ ex bl yi pr. preemption-not (prio_of c.args.prios.now) c.args.waiting.now c.in_ok-at.at p.picked p.within _ c.in_ok-victim.victim.tid.0 c.in_ok-victim.victim.core.0 (c.in_ok-victim.ensures.victim ex bl yi pr) (omega (arith, c.if-priority_of.true, c.priority_of.ensures, c.priority_of-2.ensures))

pub returns-clause-next : goal.returns-clause-next
returns-clause-next c =
    let p = c.in_ok-at.ensures.any refl in
    λ ex bl yi pr. preemption-goes (prio_of c.args.prios.now) c.args.waiting.now c.in_ok-at.at p.picked p.within _ c.in_ok-victim.victim.tid.0 c.in_ok-victim.victim.core.0 (c.in_ok-victim.ensures.victim ex bl yi pr) (omega (arith, c.if-priority_of.false, c.priority_of.ensures, c.priority_of-2.ensures))
