use native.Mathlib.Omega.{arith}
use mathlib.Core.Path.{◌∙◌}
use lib.ListN.{length-set}
use Rattle.queue.proofs.Frames.{still-lent-both, appended-both, no-longer-both}
use Rattle.turns.specs.Turns.{rules_of}
use Rattle.preempt.proofs.Rounds.{rounds-rest, rounds-end, rounds-go, preempted-pass, preempted-others}
use Rattle.preempt.proofs.preempt_rounds.Goals as goal

pub returns-in-None-clause-pass : goal.returns-in-None-clause-pass
returns-in-None-clause-pass c =
    let e = rw c.waiting.ensures at c.in-None.ensures.next in
    λ policy u ex bl yi. rounds-rest (rules_of policy u c.args.rules.now.cost c.args.rules.now.prios.now) c.args.n _ _ _ _ c.loop-round._round (c.loop-round.invariant.5 policy u ex bl yi) (e ex bl yi c.loop-round.progressed)

pub loop-round-preserved : goal.loop-round-preserved
loop-round-preserved c =
    let e = rw c.waiting.ensures at c.in-Some.ensures.next in
    let p = rw c.waiting.ensures at c.in-Some.ensures.placed in (
      simp length-set c.loop-round.invariant.0,
      still-lent-both c.loop-round.invariant.1 c.swap.ensures.lent,
      still-lent-both c.loop-round.invariant.2 c.swap.ensures.lent_moves,
      no-longer-both c.loop-round.invariant.3 c.swap.ensures.queue,
      appended-both _ c.loop-round.invariant.4 c.swap.ensures.out (omega arith),
      λ policy u ex bl yi. rounds-go (rules_of policy u c.args.rules.now.cost c.args.rules.now.prios.now) c.args.n _ _ _ _ c.loop-round._round (c.loop-round.invariant.5 policy u ex bl yi) c.loop-round-test.true _ (e ex bl yi c.loop-round.progressed) _ (preempted-pass (rules_of policy u c.args.rules.now.cost c.args.rules.now.prios.now) c.args.n c.loop-round.cs ex bl yi _ _ _ _ _ _ _ _ _ c.swap.result p.0 (omega (arith, p.0, c.loop-round.invariant.0, c.requires)) p.2 c.swap.ensures.swapped),
      λ ex bl yi j h. preempted-others c.loop-round.cs ex bl yi c.loop-round.progressed _ _ c.swap.result c.swap.ensures.swapped.mark j (λ d. omega (arith, p.0)) ∙ c.loop-round.invariant.6 ex bl yi j h,
    )

pub returns-clause-pass : goal.returns-clause-pass
returns-clause-pass c =
    λ policy u ex bl yi. rounds-end (rules_of policy u c.args.rules.now.cost c.args.rules.now.prios.now) c.args.n _ _ _ _ c.loop-round._round (c.loop-round.invariant.5 policy u ex bl yi) c.loop-round-test.false
