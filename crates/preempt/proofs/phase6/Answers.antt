use mathlib.Core.Path.{◌≡◌, refl, ap, sym, ◌∙◌}
use mathlib.Core.Logic.{◌⊎◌, inl, inr}
use Rattle.settings.specs.Reading.{policy_meant}
use Rattle.settings.specs.declared.SchedPolicy.{SchedPolicy}
use Rattle.settings.specs.declared.SchedPolicy.TheVariants.{Off, Fifo, RoundRobin}
use Rattle.model.specs.Types.{Priority}
use Rattle.model.specs.Phases.{Rules, Pass, phase6}
use Rattle.queue.proofs.Frames.{still-lent, appended-none, no-longer-same}
use Rattle.preempt.proofs.Rounds.{phase6-is, rounds-settled}
use Rattle.preempt.proofs.phase6.Goals as goal

-- under these three nobody is preempted
idle : (p : SchedPolicy) (k : Rules) (x : Pass) → (p ≡ Off) ⊎ ((p ≡ Fifo) ⊎ (p ≡ RoundRobin)) → x ≡ phase6 (policy_meant p) k x
unfolding phase6
idle p k x (inl e) = rw e
idle p k x (inr (inl e)) = rw e
idle p k x (inr (inr e)) = rw e

other : (p : SchedPolicy) → (p ≡ Off) ⊎ ((p ≡ Fifo) ⊎ (p ≡ RoundRobin)) → policy_meant p ≡ Priority → ⊥
other p (inl e) h = let x : policy_meant Off ≡ Priority = sym (ap policy_meant e) ∙ h in cc
other p (inr (inl e)) h = let x : policy_meant Fifo ≡ Priority = sym (ap policy_meant e) ∙ h in cc
other p (inr (inr e)) h = let x : policy_meant RoundRobin ≡ Priority = sym (ap policy_meant e) ∙ h in cc

pub returns-in-Off : goal.returns-in-Off
returns-in-Off c = record {
  pass = λ u ex bl yi. idle _ _ _ c.in-Off.is;
  settled = λ u ex bl yi e. absurd (other _ c.in-Off.is e);
  rest = λ ex bl yi j h. refl;
  queue = no-longer-same _ _;
  out = appended-none _ _ _;
  lent = still-lent _;
  lent_moves = still-lent _;
}

pub returns-in-Priority-clause-pass : goal.returns-in-Priority-clause-pass
returns-in-Priority-clause-pass c = λ u ex bl yi. c.preempt_rounds.ensures.pass c.args.rules.now.policy u ex bl yi ∙ phase6-is _ _ (ap policy_meant c.in-Priority.is) c.args.n _ _ _

pub returns-in-Priority-clause-settled : goal.returns-in-Priority-clause-settled
returns-in-Priority-clause-settled c = λ u ex bl yi e. rounds-settled _ c.args.n _ _ _ _ (c.preempt_rounds.ensures.pass c.args.rules.now.policy u ex bl yi)
