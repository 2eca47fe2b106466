use mathlib.Core.Path.{refl}
use borrow.Author.Tests.{lt-ltb, le-ltb}
use Rattle.checks.proofs.Ladder.{hit, pass, or-first, or-second, or-none}
use Rattle.model.specs.Calls.{bad_timing}
use Rattle.checks.specs.Check.{timing_refusal}
use Rattle.checks.proofs.check_timing.Goals as goal

pub returns-then-quantum-gt-MAX_QUANTUM : goal.returns-then-quantum-gt-MAX_QUANTUM
unfolding timing_refusal bad_timing
returns-then-quantum-gt-MAX_QUANTUM c = hit 1 _ _ (or-first _ _ (lt-ltb _ _ c.if-quantum-gt-MAX_QUANTUM.true))

pub returns-then-switch_cost-gt-MAX_SWITCH_COST : goal.returns-then-switch_cost-gt-MAX_SWITCH_COST
unfolding timing_refusal bad_timing
returns-then-switch_cost-gt-MAX_SWITCH_COST c = hit 1 _ _ (or-second _ _ (le-ltb _ _ c.if-quantum-gt-MAX_QUANTUM.false) (lt-ltb _ _ c.if-switch_cost-gt-MAX_SWITCH_COST.true))

pub returns-then-s : goal.returns-then-s
unfolding timing_refusal bad_timing
returns-then-s c = pass 1 _ _ _ (or-none _ _ (le-ltb _ _ c.if-quantum-gt-MAX_QUANTUM.false) (le-ltb _ _ c.if-switch_cost-gt-MAX_SWITCH_COST.false)) (hit 11 _ _ c.if-s.true)

pub returns : goal.returns
unfolding timing_refusal bad_timing
returns c = pass 1 _ _ _ (or-none _ _ (le-ltb _ _ c.if-quantum-gt-MAX_QUANTUM.false) (le-ltb _ _ c.if-switch_cost-gt-MAX_SWITCH_COST.false)) (pass 11 _ _ _ c.if-s.false refl)
