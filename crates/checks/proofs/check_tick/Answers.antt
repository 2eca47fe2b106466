use mathlib.Core.Path.{refl}
use borrow.Author.Tests.{le-leb, lt-leb}
use Rattle.checks.proofs.Ladder.{hit, pass}
use Rattle.model.specs.Calls.{limit_now}
use Rattle.checks.specs.Check.{tick_refusal}
use Rattle.checks.proofs.check_tick.Goals as goal

pub returns-then-s : goal.returns-then-s
unfolding tick_refusal
returns-then-s c = hit 11 _ _ c.if-s.true

pub returns-then-s-ge-LIMIT : goal.returns-then-s-ge-LIMIT
unfolding tick_refusal limit_now
returns-then-s-ge-LIMIT c = pass 11 _ _ _ c.if-s.false (hit 18 _ _ (le-leb _ _ c.if-s-ge-LIMIT.true))

pub returns : goal.returns
unfolding tick_refusal limit_now
returns c = pass 11 _ _ _ c.if-s.false (pass 18 _ _ _ (lt-leb _ _ c.if-s-ge-LIMIT.false) refl)
