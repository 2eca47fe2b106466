use mathlib.Core.Path.{refl}
use borrow.Author.Tests.{le-leb, lt-leb}
use Rattle.checks.proofs.Ladder.{hit, pass}
use Rattle.checks.specs.Check.{priority_refusal}
use Rattle.checks.proofs.check_priority.Goals as goal

pub returns-then-s-t : goal.returns-then-s-t
unfolding priority_refusal
returns-then-s-t c = hit 5 _ _ (le-leb _ _ c.if-s-t.true)

pub returns-then-s : goal.returns-then-s
unfolding priority_refusal
returns-then-s c = pass 5 _ _ _ (lt-leb _ _ c.if-s-t.false) (hit 11 _ _ c.if-s.true)

pub returns : goal.returns
unfolding priority_refusal
returns c = pass 5 _ _ _ (lt-leb _ _ c.if-s-t.false) (pass 11 _ _ _ c.if-s.false refl)
