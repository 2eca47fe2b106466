use mathlib.Core.Path.{refl}
use borrow.Author.Tests.{le-leb, lt-leb}
use Rattle.checks.proofs.Ladder.{hit, pass}
use Rattle.checks.specs.Check.{retired_refusal}
use Rattle.checks.proofs.check_retired.Goals as goal

pub returns-then-s-i : goal.returns-then-s-i
unfolding retired_refusal
returns-then-s-i c = hit 4 _ _ (le-leb _ _ c.if-s-i.true)

pub returns-then-s : goal.returns-then-s
unfolding retired_refusal
returns-then-s c = pass 4 _ _ _ (lt-leb _ _ c.if-s-i.false) (hit 11 _ _ c.if-s.true)

pub returns : goal.returns
unfolding retired_refusal
returns c = pass 4 _ _ _ (lt-leb _ _ c.if-s-i.false) (pass 11 _ _ _ c.if-s.false refl)
