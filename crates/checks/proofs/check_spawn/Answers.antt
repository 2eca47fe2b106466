use mathlib.Core.Path.{refl}
use borrow.Author.Tests.{le-leb, lt-leb}
use Rattle.checks.proofs.Ladder.{hit, pass}
use Rattle.checks.specs.Check.{spawn_refusal}
use Rattle.checks.proofs.check_spawn.Goals as goal

pub returns-then-s : goal.returns-then-s
unfolding spawn_refusal
returns-then-s c = hit 11 _ _ c.if-s.true

pub returns-then-s-2 : goal.returns-then-s-2
unfolding spawn_refusal
returns-then-s-2 c = pass 11 _ _ _ c.if-s.false (hit 17 _ _ (le-leb _ _ c.if-s-2.true))

pub returns : goal.returns
unfolding spawn_refusal
returns c = pass 11 _ _ _ c.if-s.false (pass 17 _ _ _ (lt-leb _ _ c.if-s-2.false) refl)
