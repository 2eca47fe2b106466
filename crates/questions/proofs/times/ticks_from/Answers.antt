use Rattle.std.specs.Prelude.{None}
use native.Mathlib.Omega.{arith}
use mathlib.Core.Path.{ap}
use mathlib.Core.Option.{some}
use Rattle.model.specs.Questions.{passed}
use Rattle.questions.proofs.times.ticks_from.Goals as goal

pub returns-then-t-arrival : goal.returns-then-t-arrival
unfolding passed
returns-then-t-arrival c = rw c.in-Some.is (ap some (omega (arith, c.if-t-arrival.true)))

pub returns-in-None : goal.returns-in-None
unfolding passed
returns-in-None c = rw c.in-None.is

pub returns-else-t-arrival : goal.returns-else-t-arrival
unfolding passed
returns-else-t-arrival c = rw c.in-Some.is
