-- Every core before this one reported.
use Rattle.ticking.proofs.Running.{Reported}
use Rattle.ticking.proofs.retired_all.Given as goal

abbrev pub invariant-loop-core : goal.invariant-loop-core
invariant-loop-core l = Reported l.initial.next l.core l.next
