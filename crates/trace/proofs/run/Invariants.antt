use Rattle.state.specs.Memory.{held, SameLoans}
use Rattle.state.specs.State.{Valid}
use Rattle.trace.proofs.run.Given as goal

abbrev pub invariant-loop : goal.invariant-loop
invariant-loop l = Valid l.s (held l.m) × SameLoans l.fn.m l.m
