-- The calls so far were made, and left what stands there.
use Rattle.std.proofs.Common.{map, take}
use Rattle.state.specs.Memory.{held, SameLoans}
use Rattle.sched.specs.Meant.{call_meant}
use Rattle.replay.specs.Replay.{AppliedAll}
use Rattle.replay.proofs.apply_all.Given as goal

abbrev pub invariant-loop-call : goal.invariant-loop-call
invariant-loop-call l = AppliedAll (map call_meant (take l.call-index l.calls)) l.fn.first l.last (held l.fn.m) (held l.m) × SameLoans l.fn.m l.m
