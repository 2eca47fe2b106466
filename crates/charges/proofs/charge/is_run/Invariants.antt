use Rattle.std.proofs.Common.{◌≡◌, take}
use Rattle.charges.specs.Charging.{runs_held}
use Rattle.charges.proofs.charge.is_run.Given as goal

abbrev pub invariant-loop-k : goal.invariant-loop-k
invariant-loop-k l = l.found ≡ runs_held l.tid (take l.k l.word-items) (take l.k l.running)
