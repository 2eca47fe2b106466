use Rattle.model.specs.Accounting.{charge_threads}
use Rattle.charges.specs.Charging.{cores_meant}
use Rattle.threads.specs.Slice.{threads_in, Front}
use Rattle.threads.proofs.charge_all.Given as goal

-- of the part, the first i are charged
abbrev pub invariant-loop-i : goal.invariant-loop-i
invariant-loop-i l = Front l.i (charge_threads (cores_meant l.fn.cores) 0 (threads_in l.initial.t-items l.i)) l.initial.t-items l.t-items
