use Prim.Native.Nat.{◌≤◌, ◌<◌}
use mathlib.Core.Path.{◌≡◌}
use mathlib.Core.Bool.{true}
use lib.ListN.{length, set}
use Rattle.sched_marks.proofs.marks.with_mark.Given as goal

abbrev pub invariant-loop-k : goal.invariant-loop-k
invariant-loop-k l = (length l.mark-items ≡ 8) × (l.i < l.k → l.mark-items ≡ set l.initial.mark-items l.i true) × (l.k ≤ l.i → l.mark-items ≡ l.initial.mark-items)
