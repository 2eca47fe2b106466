-- `phases::phase1` meets its contract. Assumes nothing.
use Prim.Native.Nat.{ℕ, ◌-◌, ◌≤◌}
use mathlib.Core.Path.{◌≡◌}
use mathlib.Core.Bool.{Bool}
use mathlib.Core.List.{List}
use lib.ListN.{length}
use Rattle.model.specs.Types.{Move}
use Rattle.model.specs.Phases
use Rattle.phases.specs.Cores.{core_at, Ran}
use Rattle.phases.proofs.phase1.Given as goal

abbrev pub invariant-loop-i : goal.invariant-loop-i
invariant-loop-i l = (l.i ≤ l.n) × (length l.cs ≡ 8) × ((ex bl yi pr : List Bool) (q : List ℕ) (m : List Move) → Ran Phases.phase1 l.i (core_at l.initial.cs ex bl yi pr) q m (core_at l.cs ex bl yi pr) q m)

abbrev pub decreases-loop-i : goal.decreases-loop-i
decreases-loop-i l = 8 - l.i
