-- `phases::phase2` meets its contract. Assumes nothing.
use Prim.Native.Nat.{ℕ, ◌-◌, ◌≤◌}
use mathlib.Core.Path.{◌≡◌}
use mathlib.Core.Bool.{Bool}
use mathlib.Core.List.{List}
use lib.ListN.{length}
use Rattle.model.specs.Phases
use Rattle.queue.specs.Words.{made, Appended, StillLent}
use Rattle.phases.specs.Cores.{core_at, Ran}
use Rattle.phases.proofs.phase2.Given as goal

abbrev pub invariant-loop-i : goal.invariant-loop-i
invariant-loop-i l = (l.i ≤ l.n) × (length l.cs ≡ 8) × StillLent l.initial.moves.words l.moves.words × Appended l.i l.initial.moves.count l.moves.count l.initial.moves.words.now l.moves.words.now × ((ex bl yi pr : List Bool) (q : List ℕ) → Ran Phases.phase2 l.i (core_at l.initial.cs ex bl yi pr) q (made l.initial.moves) (core_at l.cs ex bl yi pr) q (made l.moves))

abbrev pub decreases-loop-i : goal.decreases-loop-i
decreases-loop-i l = 8 - l.i
