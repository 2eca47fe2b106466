-- `phases::phase4` meets its contract. Assumes nothing.
use Prim.Native.Nat.{ℕ, ◌*◌, ◌-◌, ◌≤◌}
use mathlib.Core.Path.{◌≡◌}
use mathlib.Core.Bool.{Bool}
use mathlib.Core.List.{List}
use lib.ListN.{length}
use Rattle.model.specs.Phases
use Rattle.queue.specs.Words.{made, Appended, NoLonger, StillLent}
use Rattle.queue.specs.Ready.{waiting}
use Rattle.turns.specs.Turns.{with_quantum}
use Rattle.phases.specs.Cores.{core_at, Ran}
use Rattle.phases.proofs.phase4.Given as goal

abbrev pub invariant-loop-i : goal.invariant-loop-i
invariant-loop-i l = (l.i ≤ l.n) × (length l.cs ≡ 8) × StillLent l.initial.queue.words l.queue.words × StillLent l.initial.moves.words l.moves.words × NoLonger l.initial.queue.len l.queue.len l.initial.queue.words.now l.queue.words.now × Appended (2 * l.i) l.initial.moves.count l.moves.count l.initial.moves.words.now l.moves.words.now × ((u : ℕ) (ex bl yi : List Bool) → Ran (Phases.phase4 (with_quantum l.rules u)) l.i (core_at l.initial.cs ex bl yi l.initial.progressed) (waiting l.initial.queue) (made l.initial.moves) (core_at l.cs ex bl yi l.progressed) (waiting l.queue) (made l.moves))

abbrev pub decreases-loop-i : goal.decreases-loop-i
decreases-loop-i l = 8 - l.i
