-- `phases::phase3` meets its contract. Assumes nothing.
use Prim.Native.Nat.{◌-◌, ◌≤◌}
use mathlib.Core.Path.{◌≡◌}
use mathlib.Core.Bool.{Bool}
use mathlib.Core.List.{List}
use lib.ListN.{length}
use Rattle.model.specs.Phases
use Rattle.queue.specs.Words.{made, Appended, NoLonger, StillLent}
use Rattle.queue.specs.Ready.{waiting}
use Rattle.phases.specs.Cores.{core_at, Ran}
use Rattle.phases.proofs.phase3.Given as goal

abbrev pub invariant-loop-i : goal.invariant-loop-i
invariant-loop-i l = (l.i ≤ l.n) × (length l.cs ≡ 8) × StillLent l.initial.queue.words l.queue.words × StillLent l.initial.moves.words l.moves.words × NoLonger l.initial.queue.len l.queue.len l.initial.queue.words.now l.queue.words.now × Appended l.i l.initial.moves.count l.moves.count l.initial.moves.words.now l.moves.words.now × ((pr : List Bool) → Ran Phases.phase3 l.i (core_at l.initial.cs l.initial.marks.exits l.initial.marks.blocks l.initial.marks.yields pr) (waiting l.initial.queue) (made l.initial.moves) (core_at l.cs l.marks.exits l.marks.blocks l.marks.yields pr) (waiting l.queue) (made l.moves)) × (l.marks.progressed ≡ l.initial.marks.progressed)

abbrev pub decreases-loop-i : goal.decreases-loop-i
decreases-loop-i l = 8 - l.i
