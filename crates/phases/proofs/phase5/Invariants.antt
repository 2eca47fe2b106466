-- `phases::phase5` meets its contract. Assumes nothing.
use Prim.Native.Nat.{◌*◌, ◌-◌, ◌≤◌}
use mathlib.Core.Path.{◌≡◌}
use mathlib.Core.Bool.{Bool}
use mathlib.Core.List.{List}
use lib.ListN.{length}
use Rattle.model.specs.Phases
use Rattle.queue.specs.Words.{made, Appended, NoLonger, StillLent}
use Rattle.queue.specs.Ready.{waiting}
use Rattle.turns.specs.Turns.{rules_meant}
use Rattle.phases.specs.Cores.{core_at, Ran}
use Rattle.phases.proofs.phase5.Given as goal

abbrev pub invariant-loop-i : goal.invariant-loop-i
invariant-loop-i l = (l.i ≤ l.n) × (length l.cs ≡ 8) × StillLent l.initial.queue.words l.queue.words × StillLent l.initial.moves.words l.moves.words × NoLonger l.initial.queue.len l.queue.len l.initial.queue.words.now l.queue.words.now × Appended (3 * l.i) l.initial.moves.count l.moves.count l.initial.moves.words.now l.moves.words.now × ((ex bl : List Bool) → Ran (Phases.phase5 (rules_meant l.rules)) l.i (core_at l.initial.cs ex bl l.initial.marks.yields l.initial.marks.progressed) (waiting l.initial.queue) (made l.initial.moves) (core_at l.cs ex bl l.marks.yields l.marks.progressed) (waiting l.queue) (made l.moves)) × ((l.marks.exits ≡ l.initial.marks.exits) × (l.marks.blocks ≡ l.initial.marks.blocks))

abbrev pub decreases-loop-i : goal.decreases-loop-i
decreases-loop-i l = 8 - l.i
