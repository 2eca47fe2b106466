-- `preempt::preempt_rounds` meets its contract. Assumes nothing.
use Prim.Native.Nat.{ℕ, ◌*◌, ◌-◌, ◌≤◌}
use mathlib.Core.Path.{◌≡◌}
use mathlib.Core.Bool.{Bool}
use mathlib.Core.List.{List}
use lib.ListN.{length}
use Rattle.settings.specs.declared.SchedPolicy.{SchedPolicy}
use Rattle.model.specs.Phases.{preempt_rounds}
use Rattle.queue.specs.Words.{made, Appended, NoLonger, StillLent}
use Rattle.queue.specs.Ready.{waiting}
use Rattle.turns.specs.Turns.{rules_of}
use Rattle.phases.specs.Cores.{core_at, pass_of}
use Rattle.preempt.proofs.preempt_rounds.Given as goal

abbrev pub invariant-loop-round : goal.invariant-loop-round
invariant-loop-round l = (length l.cs ≡ 8) × StillLent l.initial.queue.words l.queue.words × StillLent l.initial.moves.words l.moves.words × NoLonger l.initial.queue.len l.queue.len l.initial.queue.words.now l.queue.words.now × Appended (3 * l._round) l.initial.moves.count l.moves.count l.initial.moves.words.now l.moves.words.now ×
    ((policy : SchedPolicy) (u : ℕ) (ex bl yi : List Bool) → preempt_rounds (rules_of policy u l.rules.cost l.rules.prios.now) (l.n - l._round) (pass_of l.n (core_at l.cs ex bl yi l.progressed) (waiting l.queue) (made l.moves)) ≡ preempt_rounds (rules_of policy u l.rules.cost l.rules.prios.now) l.n (pass_of l.n (core_at l.initial.cs ex bl yi l.initial.progressed) (waiting l.initial.queue) (made l.initial.moves))) ×
    ((ex bl yi : List Bool) (j : ℕ) → l.n ≤ j → core_at l.cs ex bl yi l.progressed j ≡ core_at l.initial.cs ex bl yi l.initial.progressed j)
