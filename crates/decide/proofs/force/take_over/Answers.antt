use Prim.Native.Nat.{ℕ}
use mathlib.Core.Path.{ap, ◌∙◌}
use mathlib.Core.List.{◌++◌}
use Rattle.model.specs.Reading.{core_state_meant}
use Rattle.model.specs.Phases.{dispatch_moves}
use Rattle.queue.specs.Words.{made}
use Rattle.queue.specs.Ready.{waiting, remove_at}
use Rattle.decide.proofs.Forcing.{idle-queue, idle-moves, running-queue, running-moves}
use Rattle.decide.proofs.force.take_over.Goals as goal

pub returns-in-Idle-clause-left : goal.returns-in-Idle-clause-left
returns-in-Idle-clause-left c = idle-queue (core_state_meant c.args.s) (remove_at c.args.at (waiting c.args.queue.now)) _ (ap core_state_meant c.in-Idle.is) c.take_at-next.ensures.left

pub returns-in-Idle-clause-moves : goal.returns-in-Idle-clause-moves
returns-in-Idle-clause-moves c =
    let m = made c.args.moves.now in
    idle-moves (core_state_meant c.args.s) c.args.core.0 _ m _ (ap core_state_meant c.in-Idle.is) (c.dispatch.ensures.moves ∙ ap (λ (h : ℕ). m ++ dispatch_moves c.args.cost h c.args.core.0) c.take_at-next.ensures.thread)

pub returns-in-Running-clause-left : goal.returns-in-Running-clause-left
returns-in-Running-clause-left c = running-queue (core_state_meant c.args.s) _ _ (remove_at c.args.at (waiting c.args.queue.now)) _ (ap core_state_meant c.in-Running.is) c.swap.ensures.swapped.queue

pub returns-in-Running-clause-moves : goal.returns-in-Running-clause-moves
returns-in-Running-clause-moves c = running-moves (core_state_meant c.args.s) _ _ c.args.core.0 _ (made c.args.moves.now) _ (ap core_state_meant c.in-Running.is) c.swap.ensures.swapped.moves
