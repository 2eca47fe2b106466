use native.Mathlib.Omega.{arith}
use mathlib.Core.Path.{◌≡◌}
use Rattle.model.specs.Accounting.{switch_list}
use Rattle.queue.specs.Words.{moves_in, move_meant}
use Rattle.switches.proofs.Stored.{listed-none, none_touched, turn-same, turn-room, turn_more, listed-is}
use Rattle.switches.proofs.switch_list.Goals as goal
use Rattle.switches.proofs.switch_list.Goals.{in-Some, in_default}

pub loop-k-init : goal.loop-k-init
unfolding switch_list moves_in
loop-k-init c = listed-none

pub bounds-entries-at : goal.bounds-entries-at
bounds-entries-at c =
    turn-room _ c.loop-k.k (omega arith) _ _ _ c.loop-k.invariant (move_meant c.move_at-m.result) c.move_at-m.ensures _ c.in-Some.ensures.touched c.in-Some.ensures.on_board _ c.min-at.ensures

pub bounds-entries-at-in-Some : goal.bounds-entries-at-in-Some
bounds-entries-at-in-Some c =
    turn-room _ c.loop-k.k (omega arith) _ _ _ c.loop-k.invariant (move_meant c.move_at-m.result) c.move_at-m.ensures _ c.in-Some.ensures.touched c.in-Some.ensures.on_board _ c.min-at.ensures

pub loop-k-preserved : goal.loop-k-preserved
loop-k-preserved c =
    elim c.match-core_touched.branch [
      | in-Some w ↦
          rw (w.entries-is, w.places-is, w.count-is)
          (turn_more _ c.loop-k.k (omega arith) _ _ _ c.loop-k.invariant (move_meant c.move_at-m.result) c.move_at-m.ensures _ w.in-Some.ensures.touched w.in-Some.ensures.on_board _ w.min-at.ensures _ w.entry_after.ensures _ w.max-count.ensures)
      | in_default w ↦
          rw (w.entries-is, w.places-is, w.count-is)
          (turn-same _ c.loop-k.k (omega arith) _ _ _ c.loop-k.invariant (move_meant c.move_at-m.result) c.move_at-m.ensures _ c.core_touched.ensures.touched (none_touched _ w.in_default.not-Some))
    ]

pub returns : goal.returns
returns c =
    let e : c.loop-k.k ≡ c.args.n = omega arith in
    rw (← e) (listed-is _ _ _ _ c.loop-k.invariant)
