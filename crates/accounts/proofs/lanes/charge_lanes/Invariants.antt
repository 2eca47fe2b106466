use mathlib.Core.Path.{◌≡◌}
use lib.ListN.{length}
use Rattle.state.specs.State.{lane_start}
use Rattle.accounts.specs.Charging.{LanesCharged}
use Rattle.accounts.proofs.lanes.charge_lanes.Given as goal

abbrev pub invariant-loop-i : goal.invariant-loop-i
invariant-loop-i l = (length l.charged ≡ 8) × (l.start ≡ lane_start l.capacity l.i) × LanesCharged l.capacity l.i l.tick.0 l.states l.initial.lanes l.lanes l.initial.charged l.charged
