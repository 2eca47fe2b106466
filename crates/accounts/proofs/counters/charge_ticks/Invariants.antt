use mathlib.Core.Path.{◌≡◌}
use lib.ListN.{length}
use Rattle.accounts.specs.Charging.{TicksCharged}
use Rattle.accounts.proofs.counters.charge_ticks.Given as goal

abbrev pub invariant-loop-i : goal.invariant-loop-i
invariant-loop-i l = (length l.charged ≡ 8) × TicksCharged l.i l.states l.initial.charged l.charged
