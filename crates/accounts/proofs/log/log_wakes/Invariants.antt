use mathlib.Core.Path.{◌≡◌}
use lib.ListN.{length, take}
use Rattle.rings.specs.Ring.{capacity, RingOK, Behind}
use Rattle.rings.specs.Events.{events_in}
use Rattle.accounts.specs.Log.{woken_log}
use Rattle.accounts.proofs.log.log_wakes.Given as goal

abbrev pub invariant-loop-waiter : goal.invariant-loop-waiter
invariant-loop-waiter l = (length l.ring ≡ length l.initial.ring) × RingOK l.ring l.p × (events_in l.ring l.p ≡ woken_log (capacity l.initial.ring) l.tick.0 (take l.waiter-index l.waiter-items) (events_in l.initial.ring l.initial.p)) × Behind l.initial.ring l.ring l.initial.p l.p
