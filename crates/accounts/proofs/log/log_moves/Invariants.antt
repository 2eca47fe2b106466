use mathlib.Core.Path.{◌≡◌}
use lib.ListN.{length}
use Rattle.queue.specs.Words.{moves_in}
use Rattle.rings.specs.Ring.{capacity, RingOK, Behind}
use Rattle.rings.specs.Events.{events_in}
use Rattle.accounts.specs.Log.{moved_log}
use Rattle.accounts.proofs.log.log_moves.Given as goal

abbrev pub invariant-loop-k : goal.invariant-loop-k
invariant-loop-k l = (length l.ring ≡ length l.initial.ring) × RingOK l.ring l.p × (events_in l.ring l.p ≡ moved_log (capacity l.initial.ring) l.tick.0 (moves_in l.moves l.k) (events_in l.initial.ring l.initial.p)) × Behind l.initial.ring l.ring l.initial.p l.p
