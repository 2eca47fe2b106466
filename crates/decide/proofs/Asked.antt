-- The place that `place_asked` finds, in the words of the call: who takes the core, and whether the call is refused.
-- Assumes nothing.
use Prim.Native.Nat.{ℕ, ◌≤◌, ◌<◌}
use mathlib.Core.Path.{◌≡◌, sym}
use mathlib.Core.Option.{Option, none, some}
use lib.ListN.{length, get_or}
use Rattle.model.specs.Types.{State}
use Rattle.model.specs.Phases.{pick_next}
use Rattle.model.specs.Calls.{rules, tid_of, taken_by, check, cannot_take}
use Rattle.queue.specs.Ready.{Picked}
use Rattle.queue.proofs.Scan.{behind, there}
use Rattle.queue.proofs.Search.{named-waits, named-absent}
use Rattle.decide.specs.Forced.{asked, absent}

module _ (s : State) (i : ℕ) (at : ℕ) where
  pub taken_at : (n : Option ℕ) → Picked (asked s.config.policy (rules s).prio n s.queue) s.queue at → at < length s.queue → taken_by s i n ≡ get_or s.queue at 0
  unfolding taken_by tid_of pick_next rules
  taken_at none p l = rw (p.next, there s.queue at l)
  taken_at (some t) p l = sym (named-waits t s.queue at p l).1

  pub can-take : (n r : Option ℕ) → Picked (asked s.config.policy (rules s).prio n s.queue) s.queue at → at < length s.queue → cannot_take s i n r ≡ r
  unfolding cannot_take check pick_next rules
  can-take none r p l = rw (p.next, there s.queue at l)
  can-take (some t) r p l = rw (named-waits t s.queue at p l).0

  pub cannot-take : (n r : Option ℕ) → Picked (asked s.config.policy (rules s).prio n s.queue) s.queue at → length s.queue ≤ at → cannot_take s i n r ≡ some (absent n)
  unfolding cannot_take check pick_next rules
  cannot-take none r p l = rw (p.next, behind s.queue at l)
  cannot-take (some t) r p l = rw (named-absent t s.queue at p l)
