-- An event in two words: tick and thread in the first, the kind's code and its number in the second.
use Rattle.std.specs.Prelude.{ℕ, zero, suc, ◌/◌, ◌%◌, cond, eqb, List, [], ◌∷◌, map}
use Rattle.std.proofs.Math.Option.{none, some}
use Rattle.model.specs.Types.{LeaveReason, Exit, Block, Yield, Quantum, Preempt, Forced, EventKind, Spawned, Dispatched, Departed, Woken, Reprioritised, Event}
use Rattle.model.specs.Reasons.{reason_code}
use Rattle.rings.specs.declared.RingPos.{RingPos}
use Rattle.rings.specs.declared.ring.Entry.{Entry}
use Rattle.rings.specs.Ring.{entries_in}

abbrev pub reason_among : (code : ℕ) → List LeaveReason → LeaveReason
reason_among code [] = Forced
reason_among code (r ∷ rs) = cond (eqb (reason_code r) code) r (reason_among code rs)

-- the reason with this code; a code that no reason has is read as the last one's
abbrev pub reason_from : (code : ℕ) → LeaveReason
reason_from code = reason_among code (Exit ∷ Block ∷ Yield ∷ Quantum ∷ Preempt ∷ [])

-- 0 and 1 a spawn without and with a parent, 2 a dispatch, 3 a wake, 4 a priority change, from 5 on a leave by its reason
abbrev pub kind_from : (code value : ℕ) → EventKind
kind_from zero v = Spawned none
kind_from (suc zero) v = Spawned (some v)
kind_from (suc (suc zero)) v = Dispatched v
kind_from (suc (suc (suc zero))) v = Woken
kind_from (suc (suc (suc (suc zero)))) v = Reprioritised v
kind_from (suc (suc (suc (suc (suc n))))) v = Departed v (reason_from n)

abbrev pub kind_in : (second : ℕ) → EventKind
kind_in w = kind_from (w % 16) (w / 16 % 4_294_967_296)

abbrev pub event_from : Entry → Event
event_from e = record { tick = e.first / 4_294_967_296; tid = e.first % 4_294_967_296; kind = kind_in e.second }

-- the events in a ring, oldest first
unfoldable pub events_in : List ℕ → RingPos → List Event
events_in b p = map event_from (entries_in b p)
