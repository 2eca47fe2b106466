-- Events in words: what was written is what is read.
use mathlib.Core.Path.{◌≡◌, ap, ◌∙◌}
use mathlib.Core.Option.{some}
use mathlib.Core.List.{List, [], ◌∷◌, ◌++◌, map}
use Prim.Native.Nat.{ℕ, ◌+◌, ◌*◌, ◌/◌, ◌%◌, ◌<◌}
use native.Mathlib.Omega.{arith}
use lib.ListN.{length, length-map, get_elem?}
use Rattle.model.specs.Types.{Event}
use Rattle.model.specs.Accounting.{newest}
use Rattle.rings.specs.declared.RingPos.{RingPos}
use Rattle.rings.specs.declared.ring.Entry.{Entry}
use Rattle.rings.specs.Ring.{entries_in, RingOK}
use Rattle.rings.specs.Events.{kind_in, event_from, events_in}
use Rattle.rings.proofs.RingLaws.{newest-read, element-read}
use Rattle.rings.proofs.EntryLaws.{entries_none, entries-count}

pub event-packed : (tick tid w : ℕ) → tid < 4_294_967_296 → event_from (record { first = tick * 4_294_967_296 + tid; second = w }) ≡ record { tick = tick; tid = tid; kind = kind_in w }
event-packed tick tid w l =
    let a : (tick * 4_294_967_296 + tid) / 4_294_967_296 ≡ tick = omega arith in
    let b : (tick * 4_294_967_296 + tid) % 4_294_967_296 ≡ tid = omega arith in
    rw (a, b)

pub event-written :
    (n : ℕ) (b b' : List ℕ) (p p' : RingPos) (e : Entry) (v : Event) → entries_in b' p' ≡ newest n (entries_in b p ++ (e ∷ [])) → event_from e ≡ v
    → events_in b' p' ≡ newest n (events_in b p ++ (v ∷ []))
unfolding events_in
event-written n b b' p p' e v q w = newest-read event_from n (entries_in b p) (entries_in b' p') e q ∙ ap (λ (x : Event). newest n (map event_from (entries_in b p) ++ (x ∷ []))) w

pub event-read : (b : List ℕ) (p : RingPos) (k : ℕ) (e : Entry) (v : Event) → some e ≡ get_elem? (entries_in b p) k → v ≡ event_from e → some v ≡ get_elem? (events_in b p) k
unfolding events_in
event-read b p k e v q w = ap some w ∙ element-read event_from (entries_in b p) k e q

---- for callers

-- an empty ring is an empty log
pub events-none : (b : List ℕ) (p : RingPos) → p.len ≡ 0 → events_in b p ≡ []
unfolding events_in
events-none b p z = rw (entries_none b p z)

pub events-count : (b : List ℕ) (p : RingPos) → RingOK b p → length (events_in b p) ≡ p.len
unfolding events_in
events-count b p ok = length-map (entries_in b p) event_from ∙ entries-count b p ok
