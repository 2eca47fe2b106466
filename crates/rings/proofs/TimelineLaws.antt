-- Segments in words: what was written is what is read; and how a timeline grows at its end.
use mathlib.Core.Path.{◌≡◌, refl, sym, ap, ◌∙◌}
use mathlib.Core.Bool.{Bool, true, false, cond, ◌&&◌}
use mathlib.Core.Option.{some}
use mathlib.Core.List.{List, [], ◌∷◌, ◌++◌, map, map-append, append_assoc}
use Prim.Native.Nat.{ℕ, ◌+◌, ◌*◌, ◌/◌, ◌%◌, ◌<◌, ◌≤◌}
use native.Mathlib.Omega.{arith}
use borrow.Author.Tests.{eqb-true}
use lib.Dec.{eqb}
use lib.ListN.{length, length-map, set, get_or, get_elem?}
use Rattle.model.specs.Types.{Lane, IdleLane, SwitchLane, RunLane, Segment}
use Rattle.model.specs.Accounting.{newest, grown, same_lane}
use Rattle.model.proofs.PhaseLaws.{not-both, and_l, and_r}
use Rattle.rings.specs.declared.RingPos.{RingPos}
use Rattle.rings.specs.declared.ring.Entry.{Entry}
use Rattle.rings.specs.Ring.{entry_at, capacity, entries_in, RingOK, Behind}
use Rattle.rings.specs.Timeline.{lane_from, lane_code, lane_tid, segment_from, segments_in}
use Rattle.rings.proofs.RingLaws.{newest-read, element-read, newest-short}
use Rattle.rings.proofs.EntryLaws.{older_in, entries_none, entries-count, entries-last, rewritten}

---- lanes

pub lane-written : (l : Lane) → lane_from (lane_code l) (lane_tid l) ≡ l
lane-written IdleLane = refl
lane-written (SwitchLane t) = refl
lane-written (RunLane t) = refl

same-lane : (l m : Lane) → same_lane l m ≡ true → l ≡ m
unfolding same_lane
same-lane IdleLane IdleLane q = refl
same-lane IdleLane (SwitchLane u) q = absurd (not-both false q refl)
same-lane IdleLane (RunLane u) q = absurd (not-both false q refl)
same-lane (SwitchLane t) IdleLane q = absurd (not-both false q refl)
same-lane (SwitchLane t) (RunLane u) q = absurd (not-both false q refl)
same-lane (RunLane t) IdleLane q = absurd (not-both false q refl)
same-lane (RunLane t) (SwitchLane u) q = absurd (not-both false q refl)
same-lane (SwitchLane t) (SwitchLane u) q = ap SwitchLane (eqb-true t u q)
same-lane (RunLane t) (RunLane u) q = ap RunLane (eqb-true t u q)

---- the test for growth

pub ends_at : (x : Bool) (a b : ℕ) → true ≡ (x && eqb a b) → a ≡ b
ends_at x a b q = eqb-true a b (and_r x (eqb a b) (sym q))

---- words

pub segment-packed :
    (lane : Lane) (start end t c : ℕ) → t ≡ lane_tid lane → t < 4_294_967_296 → c ≡ lane_code lane → c < 3
    → segment_from (record { first = end * 4_294_967_296 + t; second = start * 4 + c }) ≡ record { lane = lane; start = start; end = end }
segment-packed lane start end t c p l q h =
    let a : (end * 4_294_967_296 + t) / 4_294_967_296 ≡ end = omega arith in
    let b : (end * 4_294_967_296 + t) % 4_294_967_296 ≡ t = omega arith in
    let d : (start * 4 + c) / 4 ≡ start = omega arith in
    let e : (start * 4 + c) % 4 ≡ c = omega arith in
    rw (a, b, d, e, p, q, lane-written lane)

pub segment-written :
    (n : ℕ) (b b' : List ℕ) (p p' : RingPos) (e : Entry) (v : Segment) → entries_in b' p' ≡ newest n (entries_in b p ++ (e ∷ [])) → segment_from e ≡ v
    → segments_in b' p' ≡ newest n (segments_in b p ++ (v ∷ []))
unfolding segments_in
segment-written n b b' p p' e v q w = newest-read segment_from n (entries_in b p) (entries_in b' p') e q ∙ ap (λ (x : Segment). newest n (map segment_from (entries_in b p) ++ (x ∷ []))) w

pub segment-read : (b : List ℕ) (p : RingPos) (k : ℕ) (e : Entry) (v : Segment) → some e ≡ get_elem? (entries_in b p) k → v ≡ segment_from e → some v ≡ get_elem? (segments_in b p) k
unfolding segments_in
segment-read b p k e v q w = ap some w ∙ element-read segment_from (entries_in b p) k e q

-- the first word raised by 4_294_967_296
longer : (first second : ℕ) → segment_from (record { first = first + 4_294_967_296; second = second }) ≡ record { lane = lane_from (second % 4) (first % 4_294_967_296); start = second / 4; end = first / 4_294_967_296 + 1 }
longer first second =
    let a : (first + 4_294_967_296) / 4_294_967_296 ≡ first / 4_294_967_296 + 1 = omega arith in
    let b : (first + 4_294_967_296) % 4_294_967_296 ≡ first % 4_294_967_296 = omega arith in
    rw (a, b)

---- the definition's growth, at the end of a list

grown-last :
    (now : ℕ) (lane : Lane) (xs : List Segment) (g : Segment)
    → grown now lane (xs ++ (g ∷ []))
    ≡ xs ++ cond (same_lane g.lane lane && eqb g.end now) (record { lane = lane; start = g.start; end = now + 1 } ∷ []) (g ∷ record { lane = lane; start = now; end = now + 1 } ∷ [])
unfolding grown
grown-last now lane [] g = refl
grown-last now lane (x ∷ []) g = refl
grown-last now lane (x ∷ (y ∷ xs)) g = ap (λ (l : List Segment). x ∷ l) (grown-last now lane (y ∷ xs) g)

-- an empty timeline
pub begins-first : (b : List ℕ) (p : RingPos) (now : ℕ) (lane : Lane) → p.len ≡ 0 → segments_in b p ++ (record { lane = lane; start = now; end = now + 1 } ∷ []) ≡ grown now lane (segments_in b p)
unfolding segments_in grown
begins-first b p now lane z = rw (entries_none b p z)

module _ (b : List ℕ) (p : RingPos) (now : ℕ) (lane : Lane) (ok : RingOK b p) (l : 0 < p.len) where
  older : List Segment
  older = map segment_from (older_in b p ok)

  split : segments_in b p ≡ older ++ (segment_from (entry_at b p.last) ∷ [])
  unfolding segments_in older
  split = ap (map segment_from) (entries-last b p ok l) ∙ map-append segment_from (older_in b p ok) (entry_at b p.last ∷ [])

  -- the last segment has another lane or another end
  pub begins-next : false ≡ (same_lane (segment_from (entry_at b p.last)).lane lane && eqb (segment_from (entry_at b p.last)).end now)
      → segments_in b p ++ (record { lane = lane; start = now; end = now + 1 } ∷ []) ≡ grown now lane (segments_in b p)
  begins-next q =
      let g = segment_from (entry_at b p.last) in
      let e : Segment = record { lane = lane; start = now; end = now + 1 } in
      ap (λ (m : List Segment). m ++ (e ∷ [])) split ∙ append_assoc older (g ∷ []) (e ∷ []) ∙
      sym (ap (grown now lane) split ∙ grown-last now lane older g ∙ ap (λ (t : Bool). older ++ cond t (record { lane = lane; start = g.start; end = now + 1 } ∷ []) (g ∷ e ∷ [])) (sym q))

  -- it has this lane and ends here: one tick longer
  pub grows : true ≡ (same_lane (segment_from (entry_at b p.last)).lane lane && eqb (segment_from (entry_at b p.last)).end now)
      → RingOK (set b (p.last * 2) (get_or b (p.last * 2) 0 + 4_294_967_296)) p
      × ((segments_in (set b (p.last * 2) (get_or b (p.last * 2) 0 + 4_294_967_296)) p ≡ newest (capacity b) (grown now lane (segments_in b p)))
      × Behind b (set b (p.last * 2) (get_or b (p.last * 2) 0 + 4_294_967_296)) p p)
  unfolding segments_in older
  grows q =
      let g = segment_from (entry_at b p.last) in
      let w = get_or b (p.last * 2) 0 + 4_294_967_296 in
      let e : Segment = record { lane = lane; start = g.start; end = now + 1 } in
      let r = rewritten b p ok w l in
      let same : g.lane ≡ lane = same-lane g.lane lane (and_l (same_lane g.lane lane) (eqb g.end now) (sym q)) in
      let end : g.end ≡ now = ends_at (same_lane g.lane lane) g.end now q in
      let new : segment_from (record { first = w; second = get_or b (p.last * 2 + 1) 0 }) ≡ e = longer (get_or b (p.last * 2) 0) (get_or b (p.last * 2 + 1) 0) ∙ rw (same, end) in
      let made : segments_in (set b (p.last * 2) w) p ≡ older ++ (e ∷ []) = ap (map segment_from) r.entries ∙ map-append segment_from (older_in b p ok) _ ∙ ap (λ (x : Segment). older ++ (x ∷ [])) new in
      let size : length (segments_in (set b (p.last * 2) w) p) ≡ p.len = length-map (entries_in (set b (p.last * 2) w) p) segment_from ∙ entries-count (set b (p.last * 2) w) p r.valid in
      let fits : length (older ++ (e ∷ [])) ≤ capacity b = omega (arith, ap length made, ok.within) in
      let def : grown now lane (segments_in b p) ≡ older ++ (e ∷ []) = ap (grown now lane) split ∙ grown-last now lane older g ∙ ap (λ (t : Bool). older ++ cond t (e ∷ []) (g ∷ record { lane = lane; start = now; end = now + 1 } ∷ [])) (sym q) in
      (r.valid, (made ∙ sym (ap (newest (capacity b)) def ∙ newest-short (capacity b) (older ++ (e ∷ [])) fits), r.behind))

---- for callers

-- an empty ring is an empty timeline
pub segments-none : (b : List ℕ) (p : RingPos) → p.len ≡ 0 → segments_in b p ≡ []
unfolding segments_in
segments-none b p z = rw (entries_none b p z)

pub segments-count : (b : List ℕ) (p : RingPos) → RingOK b p → length (segments_in b p) ≡ p.len
unfolding segments_in
segments-count b p ok = length-map (entries_in b p) segment_from ∙ entries-count b p ok
