use native.Mathlib.Omega.{arith}
use Prim.Native.Nat.{ℕ}
use mathlib.Core.Path.{sym, ap, ◌∙◌, subst}
use mathlib.Core.List.{List}
use lib.ListN.{get_or, get_elem?}
use Rattle.model.specs.Types.{Segment}
use Rattle.rings.specs.Ring.{RingOK}
use Rattle.rings.specs.Timeline.{segments_in}
use Rattle.state.specs.State.{lane_words, no_pos}
use Rattle.questions.proofs.CoreLaws.{timeline-at, timeline-behind, segments-end, lane-fits, lane-ring, lane-part}
use Rattle.questions.proofs.lists.segment.Goals as goal

pub returns-then-s-i : goal.returns-then-s-i
returns-then-s-i c = λ m v r. ap (λ (l : List Segment). get_elem? l c.args.k) (sym (timeline-behind c.args.s m _ c.if-s-i.true))

pub returns-then-pos-k : goal.returns-then-pos-k
returns-then-pos-k c = λ m v r. segments-end c.args.s m _ v c.if-s-i.false _ c.if-pos-k.true

pub overflow_mul-words : goal.overflow_mul-words
overflow_mul-words c = omega (arith, lane-fits c.args.s c.args.lanes.now c.requires c.args.core.0 c.if-s-i.false)

pub overflow_mul-start : goal.overflow_mul-start
overflow_mul-start c = omega (arith, lane-fits c.args.s c.args.lanes.now c.requires c.args.core.0 c.if-s-i.false)

pub overflow_add-start : goal.overflow_add-start
overflow_add-start c = omega (arith, lane-fits c.args.s c.args.lanes.now c.requires c.args.core.0 c.if-s-i.false)

pub overflow_add-end : goal.overflow_add-end
overflow_add-end c = omega (arith, lane-fits c.args.s c.args.lanes.now c.requires c.args.core.0 c.if-s-i.false)

pub offset_bounds-lanes-start : goal.offset_bounds-lanes-start
offset_bounds-lanes-start c = omega (arith, lane-fits c.args.s c.args.lanes.now c.requires c.args.core.0 c.if-s-i.false)

pub slice_bounds-segment_at-end : goal.slice_bounds-segment_at-end
slice_bounds-segment_at-end c = omega (arith, lane-fits c.args.s c.args.lanes.now c.requires c.args.core.0 c.if-s-i.false)

pub segment_at-requires : goal.segment_at-requires
segment_at-requires c =
    let pos = get_or c.args.s.lanes c.args.core.0 no_pos in
    (subst (λ (l : List ℕ). RingOK l pos) (sym (lane-part c.args.s.capacities.segments c.args.core.0 c.args.lanes.now)) (lane-ring c.args.s c.args.lanes.now c.requires c.args.core.0 c.if-s-i.false), omega arith)

pub returns : goal.returns
returns c =
    λ m v r.
    let pos = get_or c.args.s.lanes c.args.core.0 no_pos in
    c.segment_at.ensures ∙
    ap (λ (l : List ℕ). get_elem? (segments_in l pos) c.args.k) (lane-part c.args.s.capacities.segments c.args.core.0 c.args.lanes.now ∙ ap (λ (l : List ℕ). lane_words c.args.s.capacities.segments c.args.core.0 l) (sym r)) ∙
    ap (λ (l : List Segment). get_elem? l c.args.k) (sym (timeline-at c.args.s m c.args.core.0 c.if-s-i.false))
