use native.Mathlib.Omega.{arith}
use mathlib.Core.Path.{◌≡◌, sym, ap, ◌∙◌}
use Prim.Native.Nat.{◌+◌, ◌*◌, ◌/◌, ◌%◌, ◌<◌}
use borrow.Author.Tests.{not-true, not-false}
use lib.ListN.{get_or}
use Rattle.model.specs.Accounting.{newest, same_lane}
use Rattle.model.specs.Reading.{lane_meant}
use Rattle.rings.specs.Ring.{capacity}
use Rattle.rings.specs.Timeline.{lane_from}
use Rattle.rings.proofs.TimelineLaws.{begins-first, begins-next, grows, ends_at}
use Rattle.rings.proofs.timeline.charge_lane.Goals as goal

pub returns-then-pos-eq0 : goal.returns-then-pos-eq0
returns-then-pos-eq0 c = record {
  ok = c.begin_segment.ensures.ok;
  segments = c.begin_segment.ensures.segments ∙ ap (newest (capacity c.args.ring.now)) (begins-first c.args.ring.now c.args.pos c.args.tick.0 (lane_meant c.args.lane) c.if-pos-eq0.true);
  behind = c.begin_segment.ensures.behind;
}

pub returns-then-not-continues : goal.returns-then-not-continues
returns-then-not-continues c =
    let l : 0 < c.args.pos.len = omega (arith, c.if-pos-eq0.false) in
    let next = begins-next c.args.ring.now c.args.pos c.args.tick.0 (lane_meant c.args.lane) c.requires.0 l (sym (not-true _ c.if-not-continues.true-raw) ∙ c.continues.ensures) in
    record {
      ok = c.begin_segment-then-not-continues.ensures.ok;
      segments = c.begin_segment-then-not-continues.ensures.segments ∙ ap (newest (capacity c.args.ring.now)) next;
      behind = c.begin_segment-then-not-continues.ensures.behind;
    }

pub overflow_add-ring : goal.overflow_add-ring
overflow_add-ring c =
    let w = get_or c.args.ring.now (c.args.pos.last * 2) 0 in
    let v = get_or c.args.ring.now (c.args.pos.last * 2 + 1) 0 in
    let q : w / 4_294_967_296 ≡ c.args.tick.0 = ends_at (same_lane (lane_from (v % 4) (w % 4_294_967_296)) (lane_meant c.args.lane)) (w / 4_294_967_296) c.args.tick.0 (sym (not-false _ c.if-not-continues.false-raw) ∙ c.continues.ensures) in
    omega (arith, c.requires.1)

pub returns : goal.returns
returns c =
    let l : 0 < c.args.pos.len = omega (arith, c.if-pos-eq0.false) in
    record {
      ok = (grows c.args.ring.now c.args.pos c.args.tick.0 (lane_meant c.args.lane) c.requires.0 l (sym (not-false _ c.if-not-continues.false-raw) ∙ c.continues.ensures)).0;
      segments = (grows c.args.ring.now c.args.pos c.args.tick.0 (lane_meant c.args.lane) c.requires.0 l (sym (not-false _ c.if-not-continues.false-raw) ∙ c.continues.ensures)).1.0;
      behind = (grows c.args.ring.now c.args.pos c.args.tick.0 (lane_meant c.args.lane) c.requires.0 l (sym (not-false _ c.if-not-continues.false-raw) ∙ c.continues.ensures)).1.1;
    }
