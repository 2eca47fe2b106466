use Prim.Native.Nat.{◌+◌, ◌*◌}
use Rattle.model.specs.Types.{Segment}
use Rattle.model.specs.Reading.{lane_meant}
use Rattle.rings.specs.declared.ring.Entry.{Entry}
use Rattle.rings.specs.Ring.{capacity}
use Rattle.rings.proofs.TimelineLaws.{segment-packed, segment-written}
use Rattle.rings.proofs.timeline.begin_segment.Goals as goal

pub returns : goal.returns
returns c =
    let l = lane_meant c.args.lane in
    let e : Entry = record { first = (c.args.tick.0 + 1) * 4_294_967_296 + c.lane_tid.result; second = c.args.tick.0 * 4 + c.lane_code.result } in
    let v : Segment = record { lane = l; start = c.args.tick.0; end = c.args.tick.0 + 1 } in
    record {
      ok = c.push_entry.ensures.ok;
      segments = segment-written (capacity c.args.ring.now) c.args.ring.now c.push_entry.new.ring c.args.pos c.push_entry.result e v c.push_entry.ensures.entries (segment-packed l c.args.tick.0 (c.args.tick.0 + 1) c.lane_tid.result c.lane_code.result c.lane_tid.ensures.0 c.lane_tid.ensures.1 c.lane_code.ensures.0 c.lane_code.ensures.1);
      behind = c.push_entry.ensures.behind;
    }
