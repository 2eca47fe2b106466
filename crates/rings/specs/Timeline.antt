-- A segment in two words: end and thread in the first, start and lane in the second. So a segment that grows changes the first word only.
use Rattle.std.specs.Prelude.{ℕ, zero, suc, ◌/◌, ◌%◌, List, map}
use Rattle.model.specs.Types.{Lane, IdleLane, SwitchLane, RunLane, Segment}
use Rattle.rings.specs.declared.RingPos.{RingPos}
use Rattle.rings.specs.declared.ring.Entry.{Entry}
use Rattle.rings.specs.Ring.{entries_in}

abbrev pub lane_from : (code tid : ℕ) → Lane
lane_from zero t = IdleLane
lane_from (suc zero) t = SwitchLane t
lane_from (suc (suc n)) t = RunLane t

abbrev pub lane_code : Lane → ℕ
lane_code IdleLane = 0
lane_code (SwitchLane t) = 1
lane_code (RunLane t) = 2

abbrev pub lane_tid : Lane → ℕ
lane_tid IdleLane = 0
lane_tid (SwitchLane t) = t
lane_tid (RunLane t) = t

abbrev pub segment_from : Entry → Segment
segment_from e = record { lane = lane_from (e.second % 4) (e.first % 4_294_967_296); start = e.second / 4; end = e.first / 4_294_967_296 }

-- the segments in a ring, oldest first
unfoldable pub segments_in : List ℕ → RingPos → List Segment
segments_in b p = map segment_from (entries_in b p)
