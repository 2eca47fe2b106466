use mathlib.Core.Path.{ap}
use Prim.Native.Nat.{◌/◌}
use Rattle.model.specs.Types.{Lane}
use Rattle.rings.proofs.TimelineLaws.{segment-read}
use Rattle.rings.proofs.timeline.segment_at.Goals as goal

pub returns : goal.returns
returns c =
    segment-read c.args.ring.now c.args.pos c.args.k c.entry_at-first.result _ c.entry_at-first.ensures (ap (λ (x : Lane). record { lane = x; start = c.entry_at-first.result.second / 4; end = c.entry_at-first.result.first / 4_294_967_296 }) c.lane_of.ensures)
