use mathlib.Core.Path.{◌≡◌, ap, ◌∙◌}
use lib.ListN.{length}
use Rattle.model.specs.Types.{Lane}
use Rattle.model.specs.Accounting.{newest, grown}
use Rattle.rings.specs.Ring.{capacity}
use Rattle.rings.specs.Timeline.{segments_in}
use Rattle.accounts.specs.Charging.{part}
use Rattle.accounts.proofs.Timelines.{part-charged, part-outside}
use Rattle.accounts.proofs.lanes.charge_part.Goals as goal

pub returns : goal.returns
returns c =
    let b = part c.args.start c.args.end c.args.lanes.now in
    let lane = ap (λ (l : Lane). newest (capacity b) (grown c.args.tick.0 l (segments_in b c.args.pos))) c.lane.ensures in
    let z : length c.charge_lane.new.ring ≡ length b = c.lanes-1.given.0 in
    record {
      charged = part-charged c.args.start c.args.end c.args.lanes.now c.charge_lane.new.ring c.args.pos c.charge_lane.result c.requires.0 c.requires.1 z (record { ok = c.charge_lane.ensures.ok; segments = c.charge_lane.ensures.segments ∙ lane; behind = c.charge_lane.ensures.behind });
      outside = part-outside c.args.start c.args.end c.args.lanes.now c.charge_lane.new.ring c.requires.0 c.requires.1 z;
    }
