use borrow.Author.Rules.{rules}
use native.Mathlib.Omega.{arith}
use mathlib.Core.Path.{◌≡◌}
use lib.ListN.{length}
use Rattle.rings.proofs.EventLaws.{events-none}
use Rattle.new_plan.proofs.Parts.{first-events}
use Rattle.new_plan.proofs.push_first.Goals as goal

pub returns : goal.returns
returns c =
    let z : length c.push_event-next.new.ring ≡ length c.args.ring.now = search rules in
    record {
      ok = c.push_event.ensures.ok;
      events = first-events (length c.args.ring.now) (length c.push_event-next.new.ring) _ _ _ (omega (arith, c.requires.0.inside)) z (events-none c.args.ring.now c.args.pos c.requires.1) c.push_event-next.ensures.events c.push_event.ensures.events;
    }
