use native.Mathlib.Omega.{arith}
use mathlib.Core.Path.{ap, ◌∙◌}
use Prim.Native.Nat.{◌+◌, ◌*◌}
use Rattle.model.specs.Types.{EventKind}
use Rattle.model.specs.Reading.{event_meant}
use Rattle.rings.specs.declared.ring.Entry.{Entry}
use Rattle.rings.specs.Ring.{capacity}
use Rattle.rings.proofs.EventLaws.{event-packed, event-written}
use Rattle.rings.proofs.events.push_event.Goals as goal

pub returns : goal.returns
returns c =
    let e : Entry = record { first = c.args.event.tick.0 * 4_294_967_296 + c.args.event.tid.0; second = c.kind_word.result } in
    record {
      ok = c.push_entry.ensures.ok;
      events = event-written (capacity c.args.ring.now) c.args.ring.now c.push_entry.new.ring c.args.pos c.push_entry.result e (event_meant c.args.event) c.push_entry.ensures.entries (event-packed c.args.event.tick.0 c.args.event.tid.0 c.kind_word.result (omega arith) ∙ ap (λ (x : EventKind). record { tick = c.args.event.tick.0; tid = c.args.event.tid.0; kind = x }) c.kind_word.ensures);
      behind = c.push_entry.ensures.behind;
    }
