use mathlib.Core.Path.{ap}
use Prim.Native.Nat.{◌/◌, ◌%◌}
use Rattle.model.specs.Types.{EventKind}
use Rattle.rings.proofs.EventLaws.{event-read}
use Rattle.rings.proofs.events.event_at.Goals as goal

pub returns : goal.returns
returns c =
    event-read c.args.ring.now c.args.pos c.args.k c.entry_at-first.result _ c.entry_at-first.ensures (ap (λ (x : EventKind). record { tick = c.entry_at-first.result.first / 4_294_967_296; tid = c.entry_at-first.result.first % 4_294_967_296; kind = x }) c.kind_of.ensures)
