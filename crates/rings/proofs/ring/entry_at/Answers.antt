use Rattle.rings.proofs.EntryLaws.{entry_read}
use Rattle.rings.proofs.ring.entry_at.Goals as goal

pub returns : goal.returns
returns c = entry_read c.args.ring.now c.args.pos c.requires.0 c.args.k c.slot_before-slot.result c.requires.1 c.slot_before-slot.ensures.0 c.slot_before-slot.ensures.1
