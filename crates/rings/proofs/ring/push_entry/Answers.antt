use Rattle.rings.proofs.EntryLaws.{pushed_room, pushed-full}
use Rattle.rings.proofs.ring.push_entry.Goals as goal

pub returns-then-len-slots : goal.returns-then-len-slots
returns-then-len-slots c = record {
  ok = (pushed_room c.args.ring.now c.store_entry.new.ring c.args.pos c.args.entry c.next_slot-next.result c.requires c.next_slot-next.ensures.0 c.store_entry.ensures c.if-len-slots.true).0;
  entries = (pushed_room c.args.ring.now c.store_entry.new.ring c.args.pos c.args.entry c.next_slot-next.result c.requires c.next_slot-next.ensures.0 c.store_entry.ensures c.if-len-slots.true).1.0;
  behind = (pushed_room c.args.ring.now c.store_entry.new.ring c.args.pos c.args.entry c.next_slot-next.result c.requires c.next_slot-next.ensures.0 c.store_entry.ensures c.if-len-slots.true).1.1;
}

pub returns : goal.returns
returns c = record {
  ok = (pushed-full c.args.ring.now c.store_entry.new.ring c.args.pos c.args.entry c.next_slot-next.result c.requires c.next_slot-next.ensures.0 c.store_entry.ensures c.if-len-slots.false).0;
  entries = (pushed-full c.args.ring.now c.store_entry.new.ring c.args.pos c.args.entry c.next_slot-next.result c.requires c.next_slot-next.ensures.0 c.store_entry.ensures c.if-len-slots.false).1.0;
  behind = (pushed-full c.args.ring.now c.store_entry.new.ring c.args.pos c.args.entry c.next_slot-next.result c.requires c.next_slot-next.ensures.0 c.store_entry.ensures c.if-len-slots.false).1.1;
}
