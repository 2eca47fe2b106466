use Rattle.rings.proofs.EntryLaws.{behind-none}
use Rattle.accounts.proofs.log.log_move.Goals as goal

pub returns-in-Leaves : goal.returns-in-Leaves
returns-in-Leaves c = record {
  ok = c.push_event.ensures.ok;
  events = rw c.in-Leaves.is c.push_event.ensures.events;
  behind = c.push_event.ensures.behind;
}

pub returns-in-Takes : goal.returns-in-Takes
returns-in-Takes c = record {
  ok = c.push_event-in-Takes.ensures.ok;
  events = rw c.in-Takes.is c.push_event-in-Takes.ensures.events;
  behind = c.push_event-in-Takes.ensures.behind;
}

pub returns-in-Starts : goal.returns-in-Starts
returns-in-Starts c = record {
  ok = c.requires.0;
  events = rw c.in-Starts.is;
  behind = behind-none _ _;
}
