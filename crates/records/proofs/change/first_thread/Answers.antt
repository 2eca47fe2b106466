use Rattle.records.proofs.Steps.{first_step, first-room}
use Rattle.records.proofs.change.first_thread.Goals as goal

pub dispatched-requires : goal.dispatched-requires
dispatched-requires c = first-room _ _ c.new_thread-t.ensures

pub returns : goal.returns
returns c = first_step _ _ _ _ c.new_thread-t.ensures c.dispatched.ensures c.ran_first.ensures
