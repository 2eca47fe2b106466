use Rattle.new_plan.specs.First.{first_sched}
use Rattle.new_plan.proofs.first_sched.Goals as goal

pub returns : goal.returns
unfolding first_sched
returns c = rw (c.core_count.ensures, c.others_idle.ensures)
