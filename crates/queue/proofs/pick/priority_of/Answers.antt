-- `queue::pick::priority_of` meets its contract. Assumes nothing.
use mathlib.Core.Path.{sym}
use lib.ListN.{get_or-eq_default}
use Rattle.queue.proofs.pick.priority_of.Goals as goal

pub returns-else-i-prios : goal.returns-else-i-prios
returns-else-i-prios c = sym (get_or-eq_default c.args.prios.now 0 c.if-i-prios.false)
