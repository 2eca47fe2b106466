use Rattle.std.proofs.Common.{rules, tests}
use Rattle.queue.proofs.Scan.{front_picked}
use Rattle.queue.proofs.pick.front.Goals as goal

pub returns-else-is_empty : goal.returns-else-is_empty
returns-else-is_empty c = record { picked = front_picked c.args.waiting.now; within = search (rules, tests) }
