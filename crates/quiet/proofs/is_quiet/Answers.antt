use Rattle.quiet.proofs.Cores.{quiet-priority, quiet-others}
use Rattle.quiet.proofs.is_quiet.Goals as goal

pub returns-then-is_priority : goal.returns-then-is_priority
returns-then-is_priority c = quiet-priority c.args.s _ c.is_priority.ensures c.if-is_priority.true

pub returns : goal.returns
returns c = quiet-others c.args.s _ c.is_priority.ensures c.if-is_priority.false _ _ c.is_preemptive.ensures c.are_calm.ensures
