-- What the next call asks, and what it leaves after the calls before it.
use Rattle.std.proofs.Common.{arith, rules}
use Rattle.replay.proofs.Lists.{all_valid, all-next, all-made}
use Rattle.replay.proofs.apply_all.Goals as goal

pub apply-last-requires : goal.apply-last-requires
apply-last-requires c = all_valid _ _ _ _ _ c.loop-call.invariant.0 (c.requires (omega arith))

pub loop-call-preserved : goal.loop-call-preserved
loop-call-preserved c = (all-next _ _ _ _ _ _ c.args.calls.now c.loop-call.call-index _ (omega arith) c.loop-call.invariant.0 c.apply-last.ensures.done, search rules)

pub returns-clause-done : goal.returns-clause-done
returns-clause-done c = all-made _ c.loop-call.call-index _ _ _ _ (omega arith) c.loop-call.invariant.0
