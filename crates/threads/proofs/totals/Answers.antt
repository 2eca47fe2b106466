-- The sums over the records before this one: one record more with each turn.
use Rattle.std.proofs.Common.{arith, length-take, ◌∙◌}
use Rattle.record_reads.proofs.Summing.{default-is}
use Rattle.threads.proofs.Reading.{sums_none, turn-sums, turn-fits}
use Rattle.threads.proofs.totals.Goals as goal

pub loop-t-init : goal.loop-t-init
loop-t-init c = default-is _ c.default-sums.ensures ∙ sums_none c.args.threads.now

pub totaled-sums-requires : goal.totaled-sums-requires
totaled-sums-requires c = turn-fits c.args.threads.now c.loop-t.t-index c.args.n _ c.loop-t.sums (omega (arith, length-take c.args.n c.args.threads.now)) c.requires.0 c.loop-t.invariant c.requires.1

pub loop-t-preserved : goal.loop-t-preserved
loop-t-preserved c = c.totaled-sums.ensures ∙ turn-sums c.args.threads.now c.loop-t.t-index c.args.n _ c.loop-t.sums (omega (arith, length-take c.args.n c.args.threads.now)) c.requires.0 c.loop-t.invariant
