-- One turn more: every core reports, and the tick ends.
use Rattle.std.proofs.Common.{arith}
use Rattle.ticking.proofs.Running.{Reported, turns-none, turns_next}
use Rattle.ticking.proofs.run_ticks.Goals as goal

pub loop-init : goal.loop-init
loop-init c = turns-none _ _

pub end_tick-t-requires : goal.end_tick-t-requires
end_tick-t-requires c = (c.retired_all-reported.ensures _ (c.loop.invariant.ran (c.requires (omega arith))).valid).valid

pub loop-preserved : goal.loop-preserved
unfolding Reported
loop-preserved c = turns_next _ c.loop.last c.retired_all-reported.result _ _ _ _ c.loop.counter _ c.loop.invariant c.retired_all-reported.ensures c.end_tick-t.ensures.done
