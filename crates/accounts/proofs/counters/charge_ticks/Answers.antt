use native.Mathlib.Omega.{arith}
use mathlib.Core.Path.{◌∙◌}
use lib.ListN.{length-set}
use Rattle.accounts.proofs.Counting.{ticks-next}
use Rattle.accounts.proofs.counters.charge_ticks.Goals as goal

pub loop-i-preserved : goal.loop-i-preserved
loop-i-preserved c =
    let h = c.loop-i.invariant in
    (length-set c.loop-i.charged c.loop-i.i _ ∙ h.0, ticks-next c.loop-i.i c.args.states c.args.ticks c.loop-i.charged _ h.1 (omega (arith, h.0, c.loop-i-test.true, c.requires.0)) c.charge_core.ensures)
