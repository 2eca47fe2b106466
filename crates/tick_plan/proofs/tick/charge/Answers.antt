use Rattle.tick_plan.proofs.Parts.{charged}
use Rattle.tick_plan.proofs.tick.charge.Goals as goal

pub returns : goal.returns
returns c =
    charged c.args.s _ _ _ c.unpack-states.result c.unpack-states.ensures c.charge_each.ensures.ticks c.charge_each.ensures.lanes c.charge_each.ensures.eight.0 c.charge_each.ensures.eight.1
