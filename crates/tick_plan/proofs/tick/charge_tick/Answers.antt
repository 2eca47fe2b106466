use borrow.Author.Rules.{rules}
use Rattle.tick_plan.proofs.Parts.{charged}
use Rattle.tick_plan.proofs.tick.charge_tick.Goals as goal

pub charge_one-requires : goal.charge_one-requires
charge_one-requires c = (search rules, search rules)

pub returns-then-s-eq1 : goal.returns-then-s-eq1
returns-then-s-eq1 c = c.charge_one.ensures

pub returns : goal.returns
returns c =
    charged c.args.s _ _ _ c.unpack-states.result c.unpack-states.ensures c.charge_each.ensures.ticks c.charge_each.ensures.lanes c.charge_each.ensures.eight.0 c.charge_each.ensures.eight.1
