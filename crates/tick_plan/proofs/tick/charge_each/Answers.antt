use borrow.Author.Rules.{rules}
use Rattle.tick_plan.proofs.tick.charge_each.Goals as goal

pub returns : goal.returns
returns c = record {
  ticks = c.charge_ticks-ticks.ensures;
  lanes = c.charge_lanes-lanes.ensures;
  eight = search rules;
}
