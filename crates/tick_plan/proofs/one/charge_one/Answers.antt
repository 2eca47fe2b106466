use borrow.Author.Rules.{rules}
use mathlib.Core.Path.{refl}
use Rattle.tick_plan.proofs.OneCore.{ticks-room, lane-fits, lane-ring, charged-one}
use Rattle.tick_plan.proofs.one.charge_one.Goals as goal

pub charge_core-requires : goal.charge_core-requires
charge_core-requires c = ticks-room c.args.s c.args.lanes.now c.requires.0 c.requires.1 _ refl

pub charge_part-requires : goal.charge_part-requires
charge_part-requires c =
    (search rules, lane-fits c.args.s c.args.lanes.now c.requires.0 c.requires.1 _ refl, lane-ring c.args.s c.args.lanes.now c.requires.0 c.requires.1 _ refl, c.requires.0.now)

pub returns : goal.returns
returns c =
    charged-one c.args.s c.args.lanes.now c.requires.0 c.requires.1 _ refl _ c.state_in-state.ensures _ c.charge_core.ensures _ c.charge_part.result c.charge_part.ensures.charged c.charge_part.ensures.outside (search rules) c.requires.0.eight_ticks c.requires.0.eight_lanes
