use mathlib.Core.Path.{refl}
use Rattle.tick_plan.proofs.Quiet.{nothing_written}
use Rattle.tick_plan.proofs.tick.write_nothing.Goals as goal

pub returns : goal.returns
returns c =
    (refl, nothing_written c.args.s c.args.lanes.now (record { log = c.args.s.log; takes = 0; switches = c.switch_list.result }) refl refl c.switch_list.ensures)
