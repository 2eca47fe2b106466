use mathlib.Core.Path.{sym}
use lib.Seq.{length-take-le}
use Rattle.tick_plan.proofs.Parts.{written}
use Rattle.tick_plan.proofs.tick.write_at.Goals as goal

pub slice_bounds-log_moves-end-2 : goal.slice_bounds-log_moves-end-2
slice_bounds-log_moves-end-2 c = sym (length-take-le _ _ c.requires.words)

pub returns : goal.returns
returns c =
    written c.args.events c.args.pos c.args.tick.0 _ c.args.log.now c.log_moves-log.new.ring _ c.requires.words c.log_moves-log.auto.ring c.log_moves-log.ensures.ok c.log_moves-log.ensures.events c.count_takes-takes.ensures.takes c.switch_list-switches.ensures
