use native.Mathlib.Omega.{arith}
use mathlib.Core.Path.{◌≡◌, sym}
use lib.ListN.{length, take}
use lib.Seq.{length-take-le}
use Rattle.exit_plan.proofs.Parts.{wakes-put}
use Rattle.exit_plan.proofs.log_woken.Goals as goal

pub slice_bounds-log_wakes-end-2 : goal.slice_bounds-log_wakes-end-2
slice_bounds-log_wakes-end-2 c = sym (length-take-le _ _ (omega arith))

pub returns : goal.returns
returns c =
    let z : length c.log_wakes.new.ring ≡ length (take c.args.words c.args.log.now) = omega arith in
    wakes-put c.args.words c.args.tick.0 _ c.args.log.now c.log_wakes.new.ring c.args.pos c.log_wakes.result c.requires.0 z c.log_wakes.ensures.ok c.log_wakes.ensures.events
