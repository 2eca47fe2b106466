use borrow.Author.Rules.{rules}
use native.Mathlib.Omega.{arith}
use mathlib.Core.Path.{◌≡◌, sym}
use lib.ListN.{length, take}
use lib.Seq.{length-take-le}
use Rattle.new_plan.proofs.Parts.{first-put}
use Rattle.new_plan.proofs.log_first.Goals as goal

pub slice_bounds-push_first-end-2 : goal.slice_bounds-push_first-end-2
slice_bounds-push_first-end-2 c = sym (length-take-le _ _ (omega arith))

pub returns : goal.returns
returns c =
    let z : length c.push_first.new.ring ≡ length (take c.args.words c.args.log.now) = search rules in
    first-put c.args.words c.args.log.now c.push_first.new.ring c.push_first.result c.requires.0 z c.push_first.ensures.ok c.push_first.ensures.events
