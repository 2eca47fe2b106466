use Rattle.std.proofs.Common.{◌≡◌, arith}
use mathlib.Core.Path.{refl}
use lib.ListN.{length-take}
use Rattle.text.proofs.Puts.{wrote_none}
use Rattle.script.specs.Report.{switch_texts}
use Rattle.output.proofs.Listing.{next_room, next_put}
use Rattle.output.proofs.lines.put_switches.Goals as goal

pub loop-entry-init : goal.loop-entry-init
unfolding switch_texts
loop-entry-init c = wrote_none c.args.w.now (omega arith)

pub put_switch-requires : goal.put_switch-requires
put_switch-requires c =
    next_room _ _ _ c.args.switches.count _ (omega (arith, length-take c.args.switches.count c.args.switches.entries)) (omega arith) refl c.loop-entry.invariant c.requires.1

pub loop-entry-preserved : goal.loop-entry-preserved
loop-entry-preserved c =
    next_put _ _ _ c.args.switches.count _ (omega (arith, length-take c.args.switches.count c.args.switches.entries)) (omega arith) refl c.loop-entry.invariant c.put_switch.ensures

pub returns : goal.returns
returns c =
    let all : c.loop-entry.entry-index ≡ c.args.switches.count = omega (arith, length-take c.args.switches.count c.args.switches.entries) in
    rw all at c.loop-entry.invariant
