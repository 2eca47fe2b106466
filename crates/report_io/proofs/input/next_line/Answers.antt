use native.Mathlib.Omega.{arith}
use mathlib.Core.Path.{sym, subst}
use Rattle.feed_plan.specs.Feeding.{report_of}
use Rattle.report_io.specs.declared.Upcoming.{Upcoming}
use Rattle.report_io.specs.Blocks.{NextLine}
use Rattle.report_io.proofs.Frequent.{tick-reads, tick-ends}
use Rattle.report_io.proofs.Standing.{filled-enough, next-some}
use Rattle.report_io.proofs.input.next_line.Goals as goal

pub returns-then-is_tick : goal.returns-then-is_tick
returns-then-is_tick c =
    let t = c.is_tick.ensures c.if-is_tick.true in
    λ h. subst (λ (v : Upcoming). NextLine (report_of c.args.k h) c.args.before c.args.marked c.args.blocks.now c.args.blocks.now v) (sym c.tick_line.ensures)
    (next-some (report_of c.args.k h) c.args.before c.args.before c.args.marked c.args.blocks.now c.args.blocks.now (filled-enough c.args.before c.args.blocks.now c.requires.1 t.enough) c.requires.2 (omega (arith, t.enough)) _ (tick-ends c.args.k c.args.before c.args.blocks.now t) _ (tick-reads c.args.k c.args.before c.args.blocks.now t h))
