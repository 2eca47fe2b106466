use mathlib.Core.Path.{subst}
use Rattle.feed_plan.specs.declared.Reader.{Reader}
use Rattle.feed_plan.specs.Feeding.{report_of}
use Rattle.report_io.specs.declared.Marked.{Marked}
use Rattle.report_io.specs.Blocks.{beginning, NextLine}
use Rattle.report_io.proofs.first.first_line.Goals as goal

pub returns : goal.returns
returns c =
    subst (λ (m : Marked). NextLine c.args.r beginning m c.args.blocks.now c.any_line.new.blocks c.any_line.result) c.unmarked.ensures
    (subst (λ (k : Reader). NextLine (report_of k c.args.r.sched) beginning c.unmarked.result c.args.blocks.now c.any_line.new.blocks c.any_line.result) c.reader_of.ensures (c.any_line.ensures c.args.r.sched))
