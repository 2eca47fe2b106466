use mathlib.Core.Path.{◌≡◌, subst}
use mathlib.Core.Bool.{false}
use borrow.Author.Tests.{not-true, not-false}
use Rattle.std.specs.Prelude.{◌&&◌}
use Rattle.sched_marks.specs.Change.{with_progressed}
use Rattle.feed_plan.specs.declared.Reader.{Reader}
use Rattle.feed_plan.specs.Feeding.{report_of}
use Rattle.report_io.specs.Blocks.{NextLine, takes_lines}
use Rattle.report_io.proofs.Printing.{passed-last, passed-next, no-left, no-right, both_so}
use Rattle.report_io.proofs.printed.pass.Goals as goal
use Rattle.report_io.proofs.printed.pass.Goals.{then-not-p-via-then-not-p, then-not-p-via-else-not-p+then-not-takes_lines}

pub returns-then-not-p : goal.returns-then-not-p
returns-then-not-p c =
    let none : c.written-p.result.all_written && takes_lines c.args.next.report.stage ≡ false =
    elim c.then-not-p.branch [
      | then-not-p-via-then-not-p w ↦ no-left c.written-p.result.all_written _ (not-true c.written-p.result.all_written w.if-not-p.true)
      | then-not-p-via-else-not-p+then-not-takes_lines w ↦ no-right c.written-p.result.all_written w.takes_lines.result _ w.takes_lines.ensures (not-true w.takes_lines.result w.if-not-takes_lines.true-raw)
    ]
    in
    passed-last c.args.u c.args.next c.args.blocks.now c.said-after.new.blocks c.said-after.result c.written-p.result c.requires.0 c.requires.1 c.requires.3 c.said-after.ensures.1 c.said-after.ensures.2 c.written-p.ensures.1 c.unmarked.result c.unmarked.ensures c.last.result c.last.ensures.0 c.last.ensures.1 none

pub returns : goal.returns
returns c =
    passed-next c.args.u c.args.next c.args.blocks.now c.said-after.new.blocks c.said-after.result c.written-p.result c.requires.0 c.requires.1 c.requires.3 c.said-after.ensures.1 c.said-after.ensures.2 c.written-p.ensures.1 c.lines_ahead-ahead.result c.lines_ahead-ahead.ensures c.marked_by-marked.result c.marked_by-marked.ensures c.place_after.result c.place_after.ensures c.next_line.new.blocks c.next_line.result
    (subst (λ (k : Reader). NextLine (report_of k (with_progressed c.marked_by-marked.result.progressed c.args.next.report.sched)) c.place_after.result c.marked_by-marked.result c.said-after.new.blocks c.next_line.new.blocks c.next_line.result) c.reader_after.ensures (c.next_line.ensures (with_progressed c.marked_by-marked.result.progressed c.args.next.report.sched)))
    (both_so c.written-p.result.all_written c.takes_lines.result _ c.takes_lines.ensures (not-false c.written-p.result.all_written c.if-not-p.false) (not-false c.takes_lines.result c.if-not-takes_lines.false-raw))
