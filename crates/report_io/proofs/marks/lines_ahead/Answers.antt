use borrow.Author.Tests.{not-false}
use Rattle.report_io.proofs.Marking.{none_ahead, some-ahead}
use Rattle.report_io.proofs.marks.lines_ahead.Goals as goal

pub returns-then-not-takes_marks : goal.returns-then-not-takes_marks
returns-then-not-takes_marks c =
    none_ahead c.args.r c.args.p c.args.blocks.now c.requires.0 c.no_marks.result c.no_marks.ensures

pub returns : goal.returns
returns c =
    some-ahead c.args.r c.args.p c.args.blocks.now c.requires.0 c.requires.1 (c.takes_marks.ensures (not-false c.takes_marks.result c.if-not-takes_marks.false-raw)) c.marks_ahead.result c.marks_ahead.ensures
