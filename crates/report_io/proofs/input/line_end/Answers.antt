use Rattle.report_io.proofs.Standing.{line-ends}
use Rattle.report_io.proofs.input.line_end.Goals as goal

pub returns : goal.returns
returns c =
    line-ends c.args.at c.args.end c.args.blocks.now c.requires.0 c.min-most.result c.min-most.ensures c.piece_end.result c.piece_end.ensures
