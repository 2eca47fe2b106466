use Rattle.report_io.proofs.Standing.{refilled}
use Rattle.report_io.proofs.input.refill.Goals as goal

pub returns : goal.returns
returns c =
    refilled c.args.at c.args.end c.args.blocks.now c.read_full.new.buf c.requires.0 c.requires.1 c.requires.2 c.move_rest.new.blocks c.move_rest.ensures c.read_full.result c.read_full.auto.buf c.read_full.ensures.0
