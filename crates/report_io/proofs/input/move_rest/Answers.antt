use Rattle.report_io.proofs.Standing.{copied-front}
use Rattle.report_io.proofs.input.move_rest.Goals as goal

pub returns : goal.returns
returns c = copied-front c.args.at c.args.n _ _ c.copy_within.ensures.after
