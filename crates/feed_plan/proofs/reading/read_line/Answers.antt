use mathlib.Core.Path.{subst}
use Rattle.feed_plan.specs.declared.Reader.{Reader}
use Rattle.feed_plan.specs.Feeding.{LineRead, report_of}
use Rattle.feed_plan.proofs.reading.read_line.Goals as goal

pub returns : goal.returns
returns c = subst (λ (k : Reader). LineRead (report_of k c.args.r.sched) c.args.piece.now c.read_piece.result) c.reader_of.ensures (c.read_piece.ensures c.args.r.sched)
