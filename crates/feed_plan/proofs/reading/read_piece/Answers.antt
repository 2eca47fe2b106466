use Rattle.feed_plan.specs.Feeding.{report_of}
use Rattle.feed_plan.proofs.Lines.{heads-feed, calls-feed, rests-read, heads-fit, calls-fit}
use Rattle.feed_plan.proofs.reading.read_piece.Goals as goal

pub returns-in-Heads : goal.returns-in-Heads
returns-in-Heads c =
    λ s. record { says = heads-feed (report_of c.args.k s) c.args.piece.now c.read_heading.result c.in-Heads.is c.read_heading.ensures.says; fits = heads-fit (report_of c.args.k s) c.read_heading.result c.in-Heads.is c.requires c.read_heading.ensures.fits }

pub returns-in-Calls : goal.returns-in-Calls
returns-in-Calls c =
    λ s. record { says = calls-feed (report_of c.args.k s) c.args.piece.now c.read_calling.result c.in-Calls.is c.read_calling.ensures.says; fits = calls-fit (report_of c.args.k s) c.read_calling.result c.in-Calls.is c.requires c.read_calling.ensures.fits }

pub returns-in-Ended : goal.returns-in-Ended
returns-in-Ended c = λ s. rests-read (report_of c.args.k s) c.args.piece.now c.in-Ended.is
