use Rattle.feed.proofs.Results.{totals-fit}
use Rattle.feed.proofs.finish.Goals as goal

pub totals-sums-requires : goal.totals-sums-requires
totals-sums-requires c = totals-fit c.args.r _ c.record_count.ensures _ c.requires.0.4
